-- A history is legal if its start is one, and three lists of its pairs are what they should be.
use Rattle.std.specs.Prelude.{◌≡◌, ℕ, true, false, IsTrue, List, [], ◌∷◌, map, ◌==◌}
use Rattle.tcap_examples.proofs.Apart.{apart, answer_number}
use Rattle.tcap_examples.specs.Wrong.WrongHistories.{Wrong, GoesWrong}
use Rattle.tcap_model.specs.Histories.History.{History, Start}
use Rattle.tcap_model.specs.Histories.Pair.{Pair, Past}
use Rattle.tcap_model.specs.Replies.Legal.{AreReplies, IsLegal, is_start}
use Rattle.tcap_model.specs.Replies.Reply.{reply}
use Rattle.tcap_model.specs.Words.Answer.{Answer}
use Rattle.tcap_model.specs.Words.InRange.{is_in_range}

-- The numbers of each event are in range.
abbrev pub AllInRange : Past → Type 0
AllInRange past = map (λ (pair : Pair). is_in_range pair.event) past ≡ map (λ (pair : Pair). true) past

-- The idle limit of each pair is that of the start.
abbrev pub AllLimited : Start → Past → Type 0
AllLimited start past = map (λ (pair : Pair). pair.idle_ms) past ≡ map (λ (pair : Pair). start.idle_ms) past

-- The reply to each event, after what stands before it.
abbrev pub replies : Start → Past → List Answer
replies start [] = []
replies start (pair ∷ past) = reply (record { start = start; pairs = past }) pair.event ∷ replies start past

-- These are the answers.
abbrev pub AllReplied : Start → Past → Type 0
AllReplied start past = map (λ (pair : Pair). pair.answer) past ≡ replies start past

head_same : {A : Type 0} {x y : A} {xs ys : List A} → x ∷ xs ≡ y ∷ ys → x ≡ y
head_same e = cc

tail_same : {A : Type 0} {x y : A} {xs ys : List A} → x ∷ xs ≡ y ∷ ys → xs ≡ ys
tail_same e = cc

are_replies : (start : Start) (past : Past) → AllInRange past → AllLimited start past → AllReplied start past
    → AreReplies start past
are_replies start [] in_range limited replied = tt
are_replies start (pair ∷ past) in_range limited replied = (
  record { in_range = head_same in_range; is_limited = head_same limited },
  head_same replied,
  are_replies start past (tail_same in_range) (tail_same limited) (tail_same replied),
)

-- Each of the four holds by computing it.
pub legal : (h : History) → IsTrue (is_start h.start) → AllInRange h.pairs → AllLimited h.start h.pairs
    → AllReplied h.start h.pairs → IsLegal h
legal h starts in_range limited replied = (starts, are_replies h.start h.pairs in_range limited replied)

-- ---- wrong answers

-- The history before a wrong answer.
abbrev pub before : Wrong → History
before w = record { start = w.start; pairs = w.before }

-- This number tells a wrong answer from the reply.
abbrev pub IsUnlike : (Answer → ℕ) → Wrong → Type 0
IsUnlike number w = (number w.last.answer == number (reply (before w) w.last.event)) ≡ false

-- A history goes wrong if it is legal up to its last answer, and a number tells this from the reply.
pub goes_wrong_by : (number : Answer → ℕ) (w : Wrong) → IsTrue (is_start w.start) → AllInRange w.before
    → AllLimited w.start w.before → AllReplied w.start w.before → IsUnlike number w → GoesWrong w
goes_wrong_by number w starts in_range limited replied unlike = record {
  legal_before = legal (before w) starts in_range limited replied;
  not_legal = λ whole. apart number whole.1.1 unlike;
}

-- The same with the number by which most answers are told apart.
pub goes_wrong : (w : Wrong) → IsTrue (is_start w.start) → AllInRange w.before → AllLimited w.start w.before
    → AllReplied w.start w.before → IsUnlike answer_number w → GoesWrong w
goes_wrong w starts in_range limited replied unlike =
    goes_wrong_by answer_number w starts in_range limited replied unlike
