-- The last line of a stream, written or not.
use Rattle.std.proofs.Common.{◌≡◌, ◌≢◌, ◌⊎◌, ◌++◌, ◌∙◌, ◌&&◌, ℕ, Bool, List, [], inl, inr, length, Option, Some, None, Result, Ok, Err, refl, sym, ap, subst, append_assoc, append-nil}
use Rattle.std.proofs.KnownBytes.{Appends-trans}
use Rattle.std.specs.Io.KnownBytes.{Appends, IsAtEnd}
use Rattle.std.specs.Prelude.{MatchResult}
use Rattle.ber_core.proofs.CallerLemmas.{cut-longer}
use Rattle.ber_core.specs.declared.fault.FeedFault.{FeedFault}
use Rattle.ber_core.specs.Feeding.{Left, StandsBehind, left_by}
use Rattle.ber_core.specs.Stream.{Cut, cut_of}
use Rattle.tcap_text.proofs.StreamLines.{lines-append}
use Rattle.tcap_text.specs.StreamRun.{IsRead, IsOver, IsStreamed, IsUnstreamed, read_of}
use Rattle.tcap_text.specs.StreamSteps.{AreCompleted, IsFinished, IsUnended}
use Rattle.tcap_text.specs.StreamText.{all_good, ends_by, last_line, last_line_by, verdict_lines}
use Rattle.tcap_text.specs.declared.fault.PlayFault.{PlayFault}
use Rattle.tcap_text.specs.declared.fault.PlayFault.TheVariants as fault

-- ---- what a feed holds

line-left : (o : Option FeedFault) (rest : List ℕ) → last_line_by (left_by o rest).fault (length (left_by o rest).rest) ≡ last_line_by o (length rest)
line-left None rest = refl
line-left (Some f) rest = refl

ends-left : (o : Option FeedFault) (rest : List ℕ) → ends_by (left_by o rest).fault (length (left_by o rest).rest) ≡ ends_by o (length rest)
ends-left None rest = refl
ends-left (Some f) rest = refl

fault-left : (o : Option FeedFault) (rest : List ℕ) → (left_by o rest).fault ≡ o
fault-left None rest = refl
fault-left (Some f) rest = refl

module _ (stream : List ℕ) (feed : Left) (stands : StandsBehind stream feed) where
  -- the last line is that of the stream
  pub line-of : last_line_by feed.fault (length feed.rest) ≡ last_line (cut_of stream)
  line-of = ap (λ (l : Left). last_line_by l.fault (length l.rest)) stands ∙ line-left (cut_of stream).fault (cut_of stream).rest

  -- it ends as the stream does
  pub ends-of : ends_by feed.fault (length feed.rest) ≡ ends_by (cut_of stream).fault (length (cut_of stream).rest)
  ends-of = ap (λ (l : Left). ends_by l.fault (length l.rest)) stands ∙ ends-left (cut_of stream).fault (cut_of stream).rest

  -- its fault is the stream's
  pub fault-of : feed.fault ≡ (cut_of stream).fault
  fault-of = ap (λ (l : Left). l.fault) stands ∙ fault-left (cut_of stream).fault (cut_of stream).rest

-- ---- what a piece completes

pub completed-of : (stream piece : List ℕ) → AreCompleted stream piece (cut_of ((cut_of stream).rest ++ piece)).messages
completed-of stream piece = record { messages = ap (λ (c : Cut). c.messages) (cut-longer stream piece) }

-- ---- the last line

-- the lines of all messages were written, and no more is read
pub record IsReady (had left old new : Option (List ℕ)) (good : Bool) (feed : Left) : Type 0 where
  pub read : IsRead had left
  pub over : IsOver read
  pub wanted : (read.piece ≢ []) ⊎ ((read.piece ≡ []) × IsAtEnd left)
  pub stands : StandsBehind (read_of read) feed
  pub written : Appends old new (verdict_lines (cut_of (read_of read)).messages)
  pub verdict : good ≡ all_good (cut_of (read_of read)).messages

-- the last line was written
pub finished : (had left old mid new : Option (List ℕ)) (good ends : Bool) (feed : Left) → IsReady had left old mid good feed → IsFinished feed good mid new ends → IsStreamed had left old new ends
finished had left old mid new good ends feed r f =
    let stream = read_of r.read in
    record {
      read = r.read;
      over = r.over;
      written = subst (Appends old new) (ap (λ t. verdict_lines (cut_of stream).messages ++ t) (line-of stream feed r.stands)) (Appends-trans old mid new _ _ r.written f.0);
      verdict = f.1 ∙ ap (λ (b : Bool). b && ends_by feed.fault (length feed.rest)) r.verdict ∙ ap (λ (b : Bool). all_good (cut_of stream).messages && b) (ends-of stream feed r.stands);
    }

wanted-of : (had left : Option (List ℕ)) (read : IsRead had left) (feed : Left) → StandsBehind (read_of read) feed → last_line_by feed.fault (length feed.rest) ≢ [] → ((read.piece ≢ []) ⊎ ((read.piece ≡ []) × IsAtEnd left)) → ((read.piece ≢ []) ⊎ (IsAtEnd left × (last_line (cut_of read.before) ≢ [])))
wanted-of had left read feed stands some (inl piece) = inl piece
wanted-of had left read feed stands some (inr (none, at_end)) =
    let same : read_of read ≡ read.before = ap (λ p. read.before ++ p) none ∙ append-nil read.before in
    inr (at_end, subst (λ t. t ≢ []) (line-of (read_of read) feed stands ∙ ap (λ (s : List ℕ). last_line (cut_of s)) same) some)

-- it was not
pub unfinished : (had left old mid new : Option (List ℕ)) (good : Bool) (feed : Left) (f : PlayFault) → IsReady had left old mid good feed → IsUnended feed mid new f → IsUnstreamed had left old new f
unfinished had left old mid new good feed fault.OutOfMemory r u =
    let more = completed-of r.read.before r.read.piece in
    let told = (cut_of ((cut_of r.read.before).rest ++ r.read.piece)).messages in
    record {
      read = r.read;
      wanted = wanted-of had left r.read feed r.stands u.1 r.wanted;
      told = told;
      untold = [];
      are_messages = more.messages ∙ ap (λ ms. (cut_of r.read.before).messages ++ ms) (sym (append-nil told));
      written = subst (Appends old new) (append-nil _ ∙ ap verdict_lines more.messages) (Appends-trans old mid new _ [] r.written u.0);
    }
unfinished had left old mid new good feed fault.Read r u = absurd u
unfinished had left old mid new good feed fault.Write r u =
    let stream = read_of r.read in
    let more = completed-of r.read.before r.read.piece in
    let told = (cut_of ((cut_of r.read.before).rest ++ r.read.piece)).messages in
    let before = verdict_lines (cut_of r.read.before).messages in
    let lines : verdict_lines (cut_of stream).messages ≡ before ++ verdict_lines told = ap verdict_lines more.messages ∙ lines-append (cut_of r.read.before).messages told in
    record {
      read = r.read;
      last = last_line (cut_of stream);
      is_last = inr (r.over, refl);
      front = verdict_lines told ++ u.front;
      rest = u.rest;
      is_text = ap (λ t. verdict_lines (cut_of stream).messages ++ t) (sym (line-of stream feed r.stands) ∙ u.is_text) ∙ ap (λ t. t ++ (u.front ++ u.rest)) lines ∙ append_assoc before (verdict_lines told) (u.front ++ u.rest) ∙ ap (λ t. before ++ t) (sym (append_assoc (verdict_lines told) u.front u.rest));
      is_cut = u.is_cut;
      written = subst (Appends old new) (ap (λ t. t ++ u.front) lines ∙ append_assoc before (verdict_lines told) u.front) (Appends-trans old mid new _ u.front r.written u.written);
    }
unfinished had left old mid new good feed fault.TooLong r u = absurd u

-- the last line was written, or it was not
pub ended : (had left old mid new : Option (List ℕ)) (good : Bool) (feed : Left) (r : Result Bool PlayFault) → IsReady had left old mid good feed → MatchResult r (λ ends. IsFinished feed good mid new ends) (λ f. IsUnended feed mid new f) → MatchResult r (λ ends. IsStreamed had left old new ends) (λ f. IsUnstreamed had left old new f)
ended had left old mid new good feed (Ok ends) ready h = finished had left old mid new good ends feed ready h
ended had left old mid new good feed (Err f) ready h = unfinished had left old mid new good feed f ready h
