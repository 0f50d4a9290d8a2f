-- What a play prints are the answers of its engines, in their order.
use Rattle.std.proofs.Common.{◌≡◌, ◌+◌, ◌-◌, ◌∙◌, ℕ, List, [], ◌∷◌, ◌++◌, length, Option, Some, None, refl, sym, ap, subst, inl, inr, length-append}
use Rattle.std.specs.Option.{option_map, option_and_then}
use Rattle.std.proofs.lemmas.Bool.{cases_Bool}
use Rattle.std.proofs.lemmas.List.{append_assoc, append-nil, length-set}
use Rattle.tcap_model.specs.Replies.Reply.{reply}
use Rattle.tcap_model.specs.Statements.Net.{Trace, side}
use Rattle.tcap_model.specs.Words.Event.{Event}
use Rattle.tcap_play.specs.AnswerText.{answer_lines}
use Rattle.tcap_play.specs.Opening.{opening_of}
use Rattle.tcap_play.specs.Pieces.{is_skipped, words_of}
use Rattle.tcap_play.specs.Play.{Fate, Message, Played, Printed, Stepped, carried, followed, handed, history_of, lost_from, message_in, messages_in, not_begun, printed_by, printed_from, received_from, sent_by, step, step_by, with_fate, with_sent}
use Rattle.tcap_play.specs.PlayNet.{IsShown, PlaysShowTheirAnswers, played_by, played_from, sent_count, shown_text}
use Rattle.tcap_play.specs.ScriptLine.{ScriptLine, line_of}
use Rattle.tcap_play.specs.ScriptWords.{MessageName}
use Rattle.tcap_play.specs.Sides.{Engine, address_of, far, number_of}
use Rattle.tcap_play.proofs.Nets.WordRanges.{Holds}

-- ---- the messages that were sent are counted

-- each engine has as many messages as its answers sent
abbrev pub Counted : Played → Type 0
Counted p = (engine : Engine) → length (sent_by engine p) ≡ sent_count (side (number_of engine) p.trace)

counted-fate : (engine : Engine) (fate : Fate) (number : ℕ) (message : Message) (p : Played) → Counted p
    → Counted (with_sent engine (with_fate fate number message (sent_by engine p)) p)
counted-fate Engine.a fate number message p counted Engine.a =
    length-set p.from_a (number - 1) (record message { fate = fate }) ∙ counted Engine.a
counted-fate Engine.a fate number message p counted Engine.b = counted Engine.b
counted-fate Engine.b fate number message p counted Engine.a = counted Engine.a
counted-fate Engine.b fate number message p counted Engine.b =
    length-set p.from_b (number - 1) (record message { fate = fate }) ∙ counted Engine.b

-- the trace is as it was
traced-fate : (engine : Engine) (messages : List Message) (p : Played) → (with_sent engine messages p).trace ≡ p.trace
traced-fate Engine.a messages p = refl
traced-fate Engine.b messages p = refl

-- ---- steps

-- a step prints the answers that it adds
record ShownBy (p : Played) (stepped : Stepped) : Type 0 where
  pub counted : Counted stepped.after
  pub shown : shown_text stepped.after.trace ≡ shown_text p.trace ++ stepped.text

handed-shown : (engine : Engine) (event : Event) (p : Played) → Counted p → ShownBy p (handed engine event p)
handed-shown Engine.a event p counted =
    let answer = reply (history_of Engine.a p) event in
    record {
      counted = go;
      shown = ap (λ n. shown_text p.trace ++ answer_lines Engine.a n answer) (sym (counted Engine.a));
    }
  where
    go : Counted (handed Engine.a event p).after
    go Engine.a =
        length-append p.from_a (messages_in (reply (history_of Engine.a p) event))
        ∙ ap (λ n. n + length (messages_in (reply (history_of Engine.a p) event))) (counted Engine.a)
    go Engine.b = counted Engine.b
handed-shown Engine.b event p counted =
    let answer = reply (history_of Engine.b p) event in
    record {
      counted = go;
      shown = ap (λ n. shown_text p.trace ++ answer_lines Engine.b n answer) (sym (counted Engine.b));
    }
  where
    go : Counted (handed Engine.b event p).after
    go Engine.a = counted Engine.a
    go Engine.b =
        length-append p.from_b (messages_in (reply (history_of Engine.b p) event))
        ∙ ap (λ n. n + length (messages_in (reply (history_of Engine.b p) event))) (counted Engine.b)

received-shown : (name : MessageName) (fate : Fate) (p : Played) (found : Option Message) → Counted p
    → Holds (ShownBy p) (option_map (received_from name fate p) found)
received-shown name fate p None counted = tt
received-shown name fate p (Some message) counted =
    let q : Played = with_sent name.engine (with_fate fate name.number message (sent_by name.engine p)) p in
    let next = handed-shown (far name.engine) (Event.received (address_of name.engine) message.octets) q (counted-fate name.engine fate name.number message p counted) in
    record {
      counted = next.counted;
      shown =
          next.shown
          ∙ ap (λ (t : Trace). shown_text t ++ (handed (far name.engine) (Event.received (address_of name.engine) message.octets) q).text)
          (traced-fate name.engine (with_fate fate name.number message (sent_by name.engine p)) p);
    }

lost-shown : (name : MessageName) (p : Played) (found : Option Message) → Counted p
    → Holds (ShownBy p) (option_map (lost_from name p) found)
lost-shown name p None counted = tt
lost-shown name p (Some message) counted = record {
  counted = counted-fate name.engine Fate.lost name.number message p counted;
  shown =
      ap shown_text (traced-fate name.engine (with_fate Fate.lost name.number message (sent_by name.engine p)) p)
      ∙ sym (append-nil (shown_text p.trace));
}

both-shown : (p : Played) (first : Stepped) (next : Played → Stepped) → ShownBy p first → ShownBy first.after (next first.after)
    → ShownBy p (followed first next)
both-shown p first next one two = record {
  counted = two.counted;
  shown =
      two.shown ∙ ap (λ t. t ++ (next first.after).text) one.shown
      ∙ append_assoc (shown_text p.trace) first.text (next first.after).text;
}

step-shown : (p : Played) (line : ScriptLine) → Counted p → Holds (ShownBy p) (step p line)
step-shown p (ScriptLine.call engine event) counted = handed-shown engine event p counted
step-shown p (ScriptLine.deliver name) counted =
    received-shown name Fate.delivered p (carried name Fate.waiting p) counted
step-shown p (ScriptLine.again name) counted =
    received-shown name Fate.delivered p (carried name Fate.delivered p) counted
step-shown p (ScriptLine.lose name) counted = lost-shown name p (message_in Fate.waiting name.number (sent_by name.engine p)) counted
step-shown p (ScriptLine.advance now) counted =
    let one = handed-shown Engine.a (Event.moment now) p counted in
    both-shown p (handed Engine.a (Event.moment now) p) (handed Engine.b (Event.moment now)) one
    (handed-shown Engine.b (Event.moment now) (handed Engine.a (Event.moment now) p).after one.counted)

line-shown : (p : Played) (line : Option ScriptLine) → Counted p → Holds (ShownBy p) (option_and_then (step p) line)
line-shown p None counted = tt
line-shown p (Some line) counted = step-shown p line counted

-- ---- lines

-- what is printed from a play on shows the answers up to the last
abbrev ShowsFrom : Played → Printed → Played → Type 0
ShowsFrom p printed last = IsShown printed.good (shown_text last.trace) (shown_text p.trace ++ printed.text)

step-shows : (p : Played) (number : ℕ) (printed : Played → Printed) (last : Played → Played) (stepped : Option Stepped)
    → Holds (ShownBy p) stepped → ((q : Played) → Counted q → ShowsFrom q (printed q) (last q))
    → ShowsFrom p (printed_by number printed stepped) (played_by last p stepped)
step-shows p number printed last None shown next = (number, refl)
step-shows p number printed last (Some stepped) shown next =
    let later = printed stepped.after in
    let same : shown_text stepped.after.trace ++ later.text ≡ shown_text p.trace ++ (stepped.text ++ later.text) =
    ap (λ t. t ++ later.text) shown.shown ∙ append_assoc (shown_text p.trace) stepped.text later.text in
    subst (λ (t : List ℕ). IsShown later.good (shown_text (last stepped.after).trace) t) same (next stepped.after shown.counted)

lines-shown : (lines : List (List ℕ)) (number : ℕ) (p : Played) → Counted p
    → ShowsFrom p (printed_from number p lines) (played_from p lines)
unfolding printed_from played_from
lines-shown [] number p counted = append-nil (shown_text p.trace)
lines-shown (line ∷ lines) number p counted = elim (cases_Bool (is_skipped line)) [
  | inl is ↦ rw is (lines-shown lines (number + 1) p counted)
  | inr isnt ↦
      rw isnt (step-shows p number (λ q. printed_from (number + 1) q lines) (λ q. played_from q lines) (step_by p line)
      (line-shown p (line_of (words_of line)) counted) (λ q more. lines-shown lines (number + 1) q more))
]

none-counted : (idle_ms : ℕ) → Counted (not_begun idle_ms)
none-counted idle_ms Engine.a = refl
none-counted idle_ms Engine.b = refl

pub plays-shown : PlaysShowTheirAnswers
plays-shown script =
    let opening = opening_of script in
    lines-shown opening.lines (opening.passed + 1) (not_begun opening.idle_ms) (none-counted opening.idle_ms)
