-- What happens to both engines in a play without a raw line meets Net.
use Rattle.std.proofs.Common.{◌≡◌, ◌-◌, ◌&&◌, not, nat_le, ℕ, zero, suc, Bool, true, false, List, [], ◌∷◌, Option, Some, None, refl, sym, subst, inl, inr, arith, if◌then◌else◌}
use Rattle.std.specs.Prelude.{bytes_eq, nat_eq}
use Rattle.std.specs.List.{list_all}
use Rattle.std.specs.Option.{option_map, option_and_then}
use Rattle.std.proofs.lemmas.Bool.{and_parts, cases_Bool, true≢false}
use Rattle.tcap_invocation.specs.Stage.{moment_limit}
use Rattle.tcap_laws.proofs.CallerLemmas.{TellsOf, apart-by, two_ends}
use Rattle.tcap_model.specs.Histories.Pair.{Pair, Past}
use Rattle.tcap_model.specs.Replies.Legal.{IsLegal, Suits}
use Rattle.tcap_model.specs.Replies.Reply.{reply}
use Rattle.tcap_model.specs.Statements.Net.{Engine as Net, AreApart, IsCarried, IsCarriedTo, Trace, side}
use Rattle.tcap_model.specs.Words.Address.{Address}
use Rattle.tcap_model.specs.Words.Event.{Event}
use Rattle.tcap_model.specs.Words.InRange.{InRange}
use Rattle.tcap_play.specs.Opening.{opening_of}
use Rattle.tcap_play.specs.Pieces.{is_skipped, lines_of, words_of}
use Rattle.tcap_play.specs.Play.{Fate, Message, Played, Stepped, carried, handed, history_of, lost_from, message_in, not_begun, play_start, received_from, sent_by, step, step_by, with_fate, with_sent}
use Rattle.tcap_play.specs.PlayNet.{PlaysHaveTwoEnds, PlaysMeetNet, is_raw, is_raw_line, net_of, played_by, played_from}
use Rattle.tcap_play.specs.ScriptLine.{ScriptLine, line_of}
use Rattle.tcap_play.specs.ScriptWords.{MessageName}
use Rattle.tcap_play.proofs.Nets.LineRanges.{LineIn, line-in}
use Rattle.tcap_play.proofs.Nets.WordRanges.{Holds}
use Rattle.tcap_play.proofs.Nets.OpenedScripts.{opening-all, opening-low, play-starts}
use Rattle.tcap_play.proofs.Nets.PlayMessages.{GoesThere, IsSent, WereSent, sent-before, answered-sent, carried-sent, set-sent, found-sent}
use Rattle.tcap_play.specs.Sides.{Engine, address_of, far, number_of, play_places}

-- ---- where the engines are

-- A is at its address, any other is B's
abbrev at_whose : Address → Net
at_whose address = if bytes_eq address (address_of Engine.a) then 0 else 1

places-apart : AreApart play_places
places-apart = apart-by at_whose play_places told
  where
    told : (engine : Net) → TellsOf at_whose engine (play_places engine)
    told zero = (refl, tt)
    told (suc zero) = (refl, tt)
    told (suc (suc number)) = tt

-- ---- a play

-- a pair of another engine isn't among those of this one
other-side : (engine which : Net) (pair : Pair) (trace : Trace) → nat_eq engine which ≡ false
    → side engine (record { engine = which; pair = pair } ∷ trace) ≡ side engine trace
other-side engine which pair trace other = rw other refl

-- both sides' histories are legal, as is that of every other number; what was received was sent before; and
-- so were the messages to the other side that there are
record Sound (p : Played) : Type 0 where
  pub is_legal : (engine : Net) → IsLegal (record { start = play_start p.idle_ms; pairs = side engine p.trace })
  pub is_carried : IsCarried play_places p.trace
  pub were_sent :
      (engine : Engine) → WereSent (number_of (far engine)) (address_of (far engine)) (side (number_of engine) p.trace) (sent_by engine p)

handed-sound : (engine : Engine) (event : Event) (p : Played) → Sound p → InRange event
    → IsCarriedTo play_places (number_of engine) event p.trace → Sound (handed engine event p).after
handed-sound Engine.a event p sound within heard =
    record { is_legal = legal; is_carried = (heard, sound.is_carried); were_sent = sent }
  where
    pair : Pair
    pair = record { event = event; answer = reply (history_of Engine.a p) event; idle_ms = p.idle_ms }

    suits : Suits (play_start p.idle_ms) pair
    suits = record { in_range = within; is_limited = refl }

    legal : (engine : Net) → IsLegal (record { start = play_start p.idle_ms; pairs = side engine (handed Engine.a event p).after.trace })
    legal zero = let before = sound.is_legal 0 in (before.0, (suits, refl, before.1))
    legal (suc number) =
        let other : nat_eq (suc number) 0 ≡ false = grind arith in
        subst (λ (pairs : Past). IsLegal (record { start = play_start p.idle_ms; pairs = pairs }))
        (sym (other-side (suc number) 0 pair p.trace other)) (sound.is_legal (suc number))

    sent : (engine : Engine) → WereSent (number_of (far engine)) (address_of (far engine)) (side (number_of engine) (handed Engine.a event p).after.trace) (sent_by engine (handed Engine.a event p).after)
    sent Engine.a = answered-sent 1 (address_of Engine.b) pair (side 0 p.trace) p.from_a refl (sound.were_sent Engine.a)
    sent Engine.b = sound.were_sent Engine.b
handed-sound Engine.b event p sound within heard =
    record { is_legal = legal; is_carried = (heard, sound.is_carried); were_sent = sent }
  where
    pair : Pair
    pair = record { event = event; answer = reply (history_of Engine.b p) event; idle_ms = p.idle_ms }

    suits : Suits (play_start p.idle_ms) pair
    suits = record { in_range = within; is_limited = refl }

    legal : (engine : Net) → IsLegal (record { start = play_start p.idle_ms; pairs = side engine (handed Engine.b event p).after.trace })
    legal zero = sound.is_legal 0
    legal (suc zero) = let before = sound.is_legal 1 in (before.0, (suits, refl, before.1))
    legal (suc (suc number)) =
        let other : nat_eq (suc (suc number)) 1 ≡ false = grind arith in
        subst (λ (pairs : Past). IsLegal (record { start = play_start p.idle_ms; pairs = pairs }))
        (sym (other-side (suc (suc number)) 1 pair p.trace other)) (sound.is_legal (suc (suc number)))

    sent : (engine : Engine) → WereSent (number_of (far engine)) (address_of (far engine)) (side (number_of engine) (handed Engine.b event p).after.trace) (sent_by engine (handed Engine.b event p).after)
    sent Engine.a = sound.were_sent Engine.a
    sent Engine.b = answered-sent 0 (address_of Engine.a) pair (side 1 p.trace) p.from_b refl (sound.were_sent Engine.b)

-- a message in another state
abbrev WasSent : Engine → Played → Message → Type 0
WasSent engine p m = IsSent (number_of (far engine)) (address_of (far engine)) (side (number_of engine) p.trace) m

fate-sound : (engine : Engine) (fate : Fate) (number : ℕ) (m : Message) (p : Played) → Sound p → WasSent engine p m
    → Sound (with_sent engine (with_fate fate number m (sent_by engine p)) p)
fate-sound Engine.a fate number m p sound this =
    record { is_legal = sound.is_legal; is_carried = sound.is_carried; were_sent = sent }
  where
    sent : (engine : Engine) → WereSent (number_of (far engine)) (address_of (far engine)) (side (number_of engine) p.trace) (sent_by engine (with_sent Engine.a (with_fate fate number m p.from_a) p))
    sent Engine.a = set-sent 1 (address_of Engine.b) (side 0 p.trace) p.from_a (number - 1) (record m { fate = fate }) (sound.were_sent Engine.a) this
    sent Engine.b = sound.were_sent Engine.b
fate-sound Engine.b fate number m p sound this =
    record { is_legal = sound.is_legal; is_carried = sound.is_carried; were_sent = sent }
  where
    sent : (engine : Engine) → WereSent (number_of (far engine)) (address_of (far engine)) (side (number_of engine) p.trace) (sent_by engine (with_sent Engine.b (with_fate fate number m p.from_b) p))
    sent Engine.a = sound.were_sent Engine.a
    sent Engine.b = set-sent 0 (address_of Engine.a) (side 1 p.trace) p.from_b (number - 1) (record m { fate = fate }) (sound.were_sent Engine.b) this

-- a message that is received
receipt-sound : (engine : Engine) (fate : Fate) (number : ℕ) (m : Message) (p : Played) → Sound p
    → GoesThere (number_of (far engine)) (address_of (far engine)) (side (number_of engine) p.trace) m
    → Sound (handed (far engine) (Event.received (address_of engine) m.octets) (with_sent engine (with_fate fate number m (sent_by engine p)) p)).after
receipt-sound Engine.a fate number m p sound this =
    handed-sound Engine.b (Event.received (address_of Engine.a) m.octets) (with_sent Engine.a (with_fate fate number m p.from_a) p)
    (fate-sound Engine.a fate number m p sound (λ here. this.1))
    (sent-before (play_start p.idle_ms) (side 0 p.trace) play_places 1 m.octets (sound.is_legal 0).1 this.1)
    (record { sender = 0; is_other = λ is. absurd cc; is_from = refl; is_sent = this.1 })
receipt-sound Engine.b fate number m p sound this =
    handed-sound Engine.a (Event.received (address_of Engine.b) m.octets) (with_sent Engine.b (with_fate fate number m p.from_b) p)
    (fate-sound Engine.b fate number m p sound (λ here. this.1))
    (sent-before (play_start p.idle_ms) (side 1 p.trace) play_places 0 m.octets (sound.is_legal 1).1 this.1)
    (record { sender = 1; is_other = λ is. absurd cc; is_from = refl; is_sent = this.1 })

-- ---- lines

abbrev After : Option Stepped → Type 0
After stepped = Holds (λ (s : Stepped). Sound s.after) stepped

received-sound : (name : MessageName) (fate : Fate) (p : Played) (found : Option Message) → Sound p
    → Holds (GoesThere (number_of (far name.engine)) (address_of (far name.engine)) (side (number_of name.engine) p.trace)) found
    → After (option_map (received_from name fate p) found)
received-sound name fate p None sound sent = tt
received-sound name fate p (Some m) sound sent = receipt-sound name.engine fate name.number m p sound sent

lost-sound : (name : MessageName) (p : Played) (found : Option Message) → Sound p → Holds (WasSent name.engine p) found
    → After (option_map (lost_from name p) found)
lost-sound name p None sound sent = tt
lost-sound name p (Some m) sound sent = fate-sound name.engine Fate.lost name.number m p sound sent

module _ (p : Played) (sound : Sound p) where
  named-sent : (name : MessageName) (fate : Fate)
      → Holds (GoesThere (number_of (far name.engine)) (address_of (far name.engine)) (side (number_of name.engine) p.trace)) (carried name fate p)
  named-sent name fate =
      carried-sent (number_of (far name.engine)) (address_of (far name.engine)) (side (number_of name.engine) p.trace) fate name.number
      (sent_by name.engine p) (sound.were_sent name.engine)

  lost-sent : (name : MessageName) → Holds (WasSent name.engine p) (message_in Fate.waiting name.number (sent_by name.engine p))
  lost-sent name =
      found-sent (number_of (far name.engine)) (address_of (far name.engine)) (side (number_of name.engine) p.trace) Fate.waiting name.number
      (sent_by name.engine p) (sound.were_sent name.engine)

  step-sound : (line : ScriptLine) → LineIn line → is_raw (Some line) ≡ false → After (step p line)
  step-sound (ScriptLine.call engine Event.new_dialogue) within plain = handed-sound engine Event.new_dialogue p sound within tt
  step-sound (ScriptLine.call engine (Event.on_dialogue dialogue request)) within plain =
      handed-sound engine (Event.on_dialogue dialogue request) p sound within tt
  step-sound (ScriptLine.call engine (Event.received from bytes)) within plain = absurd (true≢false plain)
  step-sound (ScriptLine.call engine (Event.moment now)) within plain = handed-sound engine (Event.moment now) p sound within tt
  step-sound (ScriptLine.deliver name) within plain =
      received-sound name Fate.delivered p (carried name Fate.waiting p) sound (named-sent name Fate.waiting)
  step-sound (ScriptLine.again name) within plain =
      received-sound name Fate.delivered p (carried name Fate.delivered p) sound (named-sent name Fate.delivered)
  step-sound (ScriptLine.lose name) within plain =
      lost-sound name p (message_in Fate.waiting name.number (sent_by name.engine p)) sound (lost-sent name)
  step-sound (ScriptLine.advance now) within plain =
      handed-sound Engine.b (Event.moment now) (handed Engine.a (Event.moment now) p).after
      (handed-sound Engine.a (Event.moment now) p sound within tt) within tt

  line-sound : (line : Option ScriptLine) → Holds LineIn line → is_raw line ≡ false → After (option_and_then (step p) line)
  line-sound None within plain = tt
  line-sound (Some line) within plain = step-sound line within plain

-- a line that isn't skipped is none with octets of its own
plain-line : (skipped raw : Bool) → skipped ≡ false → not (not skipped && raw) ≡ true → raw ≡ false
plain-line true raw none plain = absurd (true≢false none)
plain-line false true none plain = sym plain
plain-line false false none plain = refl

by-sound : (p : Played) (last : Played → Played) (stepped : Option Stepped) → Sound p → After stepped
    → ((q : Played) → Sound q → Sound (last q)) → Sound (played_by last p stepped)
by-sound p last None sound after next = sound
by-sound p last (Some stepped) sound after next = next stepped.after after

lines-sound : (lines : List (List ℕ)) (p : Played) → Sound p → list_all (λ line. not (is_raw_line line)) lines ≡ true
    → Sound (played_from p lines)
unfolding played_from
lines-sound [] p sound plain = sound
lines-sound (line ∷ lines) p sound plain =
    let both = and_parts (not (is_raw_line line)) (list_all (λ line. not (is_raw_line line)) lines) plain in
    elim (cases_Bool (is_skipped line)) [
      | inl is ↦ rw is (lines-sound lines p sound both.1)
      | inr isnt ↦
          let own = plain-line (is_skipped line) (is_raw (line_of (words_of line))) isnt both.0 in
          rw isnt (by-sound p (λ q. played_from q lines) (step_by p line) sound
          (line-sound p sound (line_of (words_of line)) (line-in (words_of line)) own)
          (λ q more. lines-sound lines q more both.1))
    ]

-- ---- scripts

none-sound : (idle_ms : ℕ) → nat_le idle_ms moment_limit ≡ true → Sound (not_begun idle_ms)
none-sound idle_ms low = record { is_legal = λ engine. legal engine; is_carried = tt; were_sent = λ engine. sent engine }
  where
    legal : (engine : Net) → IsLegal (record { start = play_start idle_ms; pairs = [] })
    legal engine = (play-starts idle_ms low, tt)

    sent : (engine : Engine) → WereSent (number_of (far engine)) (address_of (far engine)) [] (sent_by engine (not_begun idle_ms))
    sent Engine.a = tt
    sent Engine.b = tt

pub plays-meet : PlaysMeetNet
plays-meet script plain =
    let opening = opening_of script in
    let sound =
    lines-sound opening.lines (not_begun opening.idle_ms)
    (none-sound opening.idle_ms (opening-low 0 (lines_of script)))
    (opening-all (λ line. not (is_raw_line line)) 0 (lines_of script) plain) in
    record { is_legal = sound.is_legal; are_apart = places-apart; is_carried = sound.is_carried }

pub plays-two-ended : PlaysHaveTwoEnds
plays-two-ended script plain = two_ends (net_of script) (plays-meet script plain)
