-- A stream that goes on behind its faults, also within a faulty message, at the next octet that begins a good message.
use Rattle.std.specs.Prelude.{◌≡◌, ◌==◌, ◌||◌, ◌&&◌, ◌<◌, ◌≤◌, ℕ, suc, ◌+◌, ◌-◌, Bool, true, false, List, [], ◌∷◌, ◌++◌, length, take, drop, Option, Some, None, Result, Ok, Err, nat_lt, not, if◌then◌else◌}
use Rattle.ber_core.specs.declared.fault.BerFault.{BerFault}
use Rattle.ber_core.specs.declared.fault.FeedFault.{FeedFault}
use Rattle.ber_core.specs.HeadReading.{head_at}
use Rattle.ber_core.specs.Stream.{cut_into, cut_of}
use Rattle.tcap_words.specs.Show.{show_is_good}
use Rattle.tcap_judging.specs.Entry.{Entry, broken, judged_by, message, passed}
use Rattle.tcap_judging.specs.declared.front.Front.{Front}
use Rattle.tcap_judging.specs.declared.front.Front.TheVariants as front
use Rattle.tcap_judging.specs.declared.place.Place.{Place}
use Rattle.tcap_judging.specs.declared.place.Place.TheVariants.{Reading, Searching, Within}

-- The tags of the five messages (Q.773, TC message).
abbrev pub is_message_tag : ℕ → Bool
is_message_tag tag = (tag == 0x61) || ((tag == 0x62) || ((tag == 0x64) || ((tag == 0x65) || (tag == 0x67))))

-- The contents of a message with this tag may begin with this octet: the tag of its first transaction identifier, in a
-- Unidirectional that of a portion (Q.773, Structure of TC messages).
abbrev pub may_lead : ℕ → ℕ → Bool
may_lead tag first =
    if tag == 0x61 then (first == 0x6b) || (first == 0x6c)
    else if (tag == 0x62) || (tag == 0x65) then first == 0x48
    else first == 0x49

-- These may be contents of a message with this tag, as far as they have come (own).
abbrev pub may_hold : ℕ → List ℕ → Bool
may_hold tag [] = true
may_hold tag (first ∷ octets) = may_lead tag first

-- What stands behind the head that was read, if one was, may be contents of a message with this tag (own).
abbrev pub may_hold_behind : ℕ → Result (List ℕ × Bool × Option ℕ × List ℕ) BerFault → Bool
may_hold_behind tag (Ok head) = may_hold tag head.3
may_hold_behind tag (Err why) = true

-- A good message may go on so, as far as it has come: by its tag, and by the first octet of its contents (own).
abbrev pub may_go_on : List ℕ → Bool
may_go_on [] = false
may_go_on (tag ∷ octets) = is_message_tag tag && may_hold_behind tag (head_at (tag ∷ octets))

-- The first message of a stream is good; where more octets may follow, it may also be that none is whole yet, no fault
-- stands, and a good one may go on so (own).
abbrev pub may_be_good : (ends : Bool) → (goes_on : Bool) → List (List ℕ) → Option FeedFault → Bool
may_be_good ends goes_on (m ∷ messages) fault = show_is_good m
may_be_good true goes_on [] fault = false
may_be_good false goes_on [] None = goes_on
may_be_good false goes_on [] (Some why) = false

-- The first of some messages, if there is one (own).
abbrev pub first_of : List (List ℕ) → Option (List ℕ)
first_of [] = None
first_of (m ∷ messages) = Some m

-- A good message begins the octets; where more may follow, also: may begin them (own).
abbrev pub may_begin : (ends : Bool) → List ℕ → Bool
may_begin ends octets = may_be_good ends (may_go_on octets) (cut_of octets).messages (cut_of octets).fault

-- A good message begins octets with this front; where more may follow, also: may begin them (own).
abbrev pub begins : (ends : Bool) → Front → Bool
begins ends front.Good = true
begins ends front.Short = not ends
begins ends front.Other = false

-- How many octets stand before the first place at which this holds of what stands from there on, or before the end
-- (own).
abbrev pub first_place : (List ℕ → Bool) → List ℕ → ℕ
first_place holds [] = 0
first_place holds (octet ∷ octets) = if holds (octet ∷ octets) then 0 else suc (first_place holds octets)

-- How many octets are passed over from here on (own).
abbrev pub passed_in : (ends : Bool) → List ℕ → ℕ
passed_in ends octets = first_place (may_begin ends) octets

-- The search is over at these octets: a good message begins them, or the stream ends (own).
abbrev pub is_found : (ends : Bool) → List ℕ → Bool
is_found ends octets = ends || may_begin true octets

-- The octets behind the last message are told: where the stream ends and there are any, or where a fault stands and all
-- octets that are judged have come (own).
abbrev pub is_known : (ends : Bool) → List ℕ → Option FeedFault → Bool
is_known true rest fault = nat_lt 0 (length rest)
is_known false rest None = false
is_known false rest (Some why) = nat_lt 65535 (length rest)

-- Of the octets behind the last message those that are judged: all where the stream ends and no fault stands (own).
abbrev pub judged_of : List ℕ → Option FeedFault → List ℕ
judged_of rest None = rest
judged_of rest (Some why) = take (judged_by why) rest

-- A stream tells these entries from a place on, where these octets are all that follow (`ends`), or so many as have
-- come yet. From a place at which a message may begin it tells the first message. Where that is good, it goes on behind
-- it; where it isn't, it searches for a good one from the second octet of the message to its last. Where no message
-- begins and no more is known, it tells nothing; else it tells the octets there, and searches from the second on. A
-- search passes over the octets before the first at which a good message begins, or may begin as more come. There the
-- search is over, these octets are told, and the stream goes on; or more have to come. A search within a faulty message
-- does the same; but where no such octet is left of the message, the stream goes on behind it, and tells nothing of
-- passing over (own).
pub data Tells : (ends : Bool) → Place → List ℕ → List Entry → Type 0 where
  stays : (ends : Bool) (offset : ℕ) (octets : List ℕ) (fault : Option FeedFault)
      → cut_of octets ≡ cut_into [] octets fault → is_known ends octets fault ≡ false
      → Tells ends (Reading offset) octets []
  faults : (ends : Bool) (offset : ℕ) (octets : List ℕ) (fault : Option FeedFault) (others : List Entry)
      → cut_of octets ≡ cut_into [] octets fault → is_known ends octets fault ≡ true
      → Tells ends (Searching offset 1) (drop 1 octets) others
      → Tells ends (Reading offset) octets (broken offset (judged_of octets fault) ∷ others)
  reads : (ends : Bool) (offset : ℕ) (octets m : List ℕ) (others : List Entry)
      → first_of (cut_of octets).messages ≡ Some m → show_is_good m ≡ true
      → Tells ends (Reading (offset + length m)) (drop (length m) octets) others
      → Tells ends (Reading offset) octets (message offset m ∷ others)
  doubts : (ends : Bool) (offset : ℕ) (octets m : List ℕ) (others : List Entry)
      → first_of (cut_of octets).messages ≡ Some m → show_is_good m ≡ false
      → Tells ends (Within offset 1 (length m - 1)) (drop 1 octets) others
      → Tells ends (Reading offset) octets (message offset m ∷ others)
  searches : (ends : Bool) (first count : ℕ) (octets : List ℕ) → is_found ends (drop (passed_in ends octets) octets)
      ≡ false
      → Tells ends (Searching first count) octets []
  finds : (ends : Bool) (first count : ℕ) (octets : List ℕ) (others : List Entry)
      → is_found ends (drop (passed_in ends octets) octets) ≡ true
      → Tells ends (Reading (first + (count + passed_in ends octets))) (drop (passed_in ends octets) octets) others
      → Tells ends (Searching first count) octets (passed first (count + passed_in ends octets) ∷ others)
  searches_within : (ends : Bool) (first count left : ℕ) (octets : List ℕ) → passed_in ends octets < left
      → is_found ends (drop (passed_in ends octets) octets) ≡ false
      → Tells ends (Within first count left) octets []
  finds_within : (ends : Bool) (first count left : ℕ) (octets : List ℕ) (others : List Entry)
      → passed_in ends octets < left → is_found ends (drop (passed_in ends octets) octets) ≡ true
      → Tells ends (Reading (first + (count + passed_in ends octets))) (drop (passed_in ends octets) octets) others
      → Tells ends (Within first count left) octets (passed first (count + passed_in ends octets) ∷ others)
  finds_none : (ends : Bool) (first count left : ℕ) (octets : List ℕ) (others : List Entry)
      → left ≤ passed_in ends octets
      → Tells ends (Reading (first + (count + left))) (drop left octets) others
      → Tells ends (Within first count left) octets others

-- A stream that goes on behind its faults has these entries: those that it tells while more octets may follow, and
-- behind them those that it tells besides where it ends (own).
pub record ResyncTells (input : List ℕ) (entries last : List Entry) : Type 0 where
  pub so_far : Tells false (Reading 0) input entries
  pub in_all : Tells true (Reading 0) input (entries ++ last)
