-- What worked plays and streams print.
use Rattle.std.specs.Prelude.{◌≡◌, ◌++◌, ℕ, Bool, true, false, List, [], ◌∷◌, codes}
use Rattle.tcap_play.specs.Play.{printed_of}
use Rattle.tcap_text.specs.StreamText.{stream_text_of, stream_is_good}

-- A script prints this text, and is good (own).
abbrev pub Prints : List ℕ → List ℕ → Type 0
Prints script text = printed_of script ≡ record { text = text; good = true }

-- A script prints this text, and a line of it is bad (own).
abbrev pub PrintsUpTo : List ℕ → List ℕ → Type 0
PrintsUpTo script text = printed_of script ≡ record { text = text; good = false }

-- A Begin that comes twice, and both answers to it (own).
abbrev pub repeated_begin_script : List ℕ
repeated_begin_script = codes "A new\nA invoke 1 1 1 10 1000 - -\nA begin 1 - -\ndeliver A1\nagain A1\nB last 1 1 10 0401AA\nB continue 1 - -\nB last 2 1 10 0401BB\nB continue 2 - -\ndeliver B2\ndeliver B1\nadvance 1000\n"

-- What it prints (own).
abbrev pub repeated_begin_text : List ℕ
repeated_begin_text = codes "A new 1\nA number 1\nA send A1 62104804000000016c08a10602010102010a\nB begin 1 context - info -\nB invoked 1 id 1 linked - op local 10 param -\nB begin 2 context - info -\nB invoked 2 id 1 linked - op local 10 param -\nB done\nB send B1 651b4804000000014904000000016c0da20b020101300602010a0401aa\nB done\nB send B2 651b4804000000024904000000016c0da20b020101300602010a0401bb\nA continue 1 context - info -\nA last 1 id 1 number 1 op local 10 param 0401bb\nA continue 1 context - info -\nA localreject 1 id 1 result 0\n"

-- A stream prints this text, and is good or not (own).
abbrev pub Streams : List ℕ → List ℕ → Bool → Type 0
Streams stream text good = (stream_text_of stream ≡ text) × (stream_is_good stream ≡ good)

-- A Begin with an Invoke that has a parameter (own).
abbrev pub shown_begin : List ℕ
shown_begin = 0x62 ∷ 0x15 ∷ 0x48 ∷ 0x04 ∷ 0x00 ∷ 0x00 ∷ 0x00 ∷ 0x01 ∷ 0x6c ∷ 0x0d ∷ 0xa1 ∷ 0x0b ∷ 0x02 ∷ 0x01 ∷ 0x01 ∷ 0x02 ∷ 0x01 ∷ 0x02 ∷ 0x30 ∷ 0x03 ∷ 0x04 ∷ 0x01 ∷ 0xaa ∷ []

-- ---- single plays and streams

-- An End that is lost: the invocation lapses (own).
abbrev pub lost_end_script : List ℕ
lost_end_script = codes "A new\nA invoke 1 1 1 10 5000 - -\nA begin 1 - -\ndeliver A1\nB more 1 1 10 0401AA\nB continue 1 - -\ndeliver B1\nagain B1\nB last 1 1 10 0401BB\nB end 1 - -\nlose B2\nadvance 5000\nA prearranged 1\n"

-- What it prints (own).
abbrev pub lost_end_text : List ℕ
lost_end_text = codes "A new 1\nA number 1\nA send A1 62104804000000016c08a10602010102010a\nB begin 1 context - info -\nB invoked 1 id 1 linked - op local 10 param -\nB done\nB send B1 651b4804000000014904000000016c0da70b020101300602010a0401aa\nA continue 1 context - info -\nA more 1 id 1 number 1 op local 10 param 0401aa\nA continue 1 context - info -\nA more 1 id 1 number 1 op local 10 param 0401aa\nB done\nB send B2 64154904000000016c0da20b020101300602010a0401bb\nA lapsed 1 id 1 number 1\n"

-- A lost End can't be delivered (own).
abbrev pub DeliversALostEnd : Type 0
DeliversALostEnd = PrintsUpTo (lost_end_script ++ codes "deliver B2\n") (lost_end_text ++ codes "line 14 bad\n")

-- The idle limit is that of A (own).
abbrev pub IdlesInA : Type 0
IdlesInA = Prints (codes "idle 500\nA new\nA begin 1 - -\nadvance 500") (codes "A new 1\nA send A1 6206480400000001\nA pabort 1 idle\n")

-- The idle limit is that of B too, and stands behind lines that are skipped (own).
abbrev pub IdlesInB : Type 0
IdlesInB = Prints (codes "# both\n\nidle 500\nB new\nB begin 1 - -\nadvance 500") (codes "B new 1\nB send B1 6206480400000001\nB pabort 1 idle\n")

-- What goes elsewhere is not received on the other side, and an answer goes where the message came from (own).
abbrev pub AnswersElsewhere : Type 0
AnswersElsewhere = PrintsUpTo (codes "A new\nA beginto 1 43 - -\nB rawfrom 43 650C4804000000094904000000FF\ndeliver A1") (codes "A new 1\nA send A1 6206480400000001 to 43\nB send B1 67094904000000094a0101 to 43\nline 4 bad\n")

-- The address of the other side is not printed (own).
abbrev pub GoesToTheOther : Type 0
GoesToTheOther = Prints (codes "A new\nA beginto 1 42 - -\ndeliver A1") (codes "A new 1\nA send A1 6206480400000001\nB begin 1 context - info -\n")

-- A message from no address is answered to none (own).
abbrev pub AnswersNoAddress : Type 0
AnswersNoAddress = Prints (codes "B rawfrom - 650C4804000000094904000000FF") (codes "B send B1 67094904000000094a0101 to -\n")

-- A message from the address of the other side is answered to it (own).
abbrev pub AnswersTheOther : Type 0
AnswersTheOther = Prints (codes "A rawfrom 42 650C4804000000094904000000FF") (codes "A send A1 67094904000000094a0101\n")

-- What goes elsewhere is not received again (own).
abbrev pub RepeatsElsewhere : Type 0
RepeatsElsewhere = PrintsUpTo (codes "A new\nA beginto 1 43 - -\nagain A1") (codes "A new 1\nA send A1 6206480400000001 to 43\nline 3 bad\n")

-- What goes elsewhere can be lost (own).
abbrev pub LosesElsewhere : Type 0
LosesElsewhere = Prints (codes "A new\nA beginto 1 43 - -\nlose A1") (codes "A new 1\nA send A1 6206480400000001 to 43\n")

-- What goes elsewhere is lost once (own).
abbrev pub LosesElsewhereTwice : Type 0
LosesElsewhereTwice = PrintsUpTo (codes "A new\nA beginto 1 43 - -\nlose A1\nlose A1") (codes "A new 1\nA send A1 6206480400000001 to 43\nline 4 bad\n")

-- A message is lost once (own).
abbrev pub LosesTwice : Type 0
LosesTwice = PrintsUpTo (codes "A new\nA begin 1 - -\nlose A1\nlose A1") (codes "A new 1\nA send A1 6206480400000001\nline 4 bad\n")

-- A message that was not received is not received again (own).
abbrev pub RepeatsFirst : Type 0
RepeatsFirst = PrintsUpTo (codes "A new\nA begin 1 - -\nagain A1") (codes "A new 1\nA send A1 6206480400000001\nline 3 bad\n")

-- A message is delivered once (own).
abbrev pub DeliversTwice : Type 0
DeliversTwice = PrintsUpTo (codes "A new\nA begin 1 - -\ndeliver A1\ndeliver A1") (codes "A new 1\nA send A1 6206480400000001\nB begin 1 context - info -\nline 4 bad\n")

-- A message that was received is not lost (own).
abbrev pub LosesLate : Type 0
LosesLate = PrintsUpTo (codes "A new\nA begin 1 - -\ndeliver A1\nlose A1") (codes "A new 1\nA send A1 6206480400000001\nB begin 1 context - info -\nline 4 bad\n")

-- An octet 00 follows a message: the stream can't go on (own).
abbrev pub EndsAtAFault : Type 0
EndsAtAFault = Streams (0x62 ∷ 0x06 ∷ 0x48 ∷ 0x04 ∷ 0x00 ∷ 0x00 ∷ 0x00 ∷ 0x01 ∷ 0x00 ∷ []) (codes "good\nfault stream ber 2\n") false
