-- The received bytes on which the relations over the grammar are instantiated.
use Rattle.std.specs.Prelude.{ℕ, true, false, List, [], drop, None}
use Rattle.tcap_pdu.specs.DialogueSpelling.{Source, PduValue}
use Rattle.tcap_pdu.specs.FrameSpelling.{Message}
use Rattle.tcap_examples.specs.Values.DialogueValues.{context, aarq, aare, aare_result}
use Rattle.tcap_examples.specs.Values.Hex.{hex}

-- ---- dialogue portions

-- The contents of a dialogue portion with an AARE that accepts (own).
abbrev pub accepting_portion : List ℕ
accepting_portion = drop 2 aare

-- Those of one that refuses: result 1, diagnostic 1 by the user (own).
abbrev pub refusing_portion : List ℕ
refusing_portion = drop 2 (aare_result 0xA203020101_A305A103020101)

-- Those of one with an AARQ (own).
abbrev pub asking_portion : List ℕ
asking_portion = drop 2 aarq

-- The AARE that accepts (own).
abbrev pub acceptance : PduValue
acceptance = PduValue.aare true context true (Source.user 0) []

-- The AARE that refuses (own).
abbrev pub refusal : PduValue
refusal = PduValue.aare true context false (Source.user 1) []

-- The AARQ (own).
abbrev pub request : PduValue
request = PduValue.aarq true context []

-- ---- messages

-- The four octets of dialogue 1 (own).
abbrev pub first_octets : List ℕ
first_octets = hex 4 0x00000001

-- The peer's transaction identifier (own).
abbrev pub peer : List ℕ
peer = hex 4 0x00000005

-- The Continue with the last result of identifier 1 (own).
abbrev pub result_message : Message
result_message = Message.go_on peer first_octets None (hex 5 0xA203020101)

-- A Continue that is faulty: its component portion has no length (own).
abbrev pub faulty_continue : List ℕ
faulty_continue = hex 15 0x650D_480400000005_490400000001_6C

-- That Continue without an originating identifier (own).
abbrev pub without_origin : List ℕ
without_origin = hex 9 0x6507_490400000001_6C

-- An End that is faulty, and has an origin (own).
abbrev pub faulty_end : List ℕ
faulty_end = hex 15 0x640D_480400000005_490400000001_6C

-- A Begin that is faulty, and has a destination (own).
abbrev pub faulty_begin : List ℕ
faulty_begin = hex 15 0x620D_480400000005_490400000001_6C

-- The Abort with cause 2, badly formatted, to the peer (own).
abbrev pub abort_sent : List ℕ
abort_sent = hex 11 0x6709_490400000005_4A0102
