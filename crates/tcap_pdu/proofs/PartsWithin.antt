-- The contents of a portion are no longer than the written message.
use Rattle.std.proofs.Common.{ℕ, ◌≤◌, List, [], ◌∷◌, length, Option, Some, None, unwrap_or, option_map, arith}
use Rattle.tcap_pdu.specs.FrameSpelling.{Message}
use Rattle.tcap_pdu.specs.FrameSpelling.Reason.{nothing, cause, portion}
use Rattle.tcap_pdu.specs.FrameSpelling.Message.{unidirectional, begin, end, go_on, abort}
use Rattle.tcap_pdu.specs.FrameWritten.{written_frame}
use Rattle.tcap_pdu.specs.FrameLength.{dialogue_of, dialogue_length, may_length, filled_length, content_length}
use Rattle.tcap_pdu.proofs.LengthGrammar.{content-fits, length-own}

pub contents_within : (m : Message) → content_length (option_map length (dialogue_of m)) m ≤ length (written_frame m)
contents_within m = omega (arith, length-own m, content-fits (content_length (option_map length (dialogue_of m)) m))

may_least : (o : Option (List ℕ)) → length (unwrap_or o []) ≤ may_length (option_map length o)
may_least None = omega arith
may_least (Some d) = omega (arith, content-fits (length d))

pub filled_least : (c : List ℕ) → length c ≤ filled_length (length c)
filled_least [] = omega arith
filled_least (b ∷ c) = omega (arith, content-fits (length (b ∷ c)))

pub dialogue_within : (m : Message) → dialogue_length m ≤ length (written_frame m)
dialogue_within (unidirectional d c) = omega (arith, contents_within (unidirectional d c), may_least d)
dialogue_within (begin o d c) = omega (arith, contents_within (begin o d c), may_least d)
dialogue_within (end t d c) = omega (arith, contents_within (end t d c), may_least d)
dialogue_within (go_on o t d c) = omega (arith, contents_within (go_on o t d c), may_least d)
dialogue_within (abort t nothing) = omega arith
dialogue_within (abort t (cause n)) = omega arith
dialogue_within (abort t (portion d)) = omega (arith, contents_within (abort t (portion d)), may_least (Some d))
