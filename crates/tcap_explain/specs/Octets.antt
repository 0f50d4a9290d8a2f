-- Contents octets that are no elements: what each kind of them has to be.
use Rattle.std.specs.Prelude.{ℕ, Bool, true, false, List, [], ◌∷◌, length, nat_le, ◌==◌, is_some, if◌then◌else◌}
use Rattle.std.specs.Str.{bytes_eq}
use Rattle.ber_core.specs.Integer.{integer_at}
use Rattle.ber_core.specs.ObjectIdentifier.{is_object_identifier}
use Rattle.tcap_pdu.specs.TransId.{id_limit}
use Rattle.tcap_pdu.specs.FrameSpelling.{cause_limit}
use Rattle.tcap_pdu.specs.DialogueSpelling.{structured_syntax, unstructured_syntax, diagnostic_limit}
use Rattle.tcap_component.specs.Problem.{problem_limit}
use Rattle.tcap_explain.specs.declared.contents.Contents.{Contents}
use Rattle.tcap_explain.specs.declared.contents.Contents.TheVariants as contents

-- The octets are one octet, at most this one (own).
abbrev pub is_within : ℕ → List ℕ → Bool
is_within most [] = false
is_within most (n ∷ []) = nat_le n most
is_within most (n ∷ m ∷ more) = false

-- The octets are a bit string: the first counts the unused bits, 0 to 7, and is 0 where no bits follow
-- (X.690, Encoding of a bitstring value).
abbrev pub is_bit_string : List ℕ → Bool
is_bit_string [] = false
is_bit_string (unused ∷ []) = unused == 0
is_bit_string (unused ∷ bits ∷ more) = nat_le unused 7

-- The octets are one of the two abstract syntaxes of dialogues (Q.773, Dialogue portion).
abbrev pub is_dialogue_syntax : List ℕ → Bool
is_dialogue_syntax octets = if bytes_eq octets structured_syntax then true else bytes_eq octets unstructured_syntax

-- The octets are what contents of this kind are: a transaction identifier has one to four octets; a P-Abort
-- cause, the number of a diagnostic and the code of a problem are one octet 00 to 7F; a result and an abort
-- source 0 or 1; an identifier is one octet, a local code an integer in the fewest octets, one to four; a
-- null has none (Q.773, tables of information elements; the limits are own).
abbrev pub fits : Contents → List ℕ → Bool
fits contents.Any octets = true
fits contents.TransactionId octets = if length octets == 0 then false else nat_le (length octets) id_limit
fits contents.PAbortCause octets = is_within cause_limit octets
fits contents.DialogueSyntax octets = is_dialogue_syntax octets
fits contents.ObjectIdentifier octets = is_object_identifier octets
fits contents.ProtocolVersion octets = is_bit_string octets
fits contents.ResultNumber octets = is_within 1 octets
fits contents.DiagnosticNumber octets = is_within diagnostic_limit octets
fits contents.AbortSource octets = is_within 1 octets
fits contents.Identifier octets = is_within 0xff octets
fits contents.LocalCode octets = is_some (integer_at octets)
fits contents.Null octets = length octets == 0
fits contents.ProblemCode octets = is_within problem_limit octets
