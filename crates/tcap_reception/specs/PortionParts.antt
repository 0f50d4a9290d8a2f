-- What the dialogue portion of a Begin or a Unidirectional gives.
use Rattle.std.specs.Prelude.{ℕ, List, [], Option, Some, None}
use Rattle.ber_core.specs.Place.{Slice}
use Rattle.tcap_primitives.specs.Slices.{PartsLieIn}

-- The application context name and the user information of an AARQ or of an AUDT, if there is one
-- (Q.773, Dialogue portion).
abbrev pub Given : Type 0
Given = Option (Slice × Slice)

-- The context of it (own).
abbrev pub context_slice : Given → Option Slice
context_slice None = None
context_slice (Some parts) = Some parts.0

-- Its octets (own).
abbrev pub context_of_portion : Given → Option (List ℕ)
context_of_portion None = None
context_of_portion (Some parts) = Some parts.0.now

-- The octets of its information, none where there is none (own).
abbrev pub info_of_portion : Given → List ℕ
info_of_portion None = []
info_of_portion (Some parts) = parts.1.now

-- What is given are the parts of the PDU with this tag in the dialogue portion
-- (Q.773, Dialogue portion).
abbrev pub GivenIn : ℕ → Given → Option Slice → Type 0
GivenIn tag None portion = Unit {0}
GivenIn tag (Some parts) portion = PartsLieIn tag (Some parts.0) parts.1 portion
