-- The number of an operation's code.
use Rattle.std.specs.Prelude.{ℤ, Option, Some, None}
use Rattle.tcap_component.specs.Component.{CodeParts}
use Rattle.tcap_component.specs.Component.CodeParts.{local, global}

-- The number of a code, if it is a local one (Q.773, Component portion).
abbrev pub local_number : CodeParts → Option ℤ
local_number (local number) = Some number
local_number (global octets) = None
