-- What the faults print.
use Rattle.std.specs.Prelude.{ℕ, List, codes}
use Rattle.object_identifiers.specs.declared.fault.ObjectIdentifierFault.{ObjectIdentifierFault}
use Rattle.object_identifiers.specs.declared.fault.ObjectIdentifierFault.TheVariants.{NotANumber, ArcTooLarge, TooFewArcs, FirstArc, SecondArc, TooLong}

-- Why a text names no object identifier, in words (own).
abbrev pub fault_text : ObjectIdentifierFault → List ℕ
fault_text NotANumber = codes "an arc is no number"
fault_text ArcTooLarge = codes "an arc is too large"
fault_text TooFewArcs = codes "fewer than two arcs"
fault_text FirstArc = codes "the first arc is above 2"
fault_text SecondArc = codes "the second arc is above 39"
fault_text TooLong = codes "more than 255 octets"
