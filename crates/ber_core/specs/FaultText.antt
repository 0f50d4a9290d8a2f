-- What the faults print.
use Rattle.std.specs.Prelude.{ℕ, List, codes}
use Rattle.ber_core.specs.declared.fault.BerFault.{BerFault}
use Rattle.ber_core.specs.declared.fault.BerFault.TheVariants.{Short, BadTag, BadLength, IndefinitePrimitive, TooDeep}
use Rattle.ber_core.specs.declared.fault.FeedFault.{FeedFault}
use Rattle.ber_core.specs.declared.fault.FeedFault.TheVariants.{OutOfMemory, Ber, TooLong}

-- Why no element could be read, in words (own).
abbrev pub fault_text : BerFault → List ℕ
fault_text Short = codes "the input ends too early"
fault_text BadTag = codes "bad tag"
fault_text BadLength = codes "bad length"
fault_text IndefinitePrimitive = codes "indefinite length behind a primitive tag"
fault_text TooDeep = codes "too many indefinite elements are open"

-- Why a feed gives no messages, in words (own).
abbrev pub feed_fault_text : FeedFault → List ℕ
feed_fault_text OutOfMemory = codes "out of memory"
feed_fault_text (Ber why) = fault_text why
feed_fault_text TooLong = codes "the element is too long"

-- The number of a feed's fault (own).
abbrev pub feed_fault_number : FeedFault → ℕ
feed_fault_number OutOfMemory = 1
feed_fault_number (Ber why) = 2
feed_fault_number TooLong = 3
