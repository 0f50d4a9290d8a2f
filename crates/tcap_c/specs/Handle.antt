-- What a handle owns: where it is open what a box of a station owns, and else nothing.
use mathlib.Core.Bool.{Bool, true, false}
use base.Fml.{Fml, ftrue}
use base.Stored.{Coded}
use denote.RattleType.{RattleType}
use denote.RawPtr.{Ptr}
use Rattle.std.specs.Box.Ownership.{box_owns}
use Rattle.std.specs.Global.{Global}
use Rattle.std.specs.contracts.alloc.Global as heap
use Rattle.std.specs.contracts.impls.GlobalAllocator.TheImpl.{ghosts}
use Rattle.tcap_station.specs.contracts.station.Station as station

-- A station over the C library's heap, as a type of the logic (own).
abbrev pub station_row : RattleType
station_row = station.the_row heap.the_row ghosts

-- How the logic stores its value (own).
abbrev pub station_coded : Coded station_row.Denot
station_coded = station_row.coded

-- By whether it is open, its allocator, its pointer and the value of the station (own).
unfoldable pub handle_owns : Bool → Global → Ptr → station_row.Denot → Fml
handle_owns true alloc at station = box_owns (ghosts.dealloc_token alloc) station_row at station
handle_owns false alloc at station = ftrue
