-- The station of a handle is lent.
use Rattle.std.specs.Borrow.{Fml, Lends, MutBor}
use Rattle.tcap_c.specs.Handle.{station_row}
use Rattle.tcap_c.specs.contracts.handle.Handle.{the_row}
use Rattle.tcap_c.specs.declared.handle.Handle.{Handle}

-- The handle that keeps this station in place of its own (own).
abbrev pub with_station : Handle → station_row.Denot → Handle
with_station h station = record { at = h.at; alloc = h.alloc; is_open = h.is_open; value = station }

-- Once what is lent is given back, the handle keeps the station as it was left (own).
abbrev pub lends_station : MutBor Handle → MutBor station_row.Denot → Fml
lends_station h station = Lends the_row station_row h station (with_station h.now)
