-- A handle may go to another thread: what it owns may, and an allocator names none.
use mathlib.Core.Bool.{Bool, true, false}
use mir.Raw.{raw}
use base.Fraction.{full_share}
use base.Shift.{Keyless}
use denote.Exit.{Exit, unchanged, leaves, hidden, under}
use denote.Memory.{lone}
use denote.RattleType.{RattleType}
use denote.RawPtr.{Ptr, block_ptr, null_ptr, lies_at}
use denote.Struct.Struct.{exits_of}
use denote.Struct.Owning.{shape, fields, to}
use denote.Param.Send.{IsSend, AllSend, Quiet, part_keyless, owning_send, struct_send, sendable}
use Rattle.std.specs.Global.{Global}
use Rattle.std.specs.contracts.alloc.Global as Heap
use Rattle.std.specs.contracts.impls.GlobalAllocator.TheImpl.{ghosts}
use Rattle.std.proofs.Crossing as heap
use Rattle.std.proofs.alloc.Global.TheSendSync as alloc
use Rattle.tcap_station.proofs.station.Station.TheSendSync as kept
use Rattle.tcap_c.specs.Handle.{station_row, handle_owns}
use Rattle.tcap_c.specs.contracts.handle.Handle.{the_row, the_type}

-- a value that lies behind a pointer may go, where its type may
lies : (R : RattleType) → IsSend R → (at : Ptr) (x : R.Denot) → Keyless (lies_at R full_share at x)
lies R sent (block_ptr b o) x = part_keyless R sent full_share x b o
lies R sent null_ptr x = tt

-- what leaves a struct names no thread, whatever is hidden of it
quiet : {D X : Type 0} (to : D → X) (e : Exit X) → Quiet e → Quiet (hidden (under to e))
quiet to unchanged q = λ x w. tt
quiet to (leaves L l S s r) q = λ d. q (to d)

owned : (is_open : Bool) (a : Global) (at : Ptr) (x : station_row.Denot) → Keyless (handle_owns is_open a at x)
unfolding handle_owns
owned true a at x = (lies station_row (kept.the_send Heap.the_row ghosts heap.send heap.frees) at x, heap.frees.frees a (raw (lone station_row.mir)) at)
owned false a at x = tt

pub send : IsSend the_row
send =
    let all : AllSend (fields the_type) = (search sendable, (alloc.the_field_send, (search sendable, tt))) in
    owning_send the_type all (λ d. owned d.is_open d.alloc d.at d.value)
    (λ k. quiet (to the_type) (exits_of k (fields the_type)) ((struct_send (shape the_type) all).leaving k))
