-- What a sink and an outbox hold, and what a call appends to it.
use Rattle.std.specs.Prelude.{◌≡◌, ℕ, ◌-◌, ◌^◌, Bool, true, false, List, [], ◌++◌, length, map, drop, vec_len, vec_capacity}
use Rattle.std.specs.declared.vec.Vec.{Vec}
use Rattle.tcap_model.specs.Words.Output.{Output}
use Rattle.tcap_primitives.specs.OutputViews.{all_shown}
use Rattle.tcap_primitives.specs.Slices.{Slices, slices_of}
use Rattle.tcap_primitives.specs.declared.output.Output as code

-- What a contract sees of an outbox: the outputs that it holds, in order, how many more it has places for, and how
-- many octets of indications it has room for (own).
pub record Contents : Type 0 where
  pub outputs : List Output
  pub places : ℕ
  pub octets : ℕ

-- What a contract sees of a sink: the same, and the slices that its outputs have of a message (own).
pub record Filled : Type 0 where
  pub outputs : List Output
  pub places : ℕ
  pub octets : ℕ
  pub slices : List Slices

-- A sink is an outbox, which has no slices, or a vector, which takes no room for octets (own).
abbrev pub filled_by : {A : Type 0} → Bool → Vec (code.Output A) A → Contents → Filled
filled_by true v o = record { outputs = o.outputs; places = o.places; octets = o.octets; slices = [] }
filled_by false v o = record {
  outputs = all_shown v.items;
  places = vec_capacity v - vec_len v;
  octets = 2 ^ 64;
  slices = map slices_of v.items;
}

-- The outputs behind those that were there before (own).
abbrev pub told_since : List Output → List Output → List Output
told_since before after = drop (length before) after

-- What was there before stays, in front of what was told since (own).
abbrev pub KeepsOutputs : List Output → List Output → Type 0
KeepsOutputs before after = after ≡ before ++ told_since before after
