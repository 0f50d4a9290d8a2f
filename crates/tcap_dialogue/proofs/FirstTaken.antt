-- The first component that is left, where it was read and handled.
use Rattle.std.proofs.Common.{◌≡◌, ℕ, ◌≤◌, length, Option, Some, Ok, arith}
use Rattle.ber_core.specs.Place.{Slice, AtEnd}
use Rattle.tcap_component.proofs.CallerLemmas.{components_of-next}
use Rattle.tcap_component.specs.ComponentReading.{component_at}
use Rattle.tcap_component.specs.declared.component.Component.{Component}
use Rattle.tcap_component.specs.Place.{ComponentInPlace}
use Rattle.tcap_component.specs.Views.{component_parts}
use Rattle.tcap_dialogue.proofs.SliceOctets.{octets-within}
use Rattle.tcap_dialogue.specs.declared.component_handling.Reject.{Reject}
use Rattle.tcap_dialogue.specs.FirstComponent.{IsFirstTaken}
use Rattle.tcap_dialogue.specs.HandledViews.{IsHandled}
use Rattle.tcap_invocation.specs.Invocations.{InvocationList}
use Rattle.tcap_model.specs.Procedures.ComponentHandling.{handled, subject_of}
use Rattle.tcap_model.specs.Table.Dialogue.{sent_by_rows}
use Rattle.tcap_model.specs.Table.TableMove.{after_item}
use Rattle.tcap_primitives.specs.IndicationViews.{component_octets}
use Rattle.tcap_primitives.specs.SinkViews.{Filled}
use Rattle.tcap_primitives.specs.Slices.{AreOf}

module _ (bytes rest : Slice) (c : Component) (read : component_at bytes.now ≡ Ok (component_parts c, rest.now)) where
  -- There is room for its slices where there is room for all octets that are left.
  pub room-for : (octets : ℕ) → length bytes.now ≤ octets → component_octets c ≤ octets
  room-for octets room =
      let within = octets-within bytes.now rest.now c read in
      omega (arith, within, room)

  -- What it came to is what the first component that is left comes to.
  pub first-taken : (dialogue clock : ℕ) (old new : Filled) (before after : InvocationList) (reject : Option Reject) → ComponentInPlace c bytes → AtEnd rest bytes
      → IsHandled old new reject (AreOf c) (component_octets c) (handled (Some dialogue) (sent_by_rows dialogue before (subject_of (Ok (component_parts c)))) (Ok (component_parts c)))
      → after ≡ after_item clock before (Ok (component_parts c))
      → IsFirstTaken dialogue clock bytes rest old new before after reject
  first-taken dialogue clock old new before after reject place ends handled list = record {
    item = Ok c;
    is_first = components_of-next bytes.now rest.now (component_parts c) read;
    is_in_place = place;
    ends = ends;
    is_handled = handled;
    is_after = list;
    within = octets-within bytes.now rest.now c read;
  }
