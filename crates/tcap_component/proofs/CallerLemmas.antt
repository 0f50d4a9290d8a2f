-- What the crates above cite: laws of this crate's definitions. Declares nothing.
pub use Rattle.tcap_component.proofs.ComponentGrammar.{Read, component_read, component_takes, component_fails, component_again, component_told, one_component, same_octets, one_fault, no_component}
pub use Rattle.tcap_component.proofs.ListGrammar.{components_of-empty, components_of-none, components_of-next, components_of-fault, first_fault_again, first_fault_is}
pub use Rattle.tcap_component.proofs.PlaceSteps.{ends-all, ends-rest, coded-rest, ends-in, body-in, fields-in, last-ends}
pub use Rattle.tcap_component.proofs.SpelledWritable.{spelled_code, spelled_parameter, spelled_parts, all_writable}
pub use Rattle.tcap_component.proofs.TakingLemmas.{taken-read, untaken-faulty, component-shorter}
pub use Rattle.tcap_component.proofs.WrittenGrammar.{has_code-takes, Judged, write_fault-judged, write_fault-none, write_fault-told, not_refused_by, one_due}
pub use Rattle.tcap_component.proofs.WrittenSpelling.{component_spelled, component_written}
pub use Rattle.tcap_component.proofs.ComponentsRoad.{components-yield}
