-- What the crates above cite: laws of this crate's definitions. Declares nothing.
pub use Rattle.object_identifiers.proofs.TextCharacters.{unnamed}
