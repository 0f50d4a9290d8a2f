pub mod RowLemmas
pub mod TiedLemmas
pub mod InsertLemmas
pub mod WriteLemmas
pub mod SoundLemmas
pub mod FirstLemmas
pub mod DueLemmas
