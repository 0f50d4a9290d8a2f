pub mod CallerLemmas
mod FitsLemmas
mod FormLemmas
mod RequestLemmas
mod TableLemmas
mod WalkLemmas
mod WordLemmas
