pub mod CallerLemmas
mod FittingLemmas
mod NumberLemmas
mod OctetGrammar
mod SubidentifierLemmas
mod TextLemmas
mod TextWriting
mod TextGrammar
mod Names
mod TextCharacters
