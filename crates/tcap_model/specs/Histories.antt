pub mod Birth
pub mod Clock
pub mod History
pub mod Kept
pub mod Life
pub mod Names
pub mod Pair
