pub mod Row
pub mod Tied
pub mod Due
