pub mod StreamEnds
pub mod StreamGoing
pub mod StreamLines
