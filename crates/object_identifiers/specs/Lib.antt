pub mod Arcs
pub mod Contents
pub mod FaultText
pub mod TextReading
