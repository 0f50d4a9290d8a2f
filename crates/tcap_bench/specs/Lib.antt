pub mod Checksum
pub mod Fed
pub mod Messages
pub mod Rewritten
