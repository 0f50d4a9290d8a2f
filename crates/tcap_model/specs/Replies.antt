pub mod Due
pub mod Held
pub mod Legal
pub mod Queue
pub mod Reply
