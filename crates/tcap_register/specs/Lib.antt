pub mod Invokes
pub mod Answering
pub mod Serving
