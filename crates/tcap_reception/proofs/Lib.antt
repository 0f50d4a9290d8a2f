pub mod PortionNames
