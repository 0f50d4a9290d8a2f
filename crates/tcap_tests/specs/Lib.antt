pub mod Computing
pub mod Printed
