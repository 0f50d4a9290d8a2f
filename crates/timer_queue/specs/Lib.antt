pub mod Order
pub mod Heap
pub mod Queue
pub mod Due
