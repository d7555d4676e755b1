pub mod Heaps
pub mod Faults
pub mod Queues
