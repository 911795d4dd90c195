pub mod Queues
pub mod Members
pub mod Starts
