pub mod Sent
pub mod Ticks
pub mod Pending
