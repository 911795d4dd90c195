pub mod Deliveries
pub mod Rounds
