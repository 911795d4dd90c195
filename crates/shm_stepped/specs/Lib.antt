pub mod Choice
pub mod Cost
pub mod Waiting
