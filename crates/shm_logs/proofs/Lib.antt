pub mod Audits
pub mod Pushes
