pub mod Boxes
pub mod Auditing
