pub mod Kept
pub mod Bytes
pub mod Brought
