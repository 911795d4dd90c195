mod Bits
pub mod Purges
pub mod Segments
pub mod Changes
pub mod Making
pub mod Restored
