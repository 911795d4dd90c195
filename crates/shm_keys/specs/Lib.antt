pub mod Class
pub mod Purge
pub mod Table
pub mod Restored
pub mod Answer
pub mod GetFault
