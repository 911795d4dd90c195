pub mod Limits
pub mod Home
pub mod Page
pub mod Offset
pub mod SiteSet
