pub mod Logged
pub mod SiteLog
pub mod Receipt
pub mod Box
pub mod SiteBox
