-- How each input of a site moves a page.
pub mod Access
pub mod Transfer
pub mod Notes
pub mod Calls
pub mod Steps
