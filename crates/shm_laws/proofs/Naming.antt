-- A site's attachments are what the account names.
pub mod Kept
pub mod Steps
