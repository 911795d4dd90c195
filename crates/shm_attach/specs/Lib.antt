pub mod BeginFault
pub mod CallBook
pub mod Attachments
pub mod Right
pub mod Home
