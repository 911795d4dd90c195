pub mod Orders
pub mod Queue
pub mod Book
