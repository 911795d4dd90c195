-- One page: what is true of it in every run, and that each row of its protocol keeps that.
pub mod View
pub mod Entry
pub mod Clear
pub mod Hand
pub mod Keep
pub mod HandOver
pub mod Install
pub mod Own
pub mod Orders
pub mod Book
pub mod Turn
pub mod Books
pub mod Rows
pub mod Moves
