pub mod Replies
pub mod Free
pub mod Answers
pub mod GoOn
