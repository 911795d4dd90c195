-- The merged order of logs.
pub mod Lists
pub mod Run
pub mod Count
pub mod Order
