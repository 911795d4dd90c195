pub mod Random1
pub mod Random2
pub mod Random3
pub mod Random4
pub mod Random5
