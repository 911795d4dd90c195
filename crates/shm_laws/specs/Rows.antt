-- Worked scripts: every line of them is computed by the definitions.
pub mod Script
pub mod Words
pub mod Pages
pub mod Network
pub mod Frames
pub mod Segments
pub mod Removal
pub mod Random1
pub mod Random2
pub mod Random3
pub mod Random4
pub mod Random5
pub mod Invented
pub mod Table
