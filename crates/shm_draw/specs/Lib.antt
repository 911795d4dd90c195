pub mod Captions
pub mod Picture
pub mod Svg
pub mod Drawing
pub mod Drawn
pub mod Arrows
