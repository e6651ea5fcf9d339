pub mod Arrows
pub mod Drawings
pub mod Escaping
pub mod Measures
pub mod Numbering
pub mod Pages
pub mod Pictures
pub mod Tiles
