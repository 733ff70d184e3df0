pub mod Bounds
pub mod FigureLaws
pub mod Values
