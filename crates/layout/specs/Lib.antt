pub mod Cases
pub mod Fields
pub mod Layout
pub mod Packing
pub mod Sound
