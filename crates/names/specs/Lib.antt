pub mod Cases
pub mod Names
pub mod Numbered
