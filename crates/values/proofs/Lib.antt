pub mod Figures
pub mod Filled
pub mod Quarters
