pub mod SeatLaws
pub mod CostBound
pub mod Exactness
