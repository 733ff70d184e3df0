pub mod Sums
pub mod Tests
pub mod Searches
pub mod Cells
pub mod Kinds
pub mod Bids
