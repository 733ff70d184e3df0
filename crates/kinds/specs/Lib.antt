pub mod Made
pub mod Between
pub mod Bids
pub mod Corridors
pub mod CorridorLaws
pub mod BetweenLemmas
pub mod Cells
pub mod BidLaws
