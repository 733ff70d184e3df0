pub mod Seats
pub mod Rules
pub mod Verdict
