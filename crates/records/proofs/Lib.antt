pub mod Bytes
pub mod Exact
pub mod Verdicts
