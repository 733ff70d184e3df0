pub mod Sums
pub mod Tests
pub mod Searches
pub mod Ranges
pub mod Steps
pub mod Answers
