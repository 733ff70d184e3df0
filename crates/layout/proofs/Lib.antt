pub mod LaidOut
pub mod RoundTrip
pub mod Stored
