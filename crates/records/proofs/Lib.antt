pub mod Fields
pub mod FirstOrdinates
pub mod FromCalls
pub mod Unused
