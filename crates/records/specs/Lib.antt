pub mod Bytes
pub mod Ordinates
pub mod Rows
