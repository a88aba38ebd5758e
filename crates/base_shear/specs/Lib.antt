pub mod Periods
pub mod Accelerations
pub mod Samples
