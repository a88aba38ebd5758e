pub mod Least
pub mod Rounding
pub mod Roots
pub mod Sums
