pub mod Faults
pub mod Fractions
pub mod Sites
