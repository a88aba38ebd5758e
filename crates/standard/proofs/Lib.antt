pub mod Fractions
pub mod Verdicts
