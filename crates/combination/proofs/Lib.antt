pub mod SquaresLaws
pub mod Falling
pub mod Grown
