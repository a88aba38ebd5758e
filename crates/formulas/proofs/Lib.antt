pub mod Sums
pub mod Quotients
pub mod Static
pub mod Forces
pub mod Modal
pub mod Combined
pub mod Design
