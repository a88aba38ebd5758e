pub mod Buildings
pub mod Static
pub mod Forces
pub mod Modal
pub mod Exact
pub mod Theorems
