pub mod Loads
pub mod Shapes
pub mod Refusals
pub mod Outcomes
pub mod Views
pub mod ModalRuns
