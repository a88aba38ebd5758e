pub mod Periods
pub mod FrameTables
pub mod Accelerations
pub mod SampleFigures
