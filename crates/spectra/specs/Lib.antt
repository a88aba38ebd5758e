pub mod Spectra
pub mod Curves
pub mod CurvesLemmas
