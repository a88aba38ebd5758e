pub mod Cuts
pub mod TermsBack
pub mod Absent
pub mod FairDeeds
pub mod Standing
