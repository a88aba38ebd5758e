pub mod Lists
pub mod LoadFacts
pub mod BaseShears
pub mod ModeFacts
pub mod Trips
pub mod RowFacts
pub mod StoreyFacts
pub mod Designs
