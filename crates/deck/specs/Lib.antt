pub mod Terms
pub mod Books
pub mod Desks
pub mod Prints
pub mod Decks
pub mod Samples
