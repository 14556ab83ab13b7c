pub mod Changed
pub mod Heeded
pub mod Hints
pub mod LastItem
pub mod Pieces
pub mod Reacted
pub mod Room
