mod Commands
pub mod Drafts
mod Enough
pub mod Following
pub mod Leaving
pub mod Objects
pub mod Under
