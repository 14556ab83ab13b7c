pub mod Forms
pub mod Renames
