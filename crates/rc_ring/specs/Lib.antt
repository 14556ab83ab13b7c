pub mod Rings
pub mod Spelled
pub mod Alike
pub mod Places
