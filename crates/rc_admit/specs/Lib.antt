pub mod Answer
pub mod Judged
pub mod Laws
pub mod Worlds
