pub mod Cuts
pub mod Heads
pub mod Lines
pub mod Others
pub mod Said
pub mod Things
pub mod Waiting
