pub mod Cuts
pub mod LaidOut
pub mod Lines
