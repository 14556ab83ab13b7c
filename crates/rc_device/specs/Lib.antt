pub mod Files
pub mod Rooms
