mod Passing
pub mod Rising
pub mod Weaker
pub mod Lines
pub mod Room
pub mod Moves
pub mod Headers
pub mod Copies
pub mod Meets
pub mod Alike
pub mod Joins
pub mod Both
pub mod RoomGrows
pub mod AgreeGrows
pub mod Growth
