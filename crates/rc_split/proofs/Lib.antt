pub mod Tokens
mod Marks
pub mod Turns
mod Alike
mod Small
mod Held
pub mod PoolBags
pub mod Named
pub mod AllPools
mod Starting
pub mod Lacking
pub mod Given
