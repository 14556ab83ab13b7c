pub mod Bags
pub mod Holdings
pub mod Pools
