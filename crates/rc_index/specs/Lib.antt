pub mod RingList
pub mod Counters
