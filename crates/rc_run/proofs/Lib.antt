mod Entries
mod Buffers
mod Starts
mod Begins
mod Completes
mod Orders
mod LockWaits
mod Calms
mod Turns
mod Lending
mod Finding
mod Posting
pub mod TurnEvents
mod Growing
mod Dispatching
