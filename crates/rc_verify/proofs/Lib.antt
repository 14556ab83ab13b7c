pub mod Strongest
pub mod Sums
pub mod Threads
pub mod Best
pub mod Refusals
mod Joining
pub mod Fit
mod Keeping
mod Ends
mod Standing
mod Plainly
mod Branching
mod Agreeing
mod Peeking
mod Arming
mod Ending
mod Looping
mod Breaking
mod Placing
mod Beginning
mod Told
pub mod Having
