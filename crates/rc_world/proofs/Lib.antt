pub mod Pieces
mod Pooling
mod Locking
pub mod Lists
pub mod Requests
pub mod Memory
pub mod Beginning
mod Bytes
pub mod Keeping
pub mod Writing
pub mod Laid
pub mod Settling
pub mod Threads
pub mod Jumps
pub mod StepParts
pub mod Cases
pub mod RingSteps
pub mod WorldSteps
mod Straying
pub mod Kernel
pub mod Removing
pub mod Starting
pub mod Heads
pub mod LawFaultless
pub mod LawGoes
pub mod LawLeast
pub mod LawLists
mod LawLocks
mod LawWaits
pub mod LawPlaces
pub mod LawRuns
pub mod LawSteps
pub mod LawTraces
pub mod Harmless
mod Free
