pub mod Answers
pub mod Followed
pub mod Follower
pub mod Laws
pub mod Rights
pub mod RightsKnown
pub mod Searches
pub mod Ways
