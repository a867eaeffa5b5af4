pub mod Answers
pub mod Handed
pub mod Uids
pub mod Laws
