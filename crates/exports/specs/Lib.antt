pub mod Steps
pub mod Numbers
pub mod Checks
pub mod Laws
