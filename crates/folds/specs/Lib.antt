pub mod Steps
pub mod Lists
pub mod Laws
