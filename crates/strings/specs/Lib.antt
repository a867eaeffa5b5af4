pub mod Steps
pub mod Bodies
pub mod Laws
