pub mod Place
pub mod EntityAttribute
pub mod MayHave
pub mod Literal
pub mod Laws
