pub mod FormLengths
pub mod Written
pub mod Laws
