pub mod OperandsExact
pub mod Written
