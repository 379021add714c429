pub mod Cutting
pub mod LastDigit
pub mod DigitWords
pub mod HexWords
pub mod HexNumbers
pub mod Text
