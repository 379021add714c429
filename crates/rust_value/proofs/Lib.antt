pub mod HeldItems
pub mod HeldLevels
pub mod HeldTexts
pub mod Items
pub mod Named
pub mod Parts
pub mod TextLevels
