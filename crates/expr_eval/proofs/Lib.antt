pub mod Runs
pub mod Numbers
pub mod Lasts
pub mod Fronts
pub mod Parts
pub mod Missing
pub mod AddressParts
