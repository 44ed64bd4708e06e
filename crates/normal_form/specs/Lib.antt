pub mod Normal
pub mod NormalForm
pub mod Normalise
pub mod Written
