-- What the proofs of several functions use, and computed cases.
mod Texts
mod Calls
mod Bound
mod Cases
pub mod Twins
