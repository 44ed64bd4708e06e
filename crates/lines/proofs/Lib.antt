-- Laws that the proofs use, and computed cases.
pub mod Laws
mod Cases
