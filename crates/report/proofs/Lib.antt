-- What the proofs use, and the laws that callers cite.
pub mod Laws
mod Cases
