pub mod Emission
pub mod Job
pub mod Outcome
pub mod OutcomeRows
pub mod Tangled
pub mod TangledRows
pub mod Work
pub mod inner
