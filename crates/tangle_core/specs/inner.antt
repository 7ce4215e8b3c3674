-- Definitions that no public contract cites.
pub mod Emitting
pub mod Filling
pub mod FillingProps
pub mod Going
pub mod Refusing
pub mod Writing
