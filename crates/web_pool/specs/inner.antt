-- Definitions that no public contract cites.
pub mod Gathering
pub mod PoolParts
