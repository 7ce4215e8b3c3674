-- What the proofs of private functions speak of. No public contract cites it.
pub mod Ahead
pub mod LineTokens
pub mod Reads
pub mod Spelling
pub mod Steps
