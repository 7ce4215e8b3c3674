-- What private contracts say. No contract of a public call cites this.
pub mod Answers
pub mod Heads
pub mod Levels
pub mod Places
