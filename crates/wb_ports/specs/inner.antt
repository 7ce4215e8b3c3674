-- How the objects of this crate keep what their contracts see. No public contract cites this.
pub mod Gathered
pub mod MemShelfKept
pub mod Moving
pub mod Streams
pub mod Unread
