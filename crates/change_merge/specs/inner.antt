-- How lines and blocks are kept. No public contract cites this.
pub mod Spans
