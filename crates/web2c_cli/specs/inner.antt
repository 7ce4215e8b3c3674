-- Definitions that no public contract cites: what private functions keep to, and rows that are worked out.
pub mod Answer
pub mod Reaching
pub mod Running
pub mod Table
pub mod Reading
pub mod CommandRows
pub mod ProgramRows
