-- Definitions that no public contract cites; the rest of what a folder stands for is in Stands.
pub mod Advance
pub mod CodePieces
pub mod CodeUnits
pub mod Stands
pub mod Table
