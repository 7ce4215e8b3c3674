pub mod Bytes
pub mod ConsoleLine
pub mod FaultAt
pub mod Pieces
pub mod Steps
pub mod WorkResult
