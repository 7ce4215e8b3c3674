pub use Rattle.wb_base.specs.FaultAt
pub mod Spellings
pub mod Cutting
pub mod Tokens
pub mod TokenRows
pub mod inner
