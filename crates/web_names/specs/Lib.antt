pub mod IdentifierRows
pub mod Identifiers
pub mod Refusals
pub mod SectionNames
pub mod SectionRows
pub mod inner
