-- What private contracts say. No contract of a public call cites this.
pub mod Prog
pub mod Places
pub mod Deeps
pub mod Readers
pub mod Marks
pub mod TypeReaders
pub mod StatementReaders
pub mod DeclarationReaders
pub mod StatementViews
pub mod TypeViews
pub mod DeclarationViews
pub mod RegionViews
