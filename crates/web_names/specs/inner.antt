-- How the types of this crate keep what their contracts see. No contract of a public call cites this.
pub mod NameIndex
pub mod SectionOrder
