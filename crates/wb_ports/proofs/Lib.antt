pub mod CountsLemmas
pub mod FilesLemmas
pub mod HeldLemmas
mod MemShelfLemmas
mod WritingLemmas
