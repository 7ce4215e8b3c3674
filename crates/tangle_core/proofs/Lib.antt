pub mod EmittingLemmas
mod FillingLemmas
mod FoldedLemmas
pub mod GoingLemmas
mod LinedLemmas
pub mod ReachingLemmas
mod TanglingLemmas
pub mod WorkLemmas
mod WritingLemmas
