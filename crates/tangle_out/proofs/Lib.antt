pub mod AdvanceLemmas
pub mod ClausesLemmas
pub mod FolderLemmas
pub mod PlacesLemmas
pub mod RunsLemmas
pub mod StandsLemmas
pub mod TwoMarksLemmas
pub mod UnitsLemmas
