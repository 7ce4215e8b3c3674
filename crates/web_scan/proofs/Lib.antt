mod AnswerLemmas
mod CodesLemmas
mod DefinitionLemmas
mod KeepsLemmas
mod LawfulDefinitionLemmas
pub mod LawfulLemmas
mod LawfulSectionTextLemmas
mod LawfulTextLemmas
mod NamesLemmas
mod NumericLemmas
mod OpenTextLemmas
mod PartsLemmas
mod PlacesLemmas
mod ReadTokenLemmas
pub mod ReadingLemmas
mod ResultLemmas
mod RightSideLemmas
mod ScanLemmas
mod ScannerLemmas
mod SectionsLemmas
mod StepsLemmas
mod StoredTokenLemmas
mod StringNumberLemmas
mod StringsLemmas
mod TextsLemmas
mod UnderLemmas
mod WordValueLemmas
