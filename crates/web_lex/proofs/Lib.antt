pub mod CodeLemmas
pub mod CommentLemmas
pub mod GapLemmas
pub mod NumberLemmas
pub mod QuotingLemmas
pub mod ReadLemmas
pub mod SpellingLemmas
pub mod TextLemmas
