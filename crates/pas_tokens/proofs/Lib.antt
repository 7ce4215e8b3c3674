mod CuttingLemmas
mod FrontLemmas
mod LineLemmas
mod NumberLemmas
mod WalkLemmas
