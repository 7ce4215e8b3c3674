mod EntriesLemmas
mod GatheringLemmas
mod PoolLinesLemmas
mod PoolTextLemmas
mod StringsLemmas
