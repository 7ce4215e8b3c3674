pub mod PiecesLemmas
pub mod StepsLemmas
pub mod WorkResultLemmas
