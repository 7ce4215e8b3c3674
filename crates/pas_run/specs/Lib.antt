pub mod RunFiles
pub mod WholeRuns
pub mod inner
