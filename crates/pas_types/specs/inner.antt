-- What private contracts say. No contract of a public call cites this.
pub mod LabelViews
pub mod LabelAnswers
pub mod FlowViews
pub mod TargetViews
pub mod CaseViews
pub mod Checking
pub mod Transfers
pub mod RoutineAnswers
pub mod BlockAnswers
pub mod Programs
pub mod RoutineStands
