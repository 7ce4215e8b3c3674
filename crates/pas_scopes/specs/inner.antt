-- What private contracts say. No contract of a public call cites this.
pub mod ExpressionAnswers
pub mod Listed
