pub mod Types
pub mod Typed
pub mod TypeOf
pub mod TypeViews
pub mod Texts
pub mod TypedViews
pub mod Shapes
pub mod Lawful
