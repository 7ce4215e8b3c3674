-- What private contracts say. No contract of a public call cites this.
pub mod Doubled
pub mod Ended
pub mod Open
pub mod PartsView
pub mod Refused
pub mod StandsFor
pub mod Under
