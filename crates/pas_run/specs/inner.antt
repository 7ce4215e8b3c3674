-- What private contracts say. No contract of a public call cites this.
pub mod FlatStore
pub mod MachineState
pub mod Doings
pub mod Scenes
pub mod Evaluating
pub mod Running
pub mod Copying
pub mod Calling
pub mod Laying
pub mod Starting
pub mod Binding
