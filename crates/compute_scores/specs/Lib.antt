pub mod Promise
pub mod Meaning
pub mod Independent
pub mod Entry
pub mod StateEntry
pub mod TransitionEntry
