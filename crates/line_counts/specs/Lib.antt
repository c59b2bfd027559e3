pub mod Noted
pub mod StateEntry
pub mod TransitionEntry
