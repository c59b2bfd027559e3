-- To read in this order: names as they stand in the text; the slots that find their ids.
pub mod Names
pub mod Slots
pub mod Examples
