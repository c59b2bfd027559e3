-- To read in this order: what each pass may rely on, and what it leaves in the lent tables; what one piece does on the way.
pub mod Filled
pub mod OnePiece
