-- To read in this order: the bytes that pieces make; where pieces stand, and what is ahead of a cursor; a pass over all of them; names
-- unescaped; examples.
pub mod PieceText
pub mod Standing
pub mod Passing
pub mod Unescaped
pub mod Examples
