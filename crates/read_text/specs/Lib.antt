-- To read in this order: what the reader promises, and what the sizes of a text; when each number is given, in plain terms; that what
-- was written of what was read reads back; desk cases. Then the tables as the contract names them, and the parts of the two calls.
pub mod Promise
pub mod Sizes
pub mod Meaning
pub mod Again
pub mod Examples
pub mod Lent
pub mod Steps
