-- To read in this order: how an answer crosses to C; what the calls promise; when each number is given, in plain terms; that what was written of what was
-- read reads back.
pub mod Numbers
pub mod Promise
pub mod Meaning
pub mod RoundTrip
