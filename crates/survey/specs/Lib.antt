-- To read: what the counting pass holds, beside the tally of text_tables.
pub mod Surveyed
