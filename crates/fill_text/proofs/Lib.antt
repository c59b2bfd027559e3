mod Laying
mod Naming
mod Going
mod WordsOn
mod KeptOn
mod Filling
