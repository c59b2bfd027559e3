mod OnlyOne
mod Meant
mod Best
