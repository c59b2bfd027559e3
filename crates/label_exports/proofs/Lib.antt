mod OnlyOne
mod Meant
