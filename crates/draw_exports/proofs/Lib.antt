mod Laws
mod OnlyOne
