mod OnlyOne
