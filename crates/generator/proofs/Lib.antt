mod Product
