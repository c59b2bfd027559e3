mod OnlyOne
mod Meant
mod RoundTrip
