pub mod Largest
pub mod Paths
pub mod OnlyOne
pub mod Best
pub mod Demand3
pub mod NotLastOfAll
pub mod Rival
pub mod Laws
