-- Lists of changes, made on a solver one after another.

-- changes that are made one after another, and what they move
pub mod Turns
-- the law that lists of changes join
pub mod Laws
