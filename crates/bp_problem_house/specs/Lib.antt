-- What the house of a problem is.

-- the house of a problem
pub mod Houses
