-- What contracts see of a board.

-- a vector of bid prices as it is posted
pub mod Posted
