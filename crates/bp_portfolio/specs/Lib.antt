-- What is said of portfolios: their lists, and the desks of several hotels beside one another.

-- the list of a portfolio: the names of each hotel's five files, a line for each hotel
pub mod Lists
-- laws over lists of hotels
pub mod Laws
-- the names that a line has, by their bytes
pub mod Borrowed
-- the desks of hotels beside one another: what they may run, and what is said of all of them
pub mod Desks
-- the desks of several hotels, before they run and afterwards
pub mod Sites
