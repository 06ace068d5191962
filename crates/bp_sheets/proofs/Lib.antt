-- Lemmas on bands and sheets, each page after those that it rests on.

-- what is known of each member of a list that grows
pub mod Members
-- open stays among one stay more
pub mod Shortest
-- lines of a sheet, one more at a time
pub mod Pages
-- one sheet for one program
pub mod Unique
