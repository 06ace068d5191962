-- Lemmas on files, each page after those that it rests on.

-- how what is said of plans joins
pub mod StageLemmas
-- the files of a hotel are read in one way
pub mod HotelOneWay
-- the house of a hotel has its nights and its stays
pub mod HotelHouse
