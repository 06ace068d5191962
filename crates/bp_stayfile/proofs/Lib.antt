-- Lemmas on tables, each page after those that it rests on.

-- what a reader of `csv` still gives, record by record
pub mod CsvLemmas
-- spaces at the ends of a text
pub mod FieldLemmas
-- fields that are UTF-8, one after the other
pub mod TextLemmas
-- the rows of a table, and the places of its columns
pub mod RowLemmas
-- the codes of a set of texts
pub mod CodeLemmas
-- rows that are read one after the other
pub mod ReadLemmas
-- a stay that is read is within its limits
pub mod StayLemmas
-- the counts of a file, laid out by stay
pub mod CountLemmas
-- what a forecast file sets, whole or up to its refusal
pub mod ForecastLemmas
-- the rooms sold on each night
pub mod BookingLemmas
-- what the readers of a hotel's files accept breaks no limit of a house
pub mod FitLemmas
