-- Lemmas on hotel files, each page after those that it rests on.

-- decimal digits and the number that they write
pub mod DigitLemmas
-- a text in the form of a date is read by its parts
pub mod DateLemmas
-- the text of a day, and the years that its days lie in
pub mod DayLemmas
-- what follows from an answer of several tests, and the first refusal, place by place
pub mod StepLemmas
-- the rooms of nights, put one table after another
pub mod NightLemmas
-- what is read is within its limits
pub mod SeasonLemmas
-- a day has one text: dates with one day number have the same parts, and digits are told by the number that they write
pub mod TextLemmas
