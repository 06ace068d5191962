-- What is said of the text of a journal: its lines, what a line tells, how it is read, and laws.

-- entries and certificates as the lines of a history
pub mod Stored
-- the words of acts and replies, their numbers, and which reply is one of an act's
pub mod Acts
-- the text of a journal, line by line
pub mod Journals
-- how great the numbers of a journal may be
pub mod Limits
-- what is found on a line that may be an entry's
pub mod Found
-- what the words of a line tell: an act and a reply, of which a number may be above its limit
pub mod Told
-- how a journal's text is read
pub mod Read
-- laws over journals' texts
pub mod Laws
