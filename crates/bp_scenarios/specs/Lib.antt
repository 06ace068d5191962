-- What is said of scenarios: which changes are refused, outcomes, the text that asks and the lines that answer, and
-- laws.

-- which changes may be asked about, and the first one of a list that the rooms of some night do not allow
pub mod Refused
-- what is answered to a list of changes
pub mod Outcomes
-- the text of scenarios: each begins with a line of its own, and its changes follow, one a line
pub mod Texts
-- how a row is read, behind so many scenarios with so many changes in all
pub mod Rows
-- the lines that answer scenarios
pub mod Printed
-- laws over scenarios
pub mod Laws
