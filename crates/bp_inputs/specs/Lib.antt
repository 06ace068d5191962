-- What is said of files: the plan of a task, one fetch, why a reader gives no value, and each kind of file.

-- the files of a task, one stage after another: what a file means may rest on the values of those before it
pub mod Stages
-- what a shelf holds and counts over a call, and what follows for one file
pub mod Fetches
-- why a reader gives no value of a file
pub mod Unread
-- why the files of a task give no value, and what a call says that reads them
pub mod Stops
-- the files of lines: a problem, a certificate
pub mod TextFiles
-- the files of a hotel: the hotel file, and the tables that rest on it
pub mod HotelFiles
-- what a hotel's four files say together
pub mod HotelPlan
-- the file of a journal, in one of its versions
pub mod JournalFiles
-- the script of a desk's sessions, which rests on the hotel's nights and on the codes of its stays
pub mod ScriptFiles
-- the file of scenarios, which rests on the nights and the stays of their problem
pub mod ScenarioFiles
-- the list of a portfolio: the names of its hotels' files
pub mod ListFiles
