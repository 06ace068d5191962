-- What is said of a book and its histories. Contracts of public calls cite the pages from `Lines` to `Headline`; the
-- last ones, from `Deltas` on, say how a book holds what it knows.

-- the lines of a history, oldest first, and what is asked of the whole list
pub mod Lines
-- who may act: the opener always, and who has enrolled and not left
pub mod Callers
-- the rooms, rooms sold, forecasts and rates after a history, and the linear program that they make
pub mod Instance
-- the entries that change the instance, and the changes that they make
pub mod Changes
-- the reply of each act after a history
pub mod Answer
-- legal histories: none of eight causes holds at any place
pub mod Legal
-- what a call may ask of a book, and what is answered
pub mod Acting
-- lists of calls, made one after the other
pub mod Calls
-- laws over histories
pub mod Laws
-- what stays as it is while a history grows
pub mod Staying
-- histories of which every caller's entries are known, and where their vectors stand
pub mod Counting
-- what a line and an answer say of the history before them
pub mod Replying
-- what the desk promises of every legal history, in the words of the hotel
pub mod Headline
-- the changes that one entry keeps, as a list
pub mod Deltas
-- entries and boards as the lines of a history, with what each line changes
pub mod Log
-- what is kept of each caller: its standing, and its bookings in order
pub mod Roll
-- a booking that was accepted and not given up
pub mod Held
-- what a book keeps beside its history, each part as the history says
pub mod Keeping
