-- Lemmas on books and histories, each page after those that it rests on.

-- a history with one line more
pub mod Pushes
-- the sold rooms of a history with one line more
pub mod Sold
-- options, tests and spans, case by case
pub mod Cases
-- what a reply says of the rooms
pub mod Replies
-- the numbers that an act in range sets
pub mod Ranges
-- prefixes of legal histories, and what holds at every position of one
pub mod Prefixes
-- no night of a legal history is oversold, and its instance keeps to the limits
pub mod Sound
-- lines of entries and boards, with one entry more
pub mod LogLemmas
-- the bookings of a caller among those of all
pub mod RollLemmas
-- what a run of places changes, with one place more
pub mod StoredBetween
-- how long a legal history may be
pub mod Counts
-- a book with one line more, where each part follows the line
pub mod InStepMore
-- what a line leaves as it was, part by part
pub mod Effects
-- lines that sell, set and give up no rooms
pub mod Quiet
-- a caller enrols, or leaves
pub mod Enrolling
-- a forecast or a rate is set
pub mod Setting
-- the last vector of a legal history
pub mod Boards
-- a board is published
pub mod Publishing
-- the stock of rooms as a line moves it
pub mod Stocking
-- booking calls of a caller, with one more
pub mod Bookings
-- a stay is asked for, and booked or not
pub mod Booked
-- lines that are no change leave the instance
pub mod Unchanged
-- a group asks for rooms, and gets them or not
pub mod Grouping
-- what a standing says of what a caller may do
pub mod Standings
-- the book of a house that opens
pub mod Openings
-- what a method that logs a command owes
pub mod Answering
-- a booking is given up, or is not
pub mod Cancelling
-- the rooms of a night are set, or are not
pub mod Resizing
-- changes made one after the other, joined
pub mod Turns
-- instances of two histories that differ in rooms, or in one stay
pub mod Instances
-- the rooms left as a line moves the stock
pub mod Moves
-- what a reply that changes something says of its moment
pub mod Causes
-- each line of a legal history leads from the instance before it to the one after it
pub mod LineLeads
-- what stands between two positions leads from the instance at the one to that at the other
pub mod Between
-- whatever list of calls that meet their conditions is made, the history is legal
pub mod EveryList
-- what a caller knows of a history holds of each longer one that has the same entries of its own
pub mod Growing
-- what stands between three positions, and in a longer history
pub mod Joining
-- when nothing more can have been logged
pub mod Quietly
-- where the vectors of a history stand
pub mod Vectors
-- the certificate of the line at a place
pub mod Certificates
-- who has left has no later entry
pub mod Leaving
-- the command entries are those of all callers added up
pub mod Adding
-- what a line and an answer say of the history before them
pub mod Saying
-- what the desk promises of every legal history
pub mod Promising
-- a booking that was given up was made and accepted before
pub mod GivenUps
