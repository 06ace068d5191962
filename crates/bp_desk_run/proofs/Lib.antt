-- Lemmas on desk runs.

-- a run that was cut is not complete and closed
pub mod Cutting
-- at which places the entries of a caller stand
pub mod Places
-- the first lines of a run: the opener's vector, and the Enrols in order
pub mod Opening
-- the fields of a desk run, from what is known of each caller at its end
pub mod Ending
-- the opener alone at the desk
pub mod Closing
-- the whole history, once the desk is closed
pub mod Finishing
-- the end of a caller, by what it did
pub mod Running
-- callers that enrol, meet the opener and come back to it
pub mod Enrolling
-- callers at their places: the last place is caller 1's
pub mod Crewing
-- the first vector, and the optimisers that start from it
pub mod Starting
-- the opener's last round, and the book
pub mod LastRound
-- a whole run, from its parts
pub mod Composing
-- callers made of scripts
pub mod Scripting
-- how many vectors a run has
pub mod Counting
-- the commands of a run, and those of its scripts
pub mod Totals
-- where there are entries and vectors enough, a run is whole
pub mod Room
