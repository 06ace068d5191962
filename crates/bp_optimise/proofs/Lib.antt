-- Lemmas on optimisers, sessions and workers, each page after those that it rests on.

-- searches of several restarts, added up
pub mod Searches
-- passes that have only looked
pub mod Leading
-- an optimiser goes with a pass that has seen more
pub mod Following
-- a round whose board was answered
pub mod Rounding
-- the vectors of a caller, in a longer history
pub mod Owning
-- what an actor's looks and calls leave
pub mod Doing
-- how the turns of a worker are settled
pub mod Settling
-- what a session's commands leave, and why it stops
pub mod Stopping
-- the vectors of a caller from its enrolment to the end of a run
pub mod Ends
-- quotes, and nights that lack the units of a group
pub mod Lacking
-- why a board is superseded
pub mod Superseding
