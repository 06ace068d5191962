-- What is said of optimisers, sessions and workers: what each does with its pass, and how many searches it makes.

-- what contracts see of an optimiser, how it goes with what a pass has seen, and what it does with a pass
pub mod Following
-- how many searches it takes to catch up
pub mod Searching
-- what a round did
pub mod Rounds
-- what an optimiser quotes
pub mod Quoting
-- the vectors that a caller published
pub mod Vectors
-- what an actor has done with its pass
pub mod Acts
-- what a session is to do, and what it has done
pub mod Sessions
-- what becomes of a command of a session, and of one try of it
pub mod Tries
-- what an optimiser beside the sessions has done
pub mod Works
-- what one step of a worker did
pub mod Stepping
-- laws over the definitions
pub mod Laws
