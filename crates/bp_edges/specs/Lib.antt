-- What shelves and sinks promise, and what contracts see of those in memory. Each page rests on those above it.

-- counts that are a u64 and stay at its last value
pub mod Counts
-- what a shelf holds, and what it remembers of its newest fetch
pub mod Held
-- what a fetch may answer, and what it leaves
pub mod Fetching
-- what a write adds to what a sink tells of its text
pub mod Writing
-- how a writer's error says what its sink answered
pub mod WriteError
-- which calls of an edge in memory fail
pub mod Schedule
-- a shelf and a sink in memory
pub mod Memory
-- how bytes pass from a reader to a list
pub mod Reading
