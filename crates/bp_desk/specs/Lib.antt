-- What is said of a shared desk: what its passes have seen and done, its calls, and certificates from outside.

-- the newest vector that a pass has seen
pub mod Newest
-- what contracts see of a pass
pub mod Passes
-- what a call through a pass may be, and what it does
pub mod Calling
-- what the calls with answers of their own answer, as answers of the book
pub mod Typed
-- an instance that is carried along a history
pub mod Carrying
-- what a submitted certificate does, and what it is answered
pub mod Submitting
