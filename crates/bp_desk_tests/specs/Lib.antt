-- What the tests of a shared desk cite.

-- what the tests know of a pass between two calls
pub mod Passing
