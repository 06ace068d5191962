-- Lemmas by which the tests keep what they know.

-- what the tests know of a pass is kept by each call
pub mod Keeping
