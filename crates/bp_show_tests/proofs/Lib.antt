-- Lemmas by which the tests keep what they know.

-- what the tests know of a desk beside its screen is kept by each call
pub mod Lobbies
