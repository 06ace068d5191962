-- What the tests of displays cite.

-- what the tests know of a desk beside its screen
pub mod Lobbies
