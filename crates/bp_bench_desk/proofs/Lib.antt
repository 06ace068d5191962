-- Lemmas by which the bench keeps what it knows.

-- what a bench knows of a pass is kept by each call
pub mod Keeping
-- what a bench knows of a desk beside its screen is kept by each call
pub mod Lobbies
