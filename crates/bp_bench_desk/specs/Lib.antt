-- What the bench knows of a pass, of a desk beside its screen, and of a seat.

-- what a bench knows of a pass between two calls
pub mod Passing
-- what a bench knows of a desk beside its screen
pub mod Lobbies
-- what a bench knows of a seat between two turns
pub mod Turning
