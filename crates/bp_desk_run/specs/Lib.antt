-- What is said of a desk's run: the history that it may leave, what is known of its callers, and laws.

-- what the history of a run is: the theorem of a desk that ran, to be read before anything else here
pub mod DeskRun
-- what is said of the closed desk of one house: the page to read of a line `desk`, and of each hotel of a portfolio
pub mod RightRun
-- laws of desk runs
pub mod Laws
-- how a run begins
pub mod Beginnings
-- what is known of each caller at the end of a run
pub mod Endings
-- the opener's last round, when all others have left
pub mod Closing
-- the callers of a run before they run, and after
pub mod Actors
-- what a run comes to
pub mod Finals
