-- Lemmas on the solver, each page after those that it rests on. Other crates cite `Settled`.

-- one augmentation keeps the reduced costs from being negative, and lessens the imbalance
pub mod ShiftStep
-- potentials lowered by the distances to the last node: the prices are the least ones
pub mod SettleStep
-- rooms that change on a span, and the flow under them
pub mod RoomSteps
-- a change of one stay's rate, where what is sold of it is right at both
pub mod Rates
-- the program of a solved flow has an optimum, and exactly one list of least prices
pub mod Solvable
-- a change of one stay's forecast and sold number
pub mod DemandSteps
-- repairs follow the rises of what is lacking
pub mod Rising
-- a solver from nothing, shortage by shortage
pub mod Cold
-- a start: units over an arc with as many rooms more
pub mod Carrying
-- a solved flow gives a certificate
pub mod Certified
-- what is said of an answer of a settled solver, said of its instance
pub mod Settled
-- steps along kept ways, and what it says where all ways stand
pub mod WaySteps
-- a booking of a stay that is sold
pub mod BookSteps
