-- The linear program of a hotel, its optimum and its certificates, and what changes them. Each page rests on those
-- above it.

-- sums over the numbers below a bound
pub mod Sums
-- rooms by night and stays; the load and the worth of an allocation, the bound of prices
pub mod Program
-- spans of nights within a hotel, and the first night of one that is short
pub mod Spans
-- the limits of an instance, in the order in which they are refused
pub mod Limits
-- rooms that change by as much on each night of a span
pub mod Rooms
-- one change of a program, and several made one after another
pub mod Changes
-- feasible allocations, certificates, the optimum and the least prices
pub mod Optimum
-- what contracts see of a certificate, and when it is right
pub mod Claim
-- sums of prices to the last night
pub mod Prices
-- what rooms are worth: to a group, and on one night
pub mod Displacement
-- the laws over these definitions, which the module `law` proves
pub mod Laws
-- a house: a hotel as its desk opens
pub mod House
