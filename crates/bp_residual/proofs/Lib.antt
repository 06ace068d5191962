-- Lemmas on flows, each page after those that it rests on. The solver cites those from `Slackness` to `LeastLaws`,
-- `PushLoop`, `Empty` and `Shortest`; the searches cite `Lifts`, `Paths` and `Augment`.

-- complementary slackness: no reduced cost is negative exactly where revenue and dual value agree
pub mod Slackness
-- lifts of the potentials, and prices brought down to a limit
pub mod Lifts
-- pushes over residual steps: what the flow carries, and that it stays a flow
pub mod Pushes
-- residual paths: joined, forward over the nights, and back where the flow carries something
pub mod Paths
-- one augmentation: a lift by the distances, and a push along a shortest path
pub mod Augment
-- the least prices: along a shortest residual path to the last node, no optimal prices sum to less
pub mod Least
-- the least prices are within the rates
pub mod LeastLaws
-- the loop that sums the prices anew
pub mod LiftLoop
-- the loop that pushes hop by hop
pub mod PushLoop
-- the empty flow is balanced and slack
pub mod Empty
-- a changed instance under a flow with potentials
pub mod Changed
-- the hops of each node, found by counting
pub mod Counting
-- the hops of a node among those of all nodes
pub mod Indexed
-- the ends of the arcs: no change moves them, and they tell the tails of the hops
pub mod Ends
-- an instance set to another one of the same nights and spans
pub mod SetTo
-- shortest distances to the last node exist, and are found by shortening ways
pub mod Shortest
