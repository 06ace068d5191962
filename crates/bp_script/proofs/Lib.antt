-- Lemmas on scripts and on the problem of a demo.

-- What a request tells that was read of a row: its session and its command are within their limits.
pub mod RequestLemmas
-- What holds of each request that was read holds of the commands of every session.
pub mod ScriptLemmas
-- The stays of a demo, one after another, and the limits that they keep.
pub mod DemoLemmas
