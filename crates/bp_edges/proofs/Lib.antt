-- Lemmas on counts and on texts that grow. A writer of another crate cites `Grows`.

-- counts that rose, over several calls
pub mod Rises
-- a text that grows piece by piece
pub mod Grows
-- a look at files one by one, from the first on
mod Finding
