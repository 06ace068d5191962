-- The edges in memory.
use Rattle.std.specs.Prelude.{ℕ, List, map}
use Rattle.std.specs.FinMap.{from_entries}
use Rattle.bp_edges.specs.Held.{Files, Fetch}
use Rattle.bp_edges.specs.Schedule.{Schedule}

-- a file: its name and its bytes
pub record NamedBytes : Type 0 where
  pub name : List ℕ
  pub bytes : List ℕ

-- the files by name. Where two have one name, the first counts
abbrev pub files_of : List NamedBytes → Files
files_of files = from_entries (map (λ file. (file.name, file.bytes)) files)

-- what is counted of a shelf's fetches, and the newest of them
pub record Tally : Type 0 where
  pub faults : ℕ
  pub fetches : ℕ
  pub last : Fetch

-- a shelf in memory: its files, the calls that fail, and what is counted of its fetches
pub record ShelfState : Type 0 where
  pub files : List NamedBytes
  pub schedule : Schedule
  pub tally : Tally

-- a sink in memory: what was written to it, the calls that fail, and how often it failed
pub record SinkState : Type 0 where
  pub written : List ℕ
  pub schedule : Schedule
  pub faults : ℕ
