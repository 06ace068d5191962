-- Where a reader of `csv` over bytes in memory stands, and the records that it still gives.
use Rattle.std.specs.Prelude.{◌≡◌, ℕ, ◌+◌, false, true, List, [], length, Option, Some, None}
use Rattle.std.specs.Borrow.{Bor}
use Rattle.csv.specs.Machine.{ends_at_end}
use Rattle.csv.specs.Reading.{Ready, default_config, records_from, source_of}
use Rattle.csv.specs.declared.parser.State.{State}
use Rattle.csv.specs.declared.reader.Reader.{Reader}
use Rattle.csv.specs.declared.reader.Trim.TheVariants as trim
use Rattle.csv.specs.declared.error.ErrorKind.{ErrorKind}
use Rattle.csv.specs.declared.error.ErrorKind.TheVariants as kind
use Rattle.bp_stayfile.specs.Tables.{Record}

-- the bytes that a reader has left, which are known
abbrev pub bytes_left : Reader (Bor (List ℕ)) → Option (List ℕ)
bytes_left r = source_of (λ s. Some s.now) r

-- the records behind a state in bytes
abbrev pub records_in : State → Option (List ℕ) → List Record
records_in state None = []
records_in state (Some bytes) = records_from default_config (length bytes + 1) state bytes

-- the records that a reader still gives
abbrev pub records_left : Reader (Bor (List ℕ)) → List Record
records_left r = records_in r.state (bytes_left r)

-- a reader by the defaults, but that records may differ in length and that a header is a record; it stands between
-- records
pub record IsReading (r : Reader (Bor (List ℕ))) : Type 0 where
  pub config : r.config ≡ default_config
  pub trim : r.trim ≡ trim.None
  pub flexible : r.flexible ≡ true
  pub ready : Ready r
  pub bytes : List ℕ
  pub known : bytes_left r ≡ Some bytes
  pub between : ends_at_end r.state ≡ false

-- an error of the bytes underneath or of memory: not of lengths, and not of what stands in a field
abbrev pub IsWantOfMemory : ErrorKind → Type 0
IsWantOfMemory (kind.Io e) = Unit {0}
IsWantOfMemory kind.OutOfMemory = Unit {0}
IsWantOfMemory (kind.UnequalLengths pos expected len) = ⊥
IsWantOfMemory (kind.Utf8 pos err) = ⊥
IsWantOfMemory (kind.Serialize text) = ⊥
IsWantOfMemory (kind.Deserialize pos err) = ⊥
