-- Entries and boards as the lines of a history, with what each line changes.
use Rattle.std.specs.Prelude.{
  ◌≡◌,
  ℕ,
  ◌+◌,
  ◌-◌,
  Bool,
  if◌then◌else◌,
  List,
  [],
  ◌∷◌,
  length,
  map,
  take,
  drop,
  count_by,
  slice_get,
  slice_index_or,
  Option,
  Some,
  None,
  is_some,
}
use Rattle.std.specs.List.{range_with_len, flat_map}
use Rattle.std.specs.Option.{option_map}
use Rattle.bp_types.specs.declared.change.Change.{Change}
use Rattle.bp_board.specs.Posted.{Posted}
use Rattle.bp_core.specs.declared.line.Entry.{Entry}
use Rattle.bp_core.specs.declared.line.Line.{Line}
use Rattle.bp_core.specs.declared.line.Act.TheVariants.{Publish}
use Rattle.bp_core.specs.declared.line.Reply.{Reply}
use Rattle.bp_core.specs.declared.line.Reply.TheVariants.{Vector}
use Rattle.bp_core.specs.Lines.{History, published_position, boards, commands, vectors}
use Rattle.bp_core.specs.Changes.{is_change}

-- an entry that publishes
abbrev pub publishes : Entry → Bool
publishes e = is_some (published_position e.act)

-- the number of the vector that a reply gives
abbrev pub vector_number : Reply → Option ℕ
vector_number (Vector number) = Some number
vector_number _ = None

-- the number of the vector that an entry publishes
abbrev pub published_number : Entry → Option ℕ
published_number e = if publishes e then vector_number e.reply else None

-- the entry with the certificate of the first of the boards, if it publishes
abbrev pub line_with : Entry → List Posted → Line
line_with e bs =
    record { entry = e; certificate = if publishes e then option_map (λ (b : Posted). b.certificate) (slice_get bs 0) else None }

-- the boards after the one that an entry publishes
abbrev pub boards_after : Entry → List Posted → List Posted
boards_after e bs = if publishes e then drop 1 bs else bs

-- the entries, each Publish with the certificate of its board
abbrev pub lines_of : List Entry → List Posted → History
lines_of [] bs = []
lines_of (e ∷ es) bs = line_with e bs ∷ lines_of es (boards_after e bs)

-- what contracts see of a log: lines and what each changes, and for how many there is room
pub record LogView : Type 0 where
  pub lines : History
  pub deltas : List (List Change)
  pub line_room : ℕ
  pub board_room : ℕ

-- the changes among the first lines
abbrev pub changes_in : History → ℕ → ℕ
changes_in H n = count_by is_change (take n H)

-- what a log keeps beside its lines
pub record IsLog (H : History) (bs : List Posted) (feed : List (List Change)) (counts : List ℕ) (number : ℕ) : Type 0 where
  pub each_posted : bs ≡ boards H
  pub as_many : length bs ≡ vectors H
  pub fed : length feed ≡ length H
  pub counted : counts ≡ map (changes_in H) (range_with_len 0 (length H + 1))
  pub numbered : number ≡ commands H

-- the line that publishes a board as the vector of this number
abbrev pub published_line : ℕ → Posted → ℕ → Line
published_line caller board number =
    record { entry = record { caller = caller; act = Publish board.position; reply = Vector number }; certificate = Some board.certificate }

-- what the lines of the places from one up to, and not including, another change
abbrev pub stored_between : List (List Change) → ℕ → ℕ → List Change
stored_between deltas a b = flat_map (λ i. slice_index_or deltas i []) (range_with_len a (b - a))
