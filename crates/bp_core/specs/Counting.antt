-- Histories of which every caller's entries are known, and where their vectors stand.
use Rattle.std.specs.Prelude.{◌≡◌, ℕ, ◌<◌, ◌≤◌, true, [], ◌∷◌, ◌++◌, length, take, drop, Some, slice_get, All}
use Rattle.std.specs.List.{list_any}
use Rattle.bp_types.specs.Sums.{sum_below}
use Rattle.bp_types.specs.House.{Inn}
use Rattle.bp_board.specs.Posted.{Posted}
use Rattle.bp_core.specs.declared.line.Line.{Line}
use Rattle.bp_core.specs.Lines.{History, line_at, calls, commands, commands_of, is_publish, boards, last_number, last_position, last_prices}
use Rattle.bp_core.specs.Callers.{is_leave}
use Rattle.bp_core.specs.Changes.{changes_after}
use Rattle.bp_core.specs.Legal.{IsLegal}
use Rattle.bp_core.specs.Staying.{IsPrefix}

-- a history that has of each caller the entries of a prefix, and no more, is that prefix
abbrev pub NothingMore : Type 0
NothingMore = (part whole : History) → IsPrefix part whole → ((n : ℕ) → calls whole n ≡ calls part n) → whole ≡ part

-- the lines stand in the history, in their order
abbrev pub HasInOrder : History → History → Type 0
HasInOrder [] H = Unit {0}
HasInOrder (x ∷ xs) H = (before after : History) × (H ≡ before ++ x ∷ after) × HasInOrder xs after

-- a history that has these lines in their order, and of each caller no more than they have, is these lines
abbrev pub JustThese : Type 0
JustThese = (lines whole : History) → HasInOrder lines whole → ((n : ℕ) → calls whole n ≡ calls lines n) → whole ≡ lines

-- where so many changes stood after the last vector and later fewer do, a vector was published in between
abbrev pub VectorBetween : Type 0
VectorBetween = (part rest : History) (lead : ℕ) → lead ≤ changes_after part (last_position part) →
    changes_after (part ++ rest) (last_position (part ++ rest)) < lead → list_any is_publish rest ≡ true

-- a vector stands at a place from a turn's length on
abbrev pub IsFollowed : History → ℕ → Type 0
IsFollowed H t = list_any is_publish (drop t H) ≡ true

-- how the turns of one who publishes for so many changes are settled
pub record TurnsSettle : Type 0 where
  -- it lasts
  pub lasts : (H rest : History) (t : ℕ) → t ≤ length H → IsFollowed H t → IsFollowed (H ++ rest) t
  -- where fewer changes stand now, each turn so far that found as many is followed
  pub unchanged : (H : History) (lead t : ℕ) → t ≤ length H → changes_after H (last_position H) < lead →
      lead ≤ changes_after (take t H) (last_position (take t H)) → IsFollowed H t
  -- a vector of one's own follows all turns so far
  pub published : (H : History) (x : Line) (t : ℕ) → t ≤ length H → is_publish x ≡ true → IsFollowed (H ++ x ∷ []) t

-- the last vector of a legal history is for a position of it
abbrev pub LastPositionWithin : Type 0
LastPositionWithin = (h : Inn) (H : History) → IsLegal h H → last_position H ≤ length H

-- the last of the boards is there, and the last position and prices are its own
pub record HasLastBoard (H : History) : Type 0 where
  pub board : Posted
  pub last : slice_get (boards H) (last_number H) ≡ Some board
  pub position : board.position ≡ last_position H
  pub prices : board.certificate.prices ≡ last_prices H

-- so it is with each legal history
abbrev pub LastBoardIsLast : Type 0
LastBoardIsLast = (h : Inn) (H : History) → IsLegal h H → HasLastBoard H

-- who has left has no later entry
abbrev pub LeaveIsLast : Type 0
LeaveIsLast =
    (h : Inn) (H : History) (i j : ℕ) → IsLegal h H → i < j → j < length H →
    is_leave (line_at H i).entry.act ≡ true → (line_at H j).entry.caller ≡ (line_at H i).entry.caller → ⊥

-- the command entries are those of all callers added up
abbrev pub CommandsAddUp : Type 0
CommandsAddUp =
    (H : History) (callers : ℕ) → All (λ (x : Line). x.entry.caller < callers) H →
    commands H ≡ sum_below (λ c. length (commands_of H c)) callers
