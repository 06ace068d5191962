-- Lists of calls, made one after the other.
use Rattle.std.specs.Prelude.{◌≡◌, ℕ, ◌≤◌, List, [], ◌∷◌, length, take}
use Rattle.bp_core.specs.declared.call.Answer.{Answer}
use Rattle.bp_core.specs.declared.calls.Made.{Made}
use Rattle.bp_types.specs.House.{Inn}
use Rattle.bp_board.specs.Posted.{Posted}
use Rattle.bp_core.specs.Acting.{Diary, MayCall, IsAnswered, opening_line}

-- each call meets its conditions when its turn comes, whatever those before it were answered
abbrev pub MayMakeAll : Diary → List Made → Type 0
MayMakeAll now [] = Unit {0}
MayMakeAll now (made ∷ calls) =
    MayCall now made.caller made.call × ((next : Diary) (answer : Answer) → IsAnswered now next made.caller made.call answer → MayMakeAll next calls)

-- the calls lead from one book to another, and each answer is the one of its moment
abbrev pub AreAnswered : Diary → Diary → List Made → List Answer → Type 0
AreAnswered old new [] [] = new ≡ old
AreAnswered old new [] (answer ∷ answers) = ⊥
AreAnswered old new (made ∷ calls) [] = ⊥
AreAnswered old new (made ∷ calls) (answer ∷ answers) =
    (next : Diary) × IsAnswered old next made.caller made.call answer × AreAnswered next new calls answers

-- the house is the same, and so is the history up to each position that was there
abbrev pub Continues : Diary → Diary → Type 0
Continues old new =
    (new.house ≡ old.house) × ((n : ℕ) → n ≤ length old.history → (n ≤ length new.history) × (take n new.history ≡ take n old.history))

-- the book of a house that opens with a vector
abbrev pub opened_by : Inn → Posted → Diary
opened_by h board = record { house = h; history = opening_line board ∷ [] }
