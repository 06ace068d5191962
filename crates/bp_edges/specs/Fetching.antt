-- What a fetch may answer, and what it leaves.
use Rattle.std.specs.Prelude.{◌≡◌, ℕ, ◌+◌, ◌<◌, ◌≤◌, true, false, List, length, Vec, Option, Some, IsSomeAnd, Result, Ok, Err, ⊤}
use Rattle.std.specs.declared.alloc.Global.{Global}
use Rattle.bp_edges.specs.Counts.{Rose}
use Rattle.bp_edges.specs.Held.{Fetch}
use Rattle.bp_edges.specs.declared.shelf.ShelfError.{ShelfError}
use Rattle.bp_edges.specs.declared.shelf.ShelfError.TheVariants.{Failed, TooLong, Memory}

-- the answer of a fetch: the bytes, or why there are none
abbrev pub Answer : Type 0
Answer = Result (Vec ℕ Global) ShelfError

-- over a shelf that has this text, or no text, under the name: Ok gives the text, and TooLong says that it is longer than the limit
abbrev pub Answers : Option (List ℕ) → ℕ → Answer → Type 0
Answers text limit (Ok bytes) = text ≡ Some bytes.items
Answers text limit (Err TooLong) = IsSomeAnd text (λ held. limit < length held)
Answers text limit (Err Failed) = ⊤
Answers text limit (Err Memory) = ⊤

-- the count of fetches rose, or the answer is Memory and it stays
abbrev pub CountsFetch : ℕ → ℕ → Answer → Type 0
CountsFetch before now (Ok bytes) = Rose before now
CountsFetch before now (Err TooLong) = Rose before now
CountsFetch before now (Err Failed) = Rose before now
CountsFetch before now (Err Memory) = now ≡ before

-- the newest fetch is this one, or the answer is Memory and it stays
abbrev pub Remembers : Fetch → Fetch → List ℕ → ℕ → Answer → Type 0
Remembers before now name limit (Ok bytes) = now ≡ record { name = name; taken = length bytes.items; failed = false }
Remembers before now name limit (Err TooLong) = now ≡ record { name = name; taken = limit + 1; failed = false }
Remembers before now name limit (Err Failed) = (now.name ≡ name) × (now.taken ≤ limit + 1) × (now.failed ≡ true)
Remembers before now name limit (Err Memory) = now ≡ before
