-- What each step on the table tells the seat that makes it.
use Rattle.std.specs.Prelude.{◌≡◌, ◌≢◌, ℕ, ◌%◌, ◌^◌, ◌≤◌, ◌<◌, false, List, [], ◌∷◌, ◌++◌, length, Option, Some, All}
use Rattle.atomic_table.specs.Table.{Me, Step}
use Rattle.bp_types.specs.declared.limits.TheConstants.{CALLERS}
use Rattle.bp_turn.specs.declared.table.View.{View}
use Rattle.bp_turn.specs.Prefix.{IsPrefix}
use Rattle.bp_turn.specs.Seat.{IsSoundView}
use Rattle.bp_turn.specs.Views.{view_with_ticket, view_at_turn, view_with_entry, view_after_turn, view_with_look, view_with_choice}

-- a seat's view, and the slots that are out with it
abbrev pub Sat : Type 0 → Type 0 → Type 0 → Type 0
Sat B F E = Me (Option B) (View F E)

module _ {B F E : Type 0} where
  -- a seat without a number, which waits for nothing and holds nothing
  abbrev pub IsNote : Sat B F E → Type 0
  IsNote m = (CALLERS ≤ m.0.number) × (m.0.free ≡ []) × (m.0.ended ≡ []) × (m.0.has_ticket ≡ false) × (m.0.has_turn ≡ false) × (m.1 ≡ [])

  -- a ticket was drawn, which the word showed
  abbrev pub Drew : Step (Option B) → Sat B F E → ℕ → Sat B F E → Type 0
  Drew st m r m' = (t : ℕ) × (r ≡ t % 2 ^ 64) × (m' ≡ (view_with_ticket m.0 t, m.1))

  -- the turn ended, and the slot is back
  abbrev pub Gave : Step (Option B) → Sat B F E → ℕ → Sat B F E → Type 0
  Gave st m r m' = m' ≡ (view_after_turn m.0, [])

  -- a length was found, which is at least that of what was seen
  abbrev pub Looked : Step (Option B) → Sat B F E → ℕ → Sat B F E → Type 0
  Looked st m r m' = (m' ≡ (view_with_look m.0 r, m.1)) × (length m.0.seen ≤ r)

  -- the first operand of the step is the number that is handed out next
  abbrev pub Chose : Step (Option B) → Sat B F E → ℕ → Sat B F E → Type 0
  Chose st m r m' = m' ≡ (view_with_choice m.0 st.first, m.1)

module _ {B F E : Type 0} (fix : B → F) (story : B → List E) (caller : E → ℕ) where
  -- the seat has the turn and the value, whose story begins with what it had seen
  abbrev pub Took : Sat B F E → Sat B F E → Type 0
  Took m m' = (b : B) × (m' ≡ (view_at_turn m.0 (story b), (0, Some b) ∷ m.1)) × ((f : F) → m.0.fixed ≡ Some f → m.0.fixed ≡ Some (fix b)) ×
      IsPrefix m.0.seen (story b) × (IsSoundView caller m.0 → IsSoundView caller (view_at_turn m.0 (story b)))

  -- at its own ticket the seat has the turn; at another nothing changed
  abbrev pub Called : Step (Option B) → Sat B F E → ℕ → Sat B F E → Type 0
  Called st m r m' = (r ≡ m.0.ticket % 2 ^ 64 → Took m m') × (r ≢ m.0.ticket % 2 ^ 64 → m' ≡ m)

  -- the entry by which the value in the slot goes beyond what was seen is in the history
  abbrev pub Logged : Step (Option B) → Sat B F E → ℕ → Sat B F E → Type 0
  Logged st m r m' = (b : B) (e : E) → m.1 ≡ (0, Some b) ∷ [] → story b ≡ m.0.seen ++ e ∷ [] →
      (m' ≡ (view_with_entry m.0 e, m.1)) × (IsSoundView caller m.0 → IsSoundView caller (view_with_entry m.0 e))

  -- after a seat was joined in: the shorter list is a prefix of the longer, both had the same fixed part, and what is kept agrees with what was seen
  abbrev pub Learnt : Step (Option B) → Sat B F E → ℕ → Sat B F E → Type 0
  Learnt st m r m' =
      (m' ≡ m) × (length m.0.told ≤ length m.0.seen → IsPrefix m.0.told m.0.seen)
      × ((f g : F) → m.0.fixed ≡ Some f → m.0.told_fixed ≡ Some g → m.0.told_fixed ≡ m.0.fixed)
      × (m.0.number < CALLERS → (f : F) × (m.0.fixed ≡ Some f) → All (λ t. t ≤ length m.0.seen) m.0.turns → IsSoundView caller m.0)
