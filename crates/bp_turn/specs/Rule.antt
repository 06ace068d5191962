-- The rule of the lock's table, between any two steps: one history, of which each seat has seen a prefix.
use Rattle.std.specs.Prelude.{
  ◌≡◌,
  ℕ,
  zero,
  suc,
  ◌+◌,
  ◌%◌,
  ◌^◌,
  ◌<◌,
  ◌≤◌,
  Bool,
  true,
  false,
  if◌then◌else◌,
  List,
  [],
  ◌∷◌,
  length,
  Option,
  Some,
  ◌⊎◌,
  All,
  Contains,
}
use mathlib.Core.Option.{none, some}
use mathlib.Core.Option as maybe
use lib.ListN.{get_elem?}
use Rattle.atomic_table.specs.Table.{State}
use Rattle.bp_types.specs.declared.limits.TheConstants.{CALLERS}
use Rattle.bp_turn.specs.declared.table.View.{View}
use Rattle.bp_turn.specs.Callers.{entries_by}
use Rattle.bp_turn.specs.Prefix.{IsPrefix}

-- what a seat does with a number: it logs under it, or may hand it out, or keeps it for a seat that ended
pub data Part : Type 0 where
  logs : Part
  hands_out : Part
  keeps_ended : Part

-- What the rule says there is, beside what the table shows: the history; the ticket that is served and the one that is
-- drawn next, counted without end; which seat drew a ticket; which seat has a number, and its part in it; whether who
-- logs under a number has a ticket.
pub record Past (E : Type 0) : Type 0 where
  pub history : List E
  pub served : ℕ
  pub drawn : ℕ
  pub drawer : ℕ → ℕ
  pub role : ℕ → ℕ × Part
  pub waits : ℕ → Bool

-- one for true
abbrev pub bit : Bool → ℕ
bit b = if b then 1 else 0

-- how many numbers below n pass the test
unfoldable pub count_below : ℕ → (ℕ → Bool) → ℕ
count_below zero test = 0
count_below (suc n) test = count_below n test + bit (test n)

-- who has this number, these to hand out and these ended ones has this part in the number n
abbrev pub HasPart : {E : Type 0} → ℕ → Part → ℕ → List ℕ → List (ℕ × List E) → Type 0
HasPart n logs number free ended = number ≡ n
HasPart n hands_out number free ended = Contains free n
HasPart {E} n keeps_ended number free ended = (es : List E) × Contains ended (n, es)

module _ {F E : Type 0} where
  -- the seat j has a view of which P holds
  abbrev pub There : List (View F E) → ℕ → (View F E → Type 0) → Type 0
  There views j P = (v : View F E) × (get_elem? views j ≡ some v) × P v

  -- some seat has the turn
  abbrev pub SomeHasTurn : List (View F E) → Type 0
  SomeHasTurn views = (j : ℕ) × There views j (λ v. v.has_turn ≡ true)

  -- no seat has the turn
  abbrev pub NoneHasTurn : List (View F E) → Type 0
  NoneHasTurn views = (j : ℕ) (v : View F E) → get_elem? views j ≡ some v → v.has_turn ≡ false

-- the value is out, with the seat that has the turn; or it is at home, its story is the history, and no seat has the turn
abbrev pub IsOutOrHome : {B F E : Type 0} → (B → F) → (B → List E) → F → List E → List (maybe.Option (Option B)) → List (View F E) → Type 0
IsOutOrHome {B} {F} {E} fix story fixed history homes views =
    ((homes ≡ none ∷ []) × SomeHasTurn views) ⊎ ((b : B) × (homes ≡ some (Some b) ∷ []) × (story b ≡ history) × (fix b ≡ fixed) × NoneHasTurn views)

module _ {E : Type 0} (caller : E → ℕ) where
  -- the seat j may hand out the number n, under which nobody waits and no entry is
  abbrev pub IsFree : Past E → ℕ → ℕ → Type 0
  IsFree p j n = (n < CALLERS) × (p.role n ≡ (j, hands_out)) × (p.waits n ≡ false) × (entries_by caller n p.history ≡ [])

  -- the seat j keeps an ended number with its entries, and has seen them all
  abbrev pub IsEnded : Past E → ℕ → List E → ℕ × List E → Type 0
  IsEnded p j seen x = (p.role x.0 ≡ (j, keeps_ended)) × (entries_by caller x.0 p.history ≡ x.1) × (entries_by caller x.0 seen ≡ x.1)

-- What the view v of the seat j has to do with the past. `lock` and `told_lock`: it has the lock's fixed part. `seen`
-- and `told`: it has seen a prefix of the history. `own`, `free` and `ended`: no other seat has its numbers, and the
-- history's entries under them are the ones kept with them. `ticket` and `turn`: its ticket is no other's, and at its
-- turn it is the one that is served, and the seat has seen the whole history.
pub record Fits {F E : Type 0} (caller : E → ℕ) (fixed : F) (p : Past E) (j : ℕ) (v : View F E) : Type 0 where
  pub lock : (f : F) → v.fixed ≡ Some f → f ≡ fixed
  pub told_lock : (f : F) → v.told_fixed ≡ Some f → f ≡ fixed
  pub seen : IsPrefix v.seen p.history
  pub told : IsPrefix v.told p.history
  pub own : v.number < CALLERS → (p.role v.number ≡ (j, logs)) × (p.waits v.number ≡ v.has_ticket) × (entries_by caller v.number p.history ≡ v.own) ×
      (entries_by caller v.number v.seen ≡ v.own)
  pub free : All (IsFree caller p j) v.free
  pub ended : All (IsEnded caller p j v.seen) v.ended
  pub ticket : v.has_ticket ≡ true → (p.drawer v.ticket ≡ j) × (p.served ≤ v.ticket) × (v.ticket < p.drawn) × (v.number < CALLERS)
  pub turn : v.has_turn ≡ true → (v.has_ticket ≡ true) × (v.ticket ≡ p.served) × (v.seen ≡ p.history)

-- The rule. `words`: the words are the length of the history, the next ticket and the one that is served. `count`: as
-- many tickets are out as numbers wait, so no two tickets that are out are one word. `whole`: some seat has seen the
-- whole history. `roles`: each number below CALLERS has a seat. `tickets`: each ticket from the one that is served on
-- is some seat's. `others`: no entry has a number from CALLERS on. `each`: what each seat knows is so. `value`: where
-- the value is.
pub record FollowsRule {B F E : Type 0} (fix : B → F) (story : B → List E) (caller : E → ℕ) (fixed : F) (s : State (Option B) (View F E)) : Type 0 where
  pub past : Past E
  pub words : s.words ≡ length past.history ∷ past.drawn % 2 ^ 64 ∷ past.served % 2 ^ 64 ∷ []
  pub count : past.served + count_below CALLERS past.waits ≡ past.drawn
  pub whole : (j : ℕ) × There s.views j (λ v. v.seen ≡ past.history)
  pub roles : (n : ℕ) → n < CALLERS → There s.views (past.role n).0 (λ v. HasPart n (past.role n).1 v.number v.free v.ended)
  pub tickets : (t : ℕ) → past.served ≤ t → t < past.drawn → There s.views (past.drawer t) (λ v. (v.has_ticket ≡ true) × (v.ticket ≡ t))
  pub others : (n : ℕ) → CALLERS ≤ n → entries_by caller n past.history ≡ []
  pub each : (j : ℕ) (v : View F E) → get_elem? s.views j ≡ some v → Fits caller fixed past j v
  pub value : IsOutOrHome fix story fixed past.history s.homes s.views
