-- What contracts see of a seat.
use Rattle.std.specs.Prelude.{◌≡◌, ℕ, Bool, false, List, [], ◌∷◌, length, Option, Some, None, if◌then◌else◌, ◌<◌, ◌≤◌, All}
use Rattle.atomic_table.specs.Table.{Me}
use Rattle.atomic_table.specs.Seated.{TableId}
use Rattle.bp_types.specs.declared.limits.TheConstants.{CALLERS}
use Rattle.bp_turn.specs.declared.table.View.{View}
use Rattle.bp_turn.specs.Callers.{entries_by, numbers_to_hand_out}

-- What a seat is, has seen and has done. `lock` is the lock that it is of, `fixed` the fixed part of that lock's value,
-- `number` the number that it logs under. It has seen the prefix `seen` of the history, in which `own` is what it
-- logged. It may hand out the numbers `free`; `ended` has the numbers of the seats joined into it, each with its
-- entries. `turns` and `looks` are the lengths that it found at each take and at each peek.
pub record SeatState (F E : Type 0) : Type 0 where
  pub lock : TableId
  pub fixed : Option F
  pub number : ℕ
  pub seen : List E
  pub own : List E
  pub free : List ℕ
  pub ended : List (ℕ × List E)
  pub has_turn : Bool
  pub turns : List ℕ
  pub looks : List ℕ

-- What was seen agrees with what is kept: the entries under the number are its own, those under an ended number the
-- ones kept with it, and none is under a number that may still be handed out or under one that no seat has.
pub record Agrees {F E : Type 0} (caller : E →
    ℕ) (fixed : Option F) (number : ℕ) (seen own : List E) (free : List ℕ) (ended : List (ℕ × List E)) (turns : List ℕ) : Type 0 where
  pub fixed_part : (f : F) × (fixed ≡ Some f)
  pub numbered : number < CALLERS
  pub own_entries : entries_by caller number seen ≡ own
  pub free_entries : All (λ n. (n < CALLERS) × (entries_by caller n seen ≡ [])) free
  pub ended_entries : All (λ (x : ℕ × List E). entries_by caller x.0 seen ≡ x.1) ended
  pub other_entries : (n : ℕ) → CALLERS ≤ n → entries_by caller n seen ≡ []
  pub turn_lengths : All (λ t. t ≤ length seen) turns

module _ {F E : Type 0} where
  -- what a contract sees of a view
  abbrev pub seat_of : TableId → View F E → SeatState F E
  seat_of lock v = record {
    lock = lock;
    fixed = v.fixed;
    number = v.number;
    seen = v.seen;
    own = v.own;
    free = v.free;
    ended = v.ended;
    has_turn =
        v.has_turn;
    turns = v.turns;
    looks = v.looks;
  }

  -- the first seat of a lock whose value has this fixed part and this story
  abbrev pub first_seat : TableId → F → List E → SeatState F E
  first_seat lock fixed story =
      record {
        lock = lock;
        fixed = Some fixed;
        number = 0;
        seen = story;
        own = story;
        free = numbers_to_hand_out;
        ended = [];
        has_turn = false;
        turns = [];
        looks = [];
      }

  -- a seat that was just split off another, with the number n
  abbrev pub new_seat : SeatState F E → ℕ → SeatState F E
  new_seat from n = record {
    lock = from.lock;
    fixed = from.fixed;
    number = n;
    seen = from.seen;
    own = [];
    free = [];
    ended = [];
    has_turn = false;
    turns =
        [];
    looks = [];
  }

module _ {F E : Type 0} (caller : E → ℕ) where
  -- what holds of every seat
  abbrev pub IsSound : SeatState F E → Type 0
  IsSound s = Agrees caller s.fixed s.number s.seen s.own s.free s.ended s.turns

  -- the same of its view
  abbrev pub IsSoundView : View F E → Type 0
  IsSoundView v = Agrees caller v.fixed v.number v.seen v.own v.free v.ended v.turns

-- between two calls a seat has a ticket only while it has the turn, and then the empty slot is out with it
pub record IsAtRest {B F E : Type 0} (caller : E → ℕ) (me : Me (Option B) (View F E)) : Type 0 where
  pub sound : IsSoundView caller me.0
  pub ticket : me.0.has_ticket ≡ me.0.has_turn
  pub slot : me.1 ≡ (if me.0.has_turn then (0, None) ∷ [] else [])
