-- What contracts see of a pass.
use Rattle.std.specs.Prelude.{◌≡◌, ◌≢◌, ℕ, ◌-◌, ◌≤◌, false, List, [], ◌∷◌, All, Some, unwrap_or, IsTrue}
use Rattle.atomic_table.specs.Seated.{TableId}
use Rattle.bp_types.specs.declared.limits.TheConstants.{CALLERS}
use Rattle.bp_types.specs.House.{Inn}
use Rattle.bp_turn.specs.Callers.{numbers_from, numbers_to_hand_out}
use Rattle.bp_turn.specs.Seat.{SeatState}
use Rattle.bp_core.specs.declared.line.Line.{Line}
use Rattle.bp_core.specs.Lines.{History, calls}
use Rattle.bp_core.specs.Callers.{may_act, has_left}
use Rattle.bp_core.specs.Legal.{IsLegal}
use Rattle.bp_desk.specs.Newest.{Vector, IsNewest}

-- What a pass is, has seen and has done. `desk` is the desk that gave it, `house` the house of that desk, `caller` the
-- number that it calls under. It has seen the first entries of the history, `seen`, in which `calls` are its own.
-- `free` are the numbers that it may still hand out, `ended` the callers that were joined into it, each with its calls;
-- `turns` and `looks` are the lengths that its turns and looks found.
pub record PassState : Type 0 where
  pub desk : TableId
  pub house : Inn
  pub caller : ℕ
  pub seen : History
  pub calls : History
  pub free : List ℕ
  pub ended : List (ℕ × History)
  pub turns : List ℕ
  pub looks : List ℕ

-- what the pass has seen has of each caller just what is kept: its own calls, those of the callers joined into it, and
-- none of a number that it may still hand out or that nobody has
pub record HasAccounts (p : PassState) : Type 0 where
  pub own : calls p.seen p.caller ≡ p.calls
  pub ended : All (λ (x : ℕ × History). calls p.seen x.0 ≡ x.1) p.ended
  pub free : All (λ (n : ℕ). calls p.seen n ≡ []) p.free
  pub others : (n : ℕ) → CALLERS ≤ n → calls p.seen n ≡ []

-- a house that is never looked at: every seat has a fixed part
abbrev pub no_house : Inn
no_house = record { rooms = []; sold = []; stays = []; limits = record { stale_after = 0; entries = 0; publications = 0; unit = 0 } }

-- the house of a seat
abbrev pub house_of : SeatState Inn Line → Inn
house_of s = unwrap_or s.fixed no_house

-- a seat as a pass
abbrev pub pass_of : SeatState Inn Line → PassState
pass_of s = record {
  desk = s.lock;
  house = house_of s;
  caller = s.number;
  seen = s.seen;
  calls = s.own;
  free = s.free;
  ended = s.ended;
  turns = s.turns;
  looks = s.looks;
}

-- a seat that does not have the turn, and has seen a legal history
pub record IsIdle (s : SeatState Inn Line) : Type 0 where
  pub idle : s.has_turn ≡ false
  pub house : s.fixed ≡ Some (house_of s)
  pub legal : IsLegal (house_of s) s.seen

-- a pass: its seat may call under this number, and hand out the numbers from the next one on, and it keeps the newest
-- vector that it has seen
pub record IsPass (s : SeatState Inn Line) (caller next : ℕ) (newest : Vector) : Type 0 where
  pub idle : IsIdle s
  pub number : s.number ≡ caller
  pub may : IsTrue (may_act s.seen caller)
  pub free : s.free ≡ numbers_from next (CALLERS - next)
  pub from_one : 1 ≤ next
  pub hands_out : caller ≢ 0 → next ≡ CALLERS
  pub knows : IsNewest (house_of s) s.seen newest

-- what is left of the pass of a caller that has left
pub record IsGone (s : SeatState Inn Line) (newest : Vector) : Type 0 where
  pub idle : IsIdle s
  pub left : IsTrue (has_left s.seen s.number)
  pub none_free : s.free ≡ []
  pub knows : IsNewest (house_of s) s.seen newest

-- the pass of who opens a desk
abbrev pub opener : TableId → Inn → Line → PassState
opener desk house line =
    record { desk = desk; house = house; caller = 0; seen = line ∷ []; calls = line ∷ []; free = numbers_to_hand_out; ended = []; turns = []; looks = [] }

-- a pass with a number of its own that has seen as much as another, before its first call
abbrev pub newcomer : PassState → ℕ → PassState
newcomer p n =
    record { desk = p.desk; house = p.house; caller = n; seen = p.seen; calls = []; free = []; ended = []; turns = []; looks = [] }
