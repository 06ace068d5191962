-- Changes that the rooms allow fit, one after another.
use Rattle.std.proofs.Common.{
  ◌≡◌,
  ℕ,
  zero,
  suc,
  ◌+◌,
  ◌-◌,
  ◌≤◌,
  ◌<◌,
  ◌||◌,
  Bool,
  true,
  false,
  List,
  [],
  ◌∷◌,
  Option,
  Some,
  None,
  is_some,
  arith,
  refl,
  ap,
  drop,
  length,
  slice_index,
  slice_index_or,
  sym,
  subst,
  ◌∙◌,
  inl,
  inr,
  cond,
  All,
}
use Rattle.std.specs.Prelude.{nat_lt}
use Rattle.std.proofs.lemmas.Bool.{ltb-false, cases_Bool, cond-true, cond-false}
use Rattle.std.proofs.lemmas.List.{length-set}
use Rattle.bp_types.specs.declared.change.Change.{Change}
use Rattle.bp_types.specs.declared.change.Change.TheVariants.{Rooms, Demand, Rate}
use Rattle.bp_types.specs.declared.stay.Span.{Span}
use Rattle.bp_types.specs.declared.limits.TheConstants.{MOST_ROOMS}
use Rattle.bp_types.specs.Program.{Program, covers, stay_at}
use Rattle.bp_types.specs.Changes.{changed, Fits, FitInTurn, with_forecast, with_rate}
use Rattle.bp_types.proofs.Firsts.{none_passes}
use Rattle.bp_types.proofs.RoomLemmas.{length-rooms_moved, room_moved-inside}
use Rattle.bp_types.proofs.Spans.{covers_inside}
use Rattle.bp_scenarios.specs.Refused.{IsChangeOf, IsChangeWithin, is_past, room_after, taken, breaks, first_refused}

is_none : (o : Option ℕ) → is_some o ≡ false → o ≡ None
is_none None e = refl
is_none (Some n) e = absurd (cc)

or_false : (a b : Bool) → (a || b) ≡ false → (a ≡ false) × (b ≡ false)
or_false true b e = absurd (cc)
or_false false b e = (refl, e)

-- where no night breaks a limit, this one doesn't
within : (p : Program) (c : Change) (n : ℕ) → breaks p c ≡ false → n < length p.rooms → (taken c n ≤ slice_index p.rooms n) × (room_after p c n ≤ MOST_ROOMS)
within p c n whole here =
    let none = none_passes (is_past p c) 0 (length p.rooms) (is_none _ whole) n (omega arith) (omega arith) in
    let parts = or_false (nat_lt (slice_index p.rooms n) (taken c n)) (nat_lt MOST_ROOMS (room_after p c n)) none in
    (ltb-false (slice_index p.rooms n) (taken c n) parts.0, ltb-false MOST_ROOMS (room_after p c n) parts.1)

pub fits : (p : Program) (c : Change) → IsChangeWithin p c → breaks p c ≡ false → Fits p c
fits p (Rooms span true units) range whole = (
  range.0,
  λ n above below.
      let h = within p (Rooms span true units) n whole (let r = range.0.1 in omega arith) in
      let e = room_moved-inside p.rooms span true units n above below in
      omega (arith, h.1, e),
)
fits p (Rooms span false units) range whole = (
  range.0,
  λ n above below.
      let h = within p (Rooms span false units) n whole (let r = range.0.1 in omega arith) in
      let e : cond (covers span n) units 0 ≡ units = cond-true _ _ _ (covers_inside span.from span.to n above below) in
      omega (arith, h.0, e),
)
fits p (Demand stay value) range whole = range
fits p (Rate stay value) range whole = range

-- a change leaves the numbers of nights and stays
pub same_nights : (p : Program) (c : Change) → length (changed p c).rooms ≡ length p.rooms
same_nights p (Rooms span up units) = length-rooms_moved p.rooms span up units
same_nights p (Demand stay value) = refl
same_nights p (Rate stay value) = refl

pub same_stays : (p : Program) (c : Change) → length (changed p c).stays ≡ length p.stays
same_stays p (Rooms span up units) = refl
same_stays p (Demand stay value) = length-set p.stays stay (with_forecast (stay_at p stay) value)
same_stays p (Rate stay value) = length-set p.stays stay (with_rate (stay_at p stay) value)

-- so what may be asked of the one program may be asked of the other
pub still_within : (p q : Program) (c : Change) → length q.rooms ≡ length p.rooms → length q.stays ≡ length p.stays → IsChangeWithin p c → IsChangeWithin q c
still_within p q c nights stays within =
    let P : ℕ → Type 0 = λ n. IsChangeOf n (length q.stays) c in
    let Q : ℕ → Type 0 = λ n. IsChangeOf (length p.rooms) n c in
    subst P (sym nights) (subst Q (sym stays) within)

all_tail : (P : Change → Type 0) (c : Change) (cs : List Change) → All P (c ∷ cs) → All P cs
all_tail P c cs all k d h = all (suc k) d (omega arith)

-- changes of which none is refused fit
pub fit_in_turn : (k : ℕ) (start p : Program) (cs : List Change) → All (IsChangeWithin start) cs → length p.rooms ≡ length start.rooms →
    length p.stays ≡ length start.stays → first_refused k p cs ≡ None → FitInTurn p cs
fit_in_turn k start p [] all nights stays none = tt
fit_in_turn k start p (c ∷ cs) all nights stays none = elim (cases_Bool (breaks p c)) [
  | inl broken ↦ absurd (let e : Some k ≡ None = sym (cond-true _ _ _ broken) ∙ none in cc)
  | inr whole ↦ (
    fits p c (still_within start p c nights stays (all 0 c (omega arith))) whole,
    fit_in_turn (k + 1) start (changed p c) cs (all_tail (IsChangeWithin start) c cs all) (same_nights p c ∙ nights) (same_stays p c ∙
        stays) (sym (cond-false _ _ _ whole) ∙ none),
  )
]

-- on the way through the changes: those left have the same first one that is refused
pub record IsOnWay (start : Program) (all : List Change) (number : ℕ) (here : Program) (left : List Change) : Type 0 where
  pub nights : length here.rooms ≡ length start.rooms
  pub stays : length here.stays ≡ length start.stays
  pub same : first_refused number here left ≡ first_refused 1 start all

-- of no change that is left none is refused
pub none_refused : (k : ℕ) (p : Program) (all : List Change) (i : ℕ) → length all ≤ i → first_refused k p (drop i all) ≡ None
none_refused k p [] zero le = refl
none_refused k p [] (suc i) le = refl
none_refused k p (x ∷ xs) zero le = absurd (omega arith)
none_refused k p (x ∷ xs) (suc i) le = none_refused k p xs i (omega arith)

-- the first of those left
next_left : (all : List Change) (i : ℕ) (d : Change) → i < length all → drop i all ≡ slice_index_or all i d ∷ drop (suc i) all
next_left [] i d lt = absurd (omega arith)
next_left (x ∷ xs) zero d lt = refl
next_left (x ∷ xs) (suc i) d lt = next_left xs i d (omega arith)

-- it is refused
pub refused_here : (start here : Program) (all : List Change) (number i : ℕ) (d : Change) → i < length all → breaks here (slice_index_or all i d) ≡ true →
    IsOnWay start all number here (drop i all) → Some number ≡ first_refused 1 start all
refused_here start here all number i d lt broken way =
    sym (cond-true (breaks here (slice_index_or all i d)) (Some number) _ broken) ∙ sym (ap (first_refused number here) (next_left all i d lt)) ∙ way.same

-- or the way goes on behind it
pub one_further : (start here : Program) (all : List Change) (number i : ℕ) (d : Change) → i < length all → breaks here (slice_index_or all i d) ≡ false →
    IsOnWay start all number here (drop i all)
    → IsOnWay start all (number + 1) (changed here (slice_index_or all i d)) (drop (i + 1) all)
one_further start here all number i d lt whole way =
    let c = slice_index_or all i d in
    let next : first_refused number here (drop i all) ≡ first_refused (number + 1) (changed here c) (drop (i + 1) all) =
    ap (first_refused number here) (next_left all i d lt) ∙ cond-false (breaks here c) (Some number) _ whole ∙
    ap (λ j. first_refused (number + 1) (changed here c) (drop j all)) (let e : suc i ≡ i + 1 = omega arith in e) in
    record { nights = same_nights here c ∙ way.nights; stays = same_stays here c ∙ way.stays; same = sym next ∙ way.same }
