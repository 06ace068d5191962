-- Callers at their places: the last place is caller 1's.
use Rattle.std.proofs.Common.{◌≡◌, ◌≢◌, ℕ, suc, ◌+◌, ◌-◌, ◌<◌, ◌≤◌, List, [], ◌∷◌, ◌++◌, length, refl, sym, ap, subst, ◌∙◌, arith, slice_index_or, slice_set}
use mathlib.Core.Logic.{dite}
use native.Mathlib.Decide.{ℕ_discrete}
use Rattle.std.proofs.lemmas.Grind.{common_steps}
use Rattle.atomic_table.specs.Seated.{TableId}
use Rattle.bp_types.specs.declared.limits.TheConstants.{CALLERS}
use Rattle.bp_types.specs.House.{Inn}
use Rattle.bp_turn.specs.Prefix.{IsPrefix}
use Rattle.bp_turn.specs.Callers.{numbers_from}
use Rattle.bp_core.specs.declared.line.Line.{Line}
use Rattle.bp_core.specs.declared.line.Reply.TheVariants.{Done}
use Rattle.bp_core.specs.declared.call.Call.TheVariants.{Enrol}
use Rattle.bp_core.specs.Lines.{History, calls}
use Rattle.bp_core.specs.Acting.{line_of}
use Rattle.bp_desk.specs.Passes.{PassState}
use Rattle.bp_core.specs.Counting.{HasInOrder}
use Rattle.bp_optimise.proofs.Leading.{prefix_on}
use Rattle.bp_optimise.specs.declared.sessions.Stop.{Stop}
use Rattle.bp_desk_run.specs.Beginnings.{first_lines}
use Rattle.bp_desk_run.specs.Endings.{IsEnded}
use Rattle.bp_desk_run.specs.Actors.{IsReady, HasRun, AreReady, HaveRun, KeepCommands, HasEnrolled, HasEnrolledAll, HasJoined}
use Rattle.bp_desk_run.specs.declared.actor.Actor.{Actor}
use Rattle.bp_desk_run.proofs.Opening.{one_in_order}
use Rattle.bp_desk_run.proofs.Enrolling.{ready_later}

pub default_same : (xs : List Actor) (i : ℕ) (a b : Actor) → i < length xs → slice_index_or xs i a ≡ slice_index_or xs i b
default_same xs i a b lt = grind (arith, common_steps)

pub set_same : (xs : List Actor) (i : ℕ) (x a : Actor) → i < length xs → slice_index_or (slice_set xs i x) i a ≡ x
set_same xs i x a lt = grind (arith, common_steps)

pub set_kept : (xs : List Actor) (i : ℕ) (x : Actor) (k : ℕ) (a : Actor) → k ≢ i → slice_index_or (slice_set xs i x) k a ≡ slice_index_or xs k a
set_kept xs i x k a other = grind (arith, common_steps)

pub set_length : (xs : List Actor) (i : ℕ) (x : Actor) → length (slice_set xs i x) ≡ length xs
set_length xs i x = grind (arith, common_steps)

-- the place of the next caller
pub next_place : (n i : ℕ) → n - 1 - i ≡ n - (i + 1)
next_place n i = omega arith

-- what is put at the place of caller i + 1 stands there, and all others as before
at_places : (P Q : ℕ → Actor → Type 0) (n i : ℕ) (xs : List Actor) (x : Actor) → length xs ≡ n → i < n → ((c : ℕ) (a : Actor) → P c a → Q c a) →
    ((c : ℕ) (a : Actor) → 1 ≤ c → c ≤ n → c ≢ i + 1 → P c (slice_index_or xs (n - c) a)) → Q (i + 1) x
    → (c : ℕ) (a : Actor) → 1 ≤ c → c ≤ n → Q c (slice_index_or (slice_set xs (n - 1 - i) x) (n - c) a)
at_places P Q n i xs x many lt on old new c a low high = dite (ℕ_discrete c (i + 1))
    (λ is.
    let e : n - c ≡ n - 1 - i = omega (arith, is, lt) in
    let at : slice_index_or (slice_set xs (n - 1 - i) x) (n - c) a ≡ x = ap (λ k. slice_index_or (slice_set xs (n - 1 - i) x) k a) e ∙
    set_same xs (n - 1 - i) x a (omega (arith, many, lt)) in
    subst (λ k. Q k (slice_index_or (slice_set xs (n - 1 - i) x) (n - c) a)) (sym is) (subst (Q (i + 1)) (sym at) new))
    (λ other.
    let at = set_kept xs (n - 1 - i) x (n - c) a (λ e. absurd (other (omega (arith, e, low, high, lt)))) in
    subst (Q c) (sym at) (on c _ (old c a low high other)))

-- one caller more is ready
pub more_ready : (desk : TableId) (house : Inn) (sessions n i : ℕ) (G H : History) (xs : List Actor) (x : Actor) → length xs ≡ n → i < n → IsPrefix G H
    → ((c : ℕ) (a : Actor) → 1 ≤ c → c ≤ i → IsReady desk house sessions c G (slice_index_or xs (n - c) a)) → IsReady desk house sessions (i + 1) H x
    → (c : ℕ) (a : Actor) → 1 ≤ c → c ≤ i + 1 → IsReady desk house sessions c H (slice_index_or (slice_set xs (n - 1 - i) x) (n - c) a)
more_ready desk house sessions n i G H xs x many lt grows old new c a low high = dite (ℕ_discrete c (i + 1))
    (λ is.
    let e : n - c ≡ n - 1 - i = omega (arith, is, lt) in
    let at : slice_index_or (slice_set xs (n - 1 - i) x) (n - c) a ≡ x = ap (λ k. slice_index_or (slice_set xs (n - 1 - i) x) k a) e ∙
    set_same xs (n - 1 - i) x a (omega (arith, many, lt)) in
    subst (λ k. IsReady desk house sessions k H (slice_index_or (slice_set xs (n - 1 - i) x) (n - c) a)) (sym is)
    (subst (IsReady desk house sessions (i + 1) H) (sym at) new))
    (λ other.
    let at = set_kept xs (n - 1 - i) x (n - c) a (λ e. absurd (other (omega (arith, e, low, high, lt)))) in
    subst (IsReady desk house sessions c H) (sym at) (ready_later desk house sessions c G H _ grows (old c a low (omega (arith, high, other)))))

-- all callers stay ready where one of them has met the opener again
pub still_ready : (desk : TableId) (house : Inn) (sessions n i : ℕ) (G : History) (xs : List Actor) (x : Actor) → length xs ≡ n → i < n
    → ((c : ℕ) (a : Actor) → 1 ≤ c → c ≤ n → IsReady desk house sessions c G (slice_index_or xs (n - c) a)) → IsReady desk house sessions (i + 1) G x
    → (c : ℕ) (a : Actor) → 1 ≤ c → c ≤ n → IsReady desk house sessions c G (slice_index_or (slice_set xs (n - 1 - i) x) (n - c) a)
still_ready desk house sessions n i G xs x many lt old new =
    let P : ℕ → Actor → Type 0 = λ c a. IsReady desk house sessions c G a in
    at_places P P n i xs x many lt (λ c a r. r) (λ c a low high other. old c a low high) new

-- the caller at a place
pub at_place : (P : ℕ → Actor → Type 0) (xs : List Actor) → ((c : ℕ) (a : Actor) → 1 ≤ c → c ≤ length xs → P c (slice_index_or xs (length xs - c) a)) →
    (i : ℕ) (a : Actor) → i < length xs → P (length xs - i) (slice_index_or xs i a)
at_place P xs all i a lt =
    let e : length xs - (length xs - i) ≡ i = omega (arith, lt) in
    subst (λ k. P (length xs - i) (slice_index_or xs k a)) e (all (length xs - i) a (omega (arith, lt)) (omega (arith, lt)))

pub kept_none : (xs : List Actor) → KeepCommands xs xs
kept_none xs = (refl, λ i a lt. refl)

pub keep_set : (init xs : List Actor) (k : ℕ) (x d : Actor) → k < length xs → KeepCommands init xs → x.commands ≡ (slice_index_or xs k d).commands →
    KeepCommands init (slice_set xs k x)
keep_set init xs k x d lt kept same = (
  set_length xs k x ∙ kept.0,
  λ i a below. dite (ℕ_discrete i k)
      (λ is.
      let at : slice_index_or (slice_set xs k x) i a ≡ x = ap (λ j. slice_index_or (slice_set xs k x) j a) is ∙ set_same xs k x a lt in
      let there : slice_index_or xs k d ≡ slice_index_or xs i a = default_same xs k d a lt ∙ ap (λ j. slice_index_or xs j a) (sym is) in
      ap (λ (y : Actor). y.commands) at ∙ same ∙ ap (λ (y : Actor). y.commands) there ∙ kept.1 i a below)
      (λ other. ap (λ (y : Actor). y.commands) (set_kept xs k x i a other) ∙ kept.1 i a below),
)

-- the opener's pass before anybody enrolled, and one caller later
pub enrolled_none : (p : PassState) → p.free ≡ numbers_from 1 (CALLERS - 1) → HasEnrolledAll 0 p p
enrolled_none p free = record {
  desk = refl;
  house = refl;
  caller = refl;
  calls = refl;
  ended = refl;
  free = free;
  order =
      λ o is. subst (HasInOrder (o ∷ [])) (sym is) (one_in_order o);
}

lines_more : (o : Line) (i : ℕ) → first_lines o i ++ line_of (i + 1) Enrol Done ∷ [] ≡ first_lines o (i + 1)
lines_more o i = subst (λ k. first_lines o i ++ line_of k Enrol Done ∷ [] ≡ first_lines o k) (let e : suc i ≡ i + 1 = omega arith in e) refl

pub enrolled_more : (i : ℕ) (first old new : PassState) → HasEnrolledAll i first old → HasEnrolled (i + 1) old new → HasEnrolledAll (i + 1) first new
enrolled_more i first old new a e = record {
  desk = e.desk ∙ a.desk;
  house = e.house ∙ a.house;
  caller = e.caller ∙ a.caller;
  calls = e.calls ∙ a.calls;
  ended = e.ended ∙ a.ended;
  free = e.free;
  order = λ o is. subst (λ ls. HasInOrder ls new.seen) (lines_more o i) (e.order (first_lines o i) (a.order o is));
}

-- the opener's pass while callers come back
pub joined_none : (p : PassState) → HasJoined p p
joined_none p = record { desk = refl; house = refl; caller = refl; calls = refl; free = refl; begins = ([], sym (Rattle.std.proofs.Common.append-nil p.seen)) }

pub joined_more : (first old new : PassState) → HasJoined first old → HasJoined old new → HasJoined first new
joined_more first old new a b = record {
  desk = b.desk ∙ a.desk;
  house = b.house ∙ a.house;
  caller = b.caller ∙ a.caller;
  calls = b.calls ∙ a.calls;
  free = b.free ∙ a.free;
  begins = prefix_on Line first.seen old.seen new.seen a.begins b.begins;
}
