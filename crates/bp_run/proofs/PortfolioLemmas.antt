-- How the files of several hotels come one behind another, and how what is written of them joins.
use Rattle.std.proofs.Common.{◌≡◌, ℕ, ◌+◌, ◌*◌, ◌≤◌, refl, sym, subst, ap, ◌∙◌, arith, List, [], ◌∷◌, ◌++◌, length, Result, Ok, Err}
use Rattle.bp_desk_run.specs.declared.callers.Ran.{Ran}
use Rattle.bp_portfolio.specs.Lists.{FiveNames}
use Rattle.bp_desk_run.specs.RightRun.{Staged}
use Rattle.bp_portfolio.specs.Desks.{AreRightRuns}
use Rattle.bp_cli.specs.Words.{Word}
use Rattle.bp_inputs.specs.HotelPlan.{HotelNames}
use Rattle.bp_run.specs.Desk.{desk_plan}
use Rattle.bp_run.specs.Portfolio.{four_names, desks_plan}
use Rattle.bp_inputs.specs.Fetches.{Shelved}
use Rattle.bp_inputs.specs.Stops.{Follows}
use Rattle.bp_inputs.specs.declared.stop.Stop.{Stop}
use Rattle.bp_inputs.proofs.StageLemmas.{follows_both, follows_first, follows_made, leaves_same}

-- no hotel is left
pub no_hotel_left : (at : Shelved) (front : List Staged) (names : List FiveNames) (first : ℕ) → length names ≡ 0
    → Follows (record { before = at; now = at }) (desks_plan front names) first (first + 5 * length names) (Ok front)
no_hotel_left at front [] first none = follows_made _ front front first (first + 5 * 0) refl (omega arith) (leaves_same at)
no_hotel_left at front (n ∷ names) first none = absurd (omega (arith, none))

-- the names of the next hotel, as the call has them
module _ (front : List Staged) (names behind : List FiveNames) (n : FiveNames) (given : HotelNames) (script : Word) (are : names ≡ n ∷ behind) (four : given ≡
    four_names n) (last : script ≡ n.script) where
  as_given : (old new : Shelved) (first next : ℕ) (result : Result Staged Stop) →
      Follows (record { before = old; now = new }) (desk_plan given script) first next result
      → Follows (record { before = old; now = new }) (desk_plan (four_names n) n.script) first next result
  as_given old new first next result follows =
      let P : HotelNames → Type 0 = λ x. Follows (record { before = old; now = new }) (desk_plan x script) first next result in
      let Q : Word → Type 0 = λ w. Follows (record { before = old; now = new }) (desk_plan (four_names n) w) first next result in
      subst Q last (subst P four follows)

  -- one of its files gave no value
  pub hotel_stops : (old new : Shelved) (first middle next : ℕ) (stop : Stop) →
      Follows (record { before = old; now = new }) (desk_plan given script) first middle (Err stop)
      → Follows (record { before = old; now = new }) (desks_plan front names) first next (Err stop)
  hotel_stops old new first middle next stop follows =
      let P : List FiveNames → Type 0 = λ xs. Follows (record { before = old; now = new }) (desks_plan front xs) first next (Err stop) in
      subst P (sym are) (follows_first _ (desk_plan (four_names n) n.script) (λ g. desks_plan (front ++ g ∷ []) behind) first middle next stop
      (as_given old new first middle (Err stop) follows))

  -- they gave what its desk is to run, and the hotels behind it follow
  pub hotel_then : (old mid new : Shelved) (first middle start next end : ℕ) (g : Staged) (hotels : List Staged) (result : Result (List Staged) Stop)
      → Follows (record { before = old; now = mid }) (desk_plan given script) first middle (Ok g) → hotels ≡ front ++ g ∷ [] → middle ≡ start → next ≡ end
      → Follows (record { before = mid; now = new }) (desks_plan hotels behind) start next result
      → Follows (record { before = old; now = new }) (desks_plan front names) first end result
  hotel_then old mid new first middle start next end g hotels result follows kept same last_number after =
      let P : List FiveNames → Type 0 = λ xs. Follows (record { before = old; now = new }) (desks_plan front xs) first end result in
      let Q : List Staged → Type 0 = λ gs. Follows (record { before = mid; now = new }) (desks_plan gs behind) start next result in
      let R : ℕ → Type 0 = λ k. Follows (record { before = mid; now = new }) (desks_plan (front ++ g ∷ []) behind) k next result in
      let S : ℕ → Type 0 = λ k. Follows (record { before = mid; now = new }) (desks_plan (front ++ g ∷ []) behind) middle k result in
      subst P (sym are)
      (follows_both old mid new (desk_plan (four_names n) n.script) (λ x. desks_plan (front ++ x ∷ []) behind) first middle end g result
      (as_given old mid first middle (Ok g) follows)
      (subst S last_number (subst R (sym same) (subst Q kept after))))

-- there are as many runs as hotels
pub as_many_runs : (workers : ℕ) (hotels : List Staged) (runs : List Ran) → AreRightRuns workers hotels runs → length runs ≡ length hotels
as_many_runs workers [] [] right = refl
as_many_runs workers [] (ran ∷ runs) right = absurd right
as_many_runs workers (g ∷ hotels) [] right = absurd right
as_many_runs workers (g ∷ hotels) (ran ∷ runs) right = let rest = as_many_runs workers hotels runs right.1 in omega (arith, rest)

-- the first hotel has none before it
pub from_none : (old new : Shelved) (front : List Staged) (given names : List FiveNames) (first next : ℕ) (result : Result (List Staged) Stop) → front ≡ [] →
    given ≡ names
    → Follows (record { before = old; now = new }) (desks_plan front given) first next result →
    Follows (record { before = old; now = new }) (desks_plan [] names) first next result
from_none old new front given names first next result none are follows =
    let P : List Staged → Type 0 = λ gs. Follows (record { before = old; now = new }) (desks_plan gs given) first next result in
    let Q : List FiveNames → Type 0 = λ ns. Follows (record { before = old; now = new }) (desks_plan [] ns) first next result in
    subst Q are (subst P none follows)
