-- Hotels and their desks, one more behind the others.
use Rattle.std.proofs.Common.{
  ◌≡◌,
  ℕ,
  zero,
  suc,
  ◌<◌,
  ◌≤◌,
  refl,
  ap,
  sym,
  subst,
  ◌∙◌,
  arith,
  true,
  List,
  [],
  ◌∷◌,
  ◌++◌,
  length,
  All,
  Option,
  None,
  Some,
  IsSome,
  IsSomeAnd,
  Result,
  Ok,
  Err,
  slice_index_or,
}
use Rattle.std.specs.Prelude.{IfOk}
use Rattle.bp_desk_run.specs.declared.callers.Ran.{Ran}
use Rattle.bp_types.specs.declared.limits.TheConstants.{MOST_WORKERS}
use Rattle.bp_types.specs.declared.memory.Memory.{Memory}
use Rattle.bp_desk_run.specs.RightRun.{Staged, IsRightRun}
use Rattle.bp_portfolio.specs.Desks.{AreRightRuns}
use Rattle.bp_portfolio.specs.Sites.{IsToRun, IsOver, HasEnded, AreToRun, AreRunsOf}
use Rattle.bp_portfolio.specs.declared.crew.DeskSite.{DeskSite}

-- one desk more

pub one_more_to_run : (workers : ℕ) (hotels : List Staged) (sites : List DeskSite) (g : Staged) (s : DeskSite) → AreToRun workers hotels sites →
    s.staged ≡ Some g → s.workers ≡ workers
    → AreToRun workers (hotels ++ g ∷ []) (sites ++ s ∷ [])
one_more_to_run workers [] [] g s so_far is same = (is, same, tt)
one_more_to_run workers [] (x ∷ sites) g s so_far is same = absurd so_far
one_more_to_run workers (h ∷ hotels) [] g s so_far is same = absurd so_far
one_more_to_run workers (h ∷ hotels) (x ∷ sites) g s so_far is same = (so_far.0, so_far.1, one_more_to_run workers hotels sites g s so_far.2 is same)

pub one_more_run : (sites : List DeskSite) (runs : List Ran) (s : DeskSite) (ran : Ran) → AreRunsOf sites runs → s.outcome ≡ Some (Ok ran) →
    AreRunsOf (sites ++ s ∷ []) (runs ++ ran ∷ [])
one_more_run [] [] s ran so_far is = (is, tt)
one_more_run [] (r ∷ runs) s ran so_far is = absurd so_far
one_more_run (x ∷ sites) [] s ran so_far is = absurd so_far
one_more_run (x ∷ sites) (r ∷ runs) s ran so_far is = (so_far.0, one_more_run sites runs s ran so_far.1 is)

-- each desk has something to run

some_staged : (workers : ℕ) (s : DeskSite) (g : Staged) → workers ≤ MOST_WORKERS → s.staged ≡ Some g → s.workers ≡ workers → IsToRun s
some_staged workers s g few is same = (rw is refl, omega (arith, few, same))

pub each_to_run : (workers : ℕ) (hotels : List Staged) (sites : List DeskSite) → workers ≤ MOST_WORKERS → AreToRun workers hotels sites → All IsToRun sites
each_to_run workers [] [] few are k d h = absurd (omega arith)
each_to_run workers [] (s ∷ sites) few are k d h = absurd are
each_to_run workers (g ∷ hotels) [] few are k d h = absurd are
each_to_run workers (g ∷ hotels) (s ∷ sites) few are zero d h = some_staged workers s g few are.0 are.1
each_to_run workers (g ∷ hotels) (s ∷ sites) few are (suc k) d h = each_to_run workers hotels sites few are.2 k d (omega arith)

-- each desk has run as it was to
abbrev pub EndAsAsked : List DeskSite → List DeskSite → Type 0
EndAsAsked old new =
    (i : ℕ) (d : DeskSite) (g : Staged) → i < length old → (slice_index_or old i d).staged ≡ Some g →
    HasEnded (slice_index_or old i d).workers g (slice_index_or new i d)

over : (workers : ℕ) (g : Staged) (s : DeskSite) → HasEnded workers g s → IsOver s
over workers g s ended = go s.outcome ended
  where
    go : (o : Option (Result Ran Memory)) → IsSomeAnd o (λ r. IfOk r (IsRightRun workers g)) → IsSome o
    go None ended = absurd ended
    go (Some r) ended = refl

pub each_over : (workers : ℕ) (hotels : List Staged) (old new : List DeskSite) → AreToRun workers hotels old → length new ≡ length old → EndAsAsked old new →
    All IsOver new
each_over workers [] [] [] are same each k d h = absurd (omega arith)
each_over workers [] [] (s ∷ new) are same each k d h = absurd (omega (arith, same))
each_over workers [] (s ∷ old) new are same each k d h = absurd are
each_over workers (g ∷ hotels) [] new are same each k d h = absurd are
each_over workers (g ∷ hotels) (s ∷ old) [] are same each k d h = absurd (omega (arith, same))
each_over workers (g ∷ hotels) (s ∷ old) (t ∷ new) are same each zero d h = over s.workers g t (each 0 s g (omega arith) are.0)
each_over workers (g ∷ hotels) (s ∷ old) (t ∷ new) are same each (suc k) d h =
    each_over workers hotels old new are.2 (omega (arith, same)) (λ i e x lt is. each (suc i) e x (omega arith) is) k d (omega arith)

-- what came of a desk that found memory

right_of : (workers : ℕ) (g : Staged) (s : DeskSite) (ran : Ran) → HasEnded workers g s → s.outcome ≡ Some (Ok ran) → IsRightRun workers g ran
right_of workers g s ran ended is =
    let P : Option (Result Ran Memory) → Type 0 = λ o. IsSomeAnd o (λ r. IfOk r (IsRightRun workers g)) in subst P is ended

pub right_runs : (workers : ℕ) (hotels : List Staged) (old new : List DeskSite) (runs : List Ran) → AreToRun workers hotels old → length new ≡ length old →
    EndAsAsked old new → AreRunsOf new runs
    → AreRightRuns workers hotels runs
right_runs workers [] [] [] [] are same each came = tt
right_runs workers [] [] [] (r ∷ runs) are same each came = came
right_runs workers [] [] (t ∷ new) runs are same each came = absurd (omega (arith, same))
right_runs workers [] (s ∷ old) new runs are same each came = absurd are
right_runs workers (g ∷ hotels) [] new runs are same each came = absurd are
right_runs workers (g ∷ hotels) (s ∷ old) [] runs are same each came = absurd (omega (arith, same))
right_runs workers (g ∷ hotels) (s ∷ old) (t ∷ new) [] are same each came = absurd came
right_runs workers (g ∷ hotels) (s ∷ old) (t ∷ new) (r ∷ runs) are same each came =
    let P : ℕ → Type 0 = λ w. IsRightRun w g r in (
      subst P are.1 (right_of s.workers g t r (each 0 s g (omega arith) are.0) came.0),
      right_runs workers hotels old new runs are.2 (omega (arith, same)) (λ i e x lt is. each (suc i) e x (omega arith) is) came.1,
    )
