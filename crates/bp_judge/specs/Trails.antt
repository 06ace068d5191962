-- Solvers that go along a history.
use Rattle.std.specs.Prelude.{◌≡◌, ℕ, Option, MatchOption}
use Rattle.std.specs.Option.{option_map}
use Rattle.bp_types.specs.House.{Inn}
use Rattle.bp_flow.specs.Settled.{IsSettled}
use Rattle.bp_core.specs.Lines.{History}
use Rattle.bp_judge.specs.declared.solved.Solved.{Solved}
use Rattle.bp_judge.specs.declared.trail.Trail.{Trail}
use Rattle.bp_judge.specs.Courses.{IsCourse}

-- it has a settled flow of the instance of its course
pub record IsSolvedAt (h : Inn) (H : History) (s : Solved) : Type 0 where
  pub course : IsCourse h H s.course
  pub program : s.solver.flow.program ≡ s.course.instance
  pub settled : IsSettled s.solver

-- the course and the solver, if there is one, go along this history
pub record GoesWith (h : Inn) (H : History) (t : Trail) : Type 0 where
  pub course : IsCourse h H t.course
  pub solved : MatchOption t.solved (Unit {0}) (IsSolvedAt h H)

-- the position of the solver, if there is one
abbrev pub quoted_at : Trail → Option ℕ
quoted_at t = option_map (λ (s : Solved). s.course.position) t.solved
