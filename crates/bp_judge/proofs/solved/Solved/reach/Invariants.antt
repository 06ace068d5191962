use Rattle.std.proofs.Common.{◌+◌, ◌-◌, ◌≤◌}
use Rattle.bp_judge.specs.Searches.{most_moved, moved_between}
use Rattle.bp_judge.specs.Trails.{IsSolvedAt}
use Rattle.bp_judge.proofs.Moving.{IsWay}
use Rattle.bp_judge.proofs.solved.Solved.reach.Given as goal

-- the solver goes along; what is counted and what is left to count is no more than the bound, and what is counted no more than what was moved so far
abbrev pub invariant-loop-self : goal.invariant-loop-self
invariant-loop-self g l = record {
  is : IsSolvedAt l.book.house l.book.history l.self;
  within : l.self.course.position ≤ l.until;
  more : l.fn.steps ≤ l.steps;
  counted : l.steps + l.left ≤ l.fn.steps + most_moved l.book.house;
  from : l.fn.self.course.position ≤ l.self.course.position;
  way : IsWay l.book.house l.book.history l.fn.self.course.position l.self.course.position;
  caught : l.steps ≤ l.fn.steps + moved_between l.book.house l.book.history l.fn.self.course.position l.self.course.position;
  spent : most_moved l.book.house ≤ l.left + moved_between l.book.house l.book.history l.fn.self.course.position l.self.course.position;
}

abbrev pub decreases-loop-self : goal.decreases-loop-self
decreases-loop-self g l = l.until - l.self.course.position
