use Rattle.std.proofs.Common.{◌≡◌, ◌++◌, length}
use Rattle.bp_types.specs.Sums.{sum_below}
use Rattle.bp_flow.specs.Solvers.{CountsUpTo}
use Rattle.bp_judge.specs.Searches.{HasNoGroup, searches_at}
use Rattle.bp_judge.specs.Replays.{IsReplay}
use Rattle.bp_judge.proofs.replay.judge_lines.Given as goal

-- the book has the lines so far
abbrev pub invariant-loop-line : goal.invariant-loop-line
invariant-loop-line g l = record {
  is : IsReplay l.replay;
  house : l.replay.book.house ≡ l.fn.house;
  read : l.fn.lines ≡ l.replay.book.history ++ l.lines;
  unsearched : HasNoGroup l.fn.lines → l.steps ≡ l.fn.steps;
  counted : CountsUpTo l.fn.steps l.steps (sum_below (searches_at l.fn.house l.fn.lines) (length l.replay.book.history));
}

abbrev pub decreases-loop-line : goal.decreases-loop-line
decreases-loop-line g l = length l.lines
