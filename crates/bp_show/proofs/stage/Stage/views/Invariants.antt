use Rattle.std.proofs.Common.{◌≡◌, length}
use Rattle.std.specs.List.{All}
use Rattle.bp_show.proofs.stage.Stage.views.Given as goal

-- the stage is as it was, and so is each view so far
abbrev pub invariant-loop-index : goal.invariant-loop-index
invariant-loop-index l = (l.self ≡ l.fn.self) × (length l.made.items ≡ l.index) × All (λ v. v ≡ l.fn.self) l.made.items
