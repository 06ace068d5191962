use Rattle.bp_flow.specs.Solving.{priced}
use Rattle.bp_flow.proofs.solver.Solver.reprice.Goals as goal

pub returns-then-stands_at_rate-clause-solvable : goal.returns-then-stands_at_rate-clause-solvable
returns-then-stands_at_rate-clause-solvable g c = c.solved_programs_are_solvable.ensures (priced c.set_rate.new.self) c.set_rate.ensures.solved

pub returns-else-stands_at_rate-clause-solvable : goal.returns-else-stands_at_rate-clause-solvable
returns-else-stands_at_rate-clause-solvable g c = c.solved_programs_are_solvable.ensures (priced c.sell_anew.new.self) c.sell_anew.ensures.solved
