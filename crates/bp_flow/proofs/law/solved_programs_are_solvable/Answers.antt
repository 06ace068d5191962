use Rattle.bp_flow.proofs.Solvable.{solved_programs_are_solvable}
use Rattle.bp_flow.proofs.law.solved_programs_are_solvable.Goals as goal

pub returns : goal.returns
returns c = solved_programs_are_solvable
