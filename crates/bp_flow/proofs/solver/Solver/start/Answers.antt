use Rattle.bp_flow.proofs.solver.Solver.start.Goals as goal

pub on-requires : goal.on-requires
on-requires c = c.in_ok-flow.ensures.so_far.solved
