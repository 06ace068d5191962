use Rattle.bp_solver_tests.proofs.flow.restarts.Given as goal

abbrev pub ghosts-restarted : goal.ghosts-restarted
ghosts-restarted g a = record { name = a.blank.name; parts = a.blank.parts }
