use Rattle.bp_solver_tests.proofs.flow.worked_examples.Given as goal

abbrev pub ghosts-solved : goal.ghosts-solved
ghosts-solved g a = record { name = a.blank.name; parts = a.blank.parts }
