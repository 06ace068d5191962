use Rattle.bp_solver_tests.proofs.flow.the_optimum_without_settling.Given as goal

abbrev pub ghosts-valued : goal.ghosts-valued
ghosts-valued g a = record { name = a.blank.name; parts = a.blank.parts }
