use Rattle.bp_solver_tests.proofs.warm.no_change_leaves_the_optimum.Given as goal

abbrev pub ghosts-settled_again : goal.ghosts-settled_again
ghosts-settled_again g a = record { name = a.blank.name; parts = a.blank.parts }
