use Rattle.bp_solver_tests.proofs.flow.the_longest_and_dearest_stay.Given as goal

abbrev pub ghosts-solved : goal.ghosts-solved
ghosts-solved g a = record { name = a.blank.name; parts = a.blank.parts }
