use Rattle.bp_solver_tests.proofs.starts.expect_from_each_start.Given as goal

abbrev pub ghosts-solved_from : goal.ghosts-solved_from
ghosts-solved_from g a = record { name = a.blank.name; parts = a.blank.parts }
