use Rattle.bp_solver_tests.proofs.warm.restarts_agree_with_cold_solves.Given as goal

abbrev pub ghosts-follow : goal.ghosts-follow
ghosts-follow g a = record { name = a.blank.name; parts = a.blank.parts }
