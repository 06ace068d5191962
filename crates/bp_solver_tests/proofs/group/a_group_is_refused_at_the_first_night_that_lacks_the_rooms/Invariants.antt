use Rattle.bp_solver_tests.proofs.group.a_group_is_refused_at_the_first_night_that_lacks_the_rooms.Given as goal

abbrev pub ghosts-quoted : goal.ghosts-quoted
ghosts-quoted g a = record { name = a.blank.name; parts = a.blank.parts }
