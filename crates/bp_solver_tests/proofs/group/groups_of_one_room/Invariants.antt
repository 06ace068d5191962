use Rattle.bp_solver_tests.proofs.group.groups_of_one_room.Given as goal

abbrev pub ghosts-quoted : goal.ghosts-quoted
ghosts-quoted g a = record { name = a.blank.name; parts = a.blank.parts }
