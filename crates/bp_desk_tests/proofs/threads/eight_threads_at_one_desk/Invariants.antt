use Rattle.bp_desk_tests.proofs.threads.eight_threads_at_one_desk.Given as goal

abbrev pub ghosts-is_legal : goal.ghosts-is_legal
ghosts-is_legal g a = record { name = a.blank.name; parts = a.blank.parts }
