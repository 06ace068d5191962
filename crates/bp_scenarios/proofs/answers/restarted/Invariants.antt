use Rattle.bp_scenarios.proofs.answers.restarted.Given as goal

abbrev pub ghosts-restarted_by : goal.ghosts-restarted_by
ghosts-restarted_by a = record { name = a.blank.name; parts = a.blank.parts }
