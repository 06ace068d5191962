use Rattle.bp_scenarios.proofs.alone.scenarios_alone.Given as goal

abbrev pub ghosts-solved : goal.ghosts-solved
ghosts-solved a = record { name = a.blank.name; parts = a.blank.parts }
