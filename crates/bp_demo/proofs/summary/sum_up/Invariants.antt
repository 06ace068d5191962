use Rattle.bp_demo.proofs.summary.sum_up.Given as goal

abbrev pub ghosts-sum_up_by : goal.ghosts-sum_up_by
ghosts-sum_up_by a = record { name = a.blank.name; parts = a.blank.parts }
