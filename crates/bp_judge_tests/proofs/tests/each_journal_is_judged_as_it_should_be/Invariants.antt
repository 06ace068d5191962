use Rattle.bp_judge_tests.proofs.tests.each_journal_is_judged_as_it_should_be.Given as goal

abbrev pub ghosts-judged : goal.ghosts-judged
ghosts-judged g a = record { name = a.blank.name; parts = a.blank.parts }
