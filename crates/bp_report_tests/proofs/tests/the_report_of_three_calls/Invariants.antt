use Rattle.bp_report_tests.proofs.tests.the_report_of_three_calls.Given as goal

abbrev pub ghosts-judged : goal.ghosts-judged
ghosts-judged g a = record { name = a.blank.name; parts = a.blank.parts }
