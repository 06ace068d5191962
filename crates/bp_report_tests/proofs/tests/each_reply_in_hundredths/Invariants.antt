use Rattle.bp_report_tests.proofs.tests.each_reply_in_hundredths.Given as goal

abbrev pub ghosts-judged : goal.ghosts-judged
ghosts-judged g a = record { name = a.blank.name; parts = a.blank.parts }
