use Rattle.bp_judge_tests.proofs.texts.an_old_journal_is_written_anew.Given as goal

abbrev pub ghosts-is_written_as : goal.ghosts-is_written_as
ghosts-is_written_as g a = record { name = a.blank.name; parts = a.blank.parts }
