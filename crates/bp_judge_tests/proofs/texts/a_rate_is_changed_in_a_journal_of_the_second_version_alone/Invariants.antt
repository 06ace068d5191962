use Rattle.bp_judge_tests.proofs.texts.a_rate_is_changed_in_a_journal_of_the_second_version_alone.Given as goal

abbrev pub ghosts-is_written_as : goal.ghosts-is_written_as
ghosts-is_written_as g a = record { name = a.blank.name; parts = a.blank.parts }
