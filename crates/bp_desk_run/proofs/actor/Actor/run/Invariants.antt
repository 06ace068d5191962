use Rattle.bp_desk_run.proofs.actor.Actor.run.Given as goal

abbrev pub ghosts-counted_session : goal.ghosts-counted_session
ghosts-counted_session g a = record { name = a.blank.name; parts = a.blank.parts }

abbrev pub ghosts-counted_work : goal.ghosts-counted_work
ghosts-counted_work g a = record { name = a.blank.name; parts = a.blank.parts }
