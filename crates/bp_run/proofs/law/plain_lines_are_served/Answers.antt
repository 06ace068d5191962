use Rattle.bp_run.proofs.law.plain_lines_are_served.Goals as goal

-- the cause of that end is that the words ask for no task
pub returns : goal.returns
returns g c = λ served has. has served
