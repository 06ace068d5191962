-- What a script says: the verbs, the commands that rows give, the requests of all rows, and the commands of each
-- session. And the problem that a demo makes of four numbers.

-- the verbs of a script
pub mod Verbs
-- the command of a row: its cells are tested in their order, and whether its nights are the hotel's comes after them
pub mod Commands
-- the script: what each row asks of a session, and the commands of each session
pub mod Scripts
-- laws of scripts
pub mod Laws
-- the problem that four numbers make: the same rooms on every night, and stays that are drawn
pub mod Demo
