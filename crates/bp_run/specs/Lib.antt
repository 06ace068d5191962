-- What is said of a call of the program: each command's plan, answer and text, statuses, and how the call ends.

-- which words are served, which tasks one thread can do, and which commands may start threads
pub mod Served
-- the statuses and their numbers
pub mod Statuses
-- lines of a word and numbers
pub mod Texts
-- what a call has to know of a command: what it stands on and what it answers
pub mod Command
-- `check`: the verdict on a certificate of a problem
pub mod Check
-- `solve`: a certificate of a problem, with the least prices
pub mod Solve
-- `sheet`: a problem's bands by night, and what a stay of each length has to pay
pub mod Sheet
-- `group`: what a group of rooms on a span displaces
pub mod Group
-- `judge` and `replay`: whether a journal is a legal history of a house
pub mod Judge
-- `report`: the tables of a hotel's journal, where it is legal
pub mod Report
-- `demo`: a hotel made of four numbers, and each of its stays booked once
pub mod Demo
-- `desk`: the sessions of a script and optimisers beside them on one desk, down to the text of its one history
pub mod Desk
-- `scenarios`: the optimum and the least prices of a problem after each list of changes
pub mod Scenarios
-- `portfolio`: the desks of several hotels beside one another, down to the text of each one's history
pub mod Portfolio
-- the commands of all tasks, and what their answers say
pub mod Commands
-- what the refusal of a file says
pub mod Refusals
-- what each end of a call says: its status and its text
pub mod Lines
-- what a sink tells over a call, and what follows for a text
pub mod Puts
-- how a call ends: its words and files, and the status and the text that they have
pub mod Ends
-- laws over what commands answer
pub mod Laws
