-- What is said of a demo: its bookings, what they come to, its text, and laws.

-- each stay of a house booked once, in order, by the opener
pub mod Bookings
-- what it comes to, when each stay of a house is booked once
pub mod Summaries
-- the text of a demo
pub mod Demos
-- laws over demos
pub mod Laws
