-- Texts of lines: how they are spelt, read and written. Each page rests on those above it.

-- numbers as texts write them
pub mod Numbers
-- a line: a word, and numbers behind it; lines that are given one by one
pub mod Lines
-- the numbers on a line, found from left to right, and what a reader of one line answers
pub mod Forms
-- what a reader of a whole text answers: its value, or the first wrong line
pub mod Reading
-- laws over a kind of text: one spelling, no text behind another, one way to read it
pub mod Laws
-- texts that are written as they are spelt
pub mod Drafts
-- a line as words, apart by one space each
pub mod Words
-- a place in a text at which lines of one or of several forms may stand
pub mod Places
-- a kind of text whose lines are rows
pub mod Kinds
