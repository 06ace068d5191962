-- Lemmas on verdicts and on the two texts, each page after those that it rests on. A text that holds a certificate
-- cites `EndsOfTexts` and `ClaimLemmas`.

-- what the verdicts say of the optimum
pub mod VerdictLemmas
-- loads, from who arrives and who departs
pub mod LoadLemmas
-- the text of a problem as a kind of rows
pub mod ProblemRows
-- what the reader of a problem cites
pub mod ProblemLemmas
-- no line of a certificate has an end in it
pub mod EndsOfTexts
-- the text of a certificate, line by line
pub mod ClaimLemmas
-- the texts of certificates can be told apart
pub mod KindLemmas
