-- What is said of bands and sheets: gains and losses, open stays and hurdles, the text, and laws.

-- bands: what one unit more or fewer on each night is worth, beside its price
pub mod Bands
-- open stays, the least length of each arrival, and hurdles
pub mod Lengths
-- the text of a sheet
pub mod Sheets
-- laws over bands and sheets
pub mod Laws
