-- What a call for a quote answers where there is none.

-- what a refusal of a quote names
pub mod Quotes
