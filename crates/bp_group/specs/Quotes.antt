-- What a refusal of a quote names.
use Rattle.std.specs.Prelude.{ℕ, Option, Some, None}
use Rattle.bp_group.specs.declared.error.QuoteError.{QuoteError}
use Rattle.bp_group.specs.declared.error.QuoteError.TheVariants.{NoRoom, Memory}

-- the night that the refusal names; want of memory names none
abbrev pub night_of : QuoteError → Option ℕ
night_of (NoRoom night) = Some night
night_of Memory = None
