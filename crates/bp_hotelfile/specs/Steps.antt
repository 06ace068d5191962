-- One test after another: the first refusal is the answer.
use Rattle.std.specs.Prelude.{ℕ, zero, suc, Option, None, Result, Ok, Err}
use Rattle.std.specs.Option.{option_or}

infixl 10 ◌>>=◌
-- and then, where nothing was refused
abbrev pub ◌>>=◌ : {A B E : Type 0} → Result A E → (A → Result B E) → Result B E
Ok a >>= next = next a
Err e >>= next = Err e

-- the first refusal at a place below n
abbrev pub first_below : {E : Type 0} → (ℕ → Option E) → ℕ → Option E
first_below refusal zero = None
first_below refusal (suc n) = option_or (first_below refusal n) (refusal n)
