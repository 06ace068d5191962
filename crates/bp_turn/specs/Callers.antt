-- Callers' numbers, and the entries of one caller.
use Rattle.std.specs.Prelude.{ℕ, zero, suc, ◌-◌, ◌==◌, not, List, [], ◌∷◌, filter}
use Rattle.bp_types.specs.declared.limits.TheConstants.{CALLERS}

-- the entries of the caller with the number n, in order
abbrev pub entries_by : {E : Type 0} → (E → ℕ) → ℕ → List E → List E
entries_by caller n es = filter (λ e. caller e == n) es

-- the numbers from n on, k of them
unfoldable pub numbers_from : ℕ → ℕ → List ℕ
numbers_from n zero = []
numbers_from n (suc k) = n ∷ numbers_from (suc n) k

-- the numbers that the first seat may hand out: all but its own
abbrev pub numbers_to_hand_out : List ℕ
numbers_to_hand_out = numbers_from 1 (CALLERS - 1)

-- the list without the number n
abbrev pub without : ℕ → List ℕ → List ℕ
without n ms = filter (λ m. not (m == n)) ms
