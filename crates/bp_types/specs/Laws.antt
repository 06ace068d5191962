-- Laws over the definitions.
use Rattle.std.specs.Prelude.{◌≡◌, ℕ, ◌+◌, ◌-◌, ◌*◌, ◌≤◌, List, ◌++◌, length, slice_index, None}
use Rattle.bp_types.specs.declared.stay.Span.{Span}
use Rattle.bp_types.specs.declared.stay.Stay.{Stay}
use Rattle.bp_types.specs.declared.change.Change.{Change}
use Rattle.bp_types.specs.declared.command.Limits.{Limits}
use Rattle.bp_types.specs.Program.{Program, worth, bound}
use Rattle.bp_types.specs.Spans.{IsSpanWithin}
use Rattle.bp_types.specs.Changes.{HasUnits, changed_by_all, FitInTurn}
use Rattle.bp_types.specs.Optimum.{IsFeasibleAtScale, Certifies, IsOptimum, AreOptimalPrices, AreLeastPrices}
use Rattle.bp_types.specs.Claim.{Claim, IsCertificateOf}
use Rattle.bp_types.specs.Displacement.{IsDisplacement, IsGain, IsLoss, without}

-- no allocation, whole or fractional, is worth more than the bound of any prices
abbrev pub WeakDuality : Type 0
WeakDuality =
    (p : Program) (scale : ℕ) (sell prices : List ℕ) →
    IsFeasibleAtScale p scale sell → length prices ≡ length p.rooms → worth p sell ≤ scale * bound p prices

-- what a certificate states is the optimum
abbrev pub CertificateIsOptimal : Type 0
CertificateIsOptimal =
    (p : Program) (value : ℕ) (sell prices : List ℕ) → Certifies p value sell prices → IsOptimum p value

-- there is one optimum at most
abbrev pub OptimumIsUnique : Type 0
OptimumIsUnique = (p : Program) (v w : ℕ) → IsOptimum p v → IsOptimum p w → v ≡ w

-- there is one list of least prices at most
abbrev pub LeastPricesAreUnique : Type 0
LeastPricesAreUnique = (p : Program) (a b : List ℕ) → AreLeastPrices p a → AreLeastPrices p b → a ≡ b

-- there is one displacement at most
abbrev pub DisplacementIsUnique : Type 0
DisplacementIsUnique =
    (p : Program) (span : Span) (units a b : ℕ) → IsDisplacement p span units a → IsDisplacement p span units b → a ≡ b

-- certificates of a program and of the same with fewer units tell what the units displace
abbrev pub CertificatesTellDisplacement : Type 0
CertificatesTellDisplacement =
    (p : Program) (span : Span) (units : ℕ) (with_all fewer : Claim) →
    IsSpanWithin (length p.rooms) span → HasUnits p span units → IsCertificateOf p with_all → IsCertificateOf (without p span units) fewer →
    (fewer.value ≤ with_all.value) × IsDisplacement p span units (with_all.value - fewer.value)

-- in any optimal prices, no gain of a night is above its price
abbrev pub GainIsBelowPrice : Type 0
GainIsBelowPrice =
    (p : Program) (prices : List ℕ) (night gain : ℕ) → AreOptimalPrices p prices → IsGain p night gain → gain ≤ slice_index prices night

-- and no loss is below it
abbrev pub PriceIsBelowLoss : Type 0
PriceIsBelowLoss =
    (p : Program) (prices : List ℕ) (night loss : ℕ) → AreOptimalPrices p prices → IsLoss p night loss → slice_index prices night ≤ loss

-- two lists of changes lead where one list of them all leads
abbrev pub ChangesAppend : Type 0
ChangesAppend =
    (p : Program) (first second : List Change) → changed_by_all p (first ++ second) ≡ changed_by_all (changed_by_all p first) second

-- two lists that fit one after the other fit as one
abbrev pub FitsAppend : Type 0
FitsAppend =
    (p : Program) (first second : List Change) → FitInTurn p first → FitInTurn (changed_by_all p first) second → FitInTurn p (first ++ second)
