-- Options, tests and spans, case by case.
use Rattle.std.proofs.Common.{◌≡◌, ℕ, ◌-◌, ◌<◌, ◌≤◌, refl, arith, Bool, true, false, cond, nat_lt, Option, Some, None, inl, inr, ◌⊎◌}
use Rattle.std.specs.List.{find}
use Rattle.std.proofs.lemmas.Bool.{and_parts, leb-true, ltb-true, ltb-false}
use Rattle.bp_types.specs.declared.stay.Span.{Span}
use Rattle.bp_types.specs.Program.{covers}
use Rattle.bp_types.proofs.Firsts.{none_passes}
use Rattle.bp_types.specs.Spans.{nights_of}

pub cases_Option : {X : Type 0} (o : Option X) → (o ≡ None) ⊎ ((x : X) × (o ≡ Some x))
cases_Option None = inl refl
cases_Option (Some x) = inr (x, refl)

pub cond_same : {X : Type 0} (b : Bool) (x : X) → cond b x x ≡ x
cond_same true x = refl
cond_same false x = refl

pub covers_parts : (s : Span) (n : ℕ) → covers s n ≡ true → (s.from ≤ n) × (n < s.to)
covers_parts s n h = let parts = and_parts _ _ h in (leb-true _ _ parts.0, ltb-true _ _ parts.1)

-- where no night of the span is short, each that it covers has as many left
pub enough_on : (left : ℕ → ℕ) (units : ℕ) (s : Span) (n : ℕ) → find (λ k. nat_lt (left k) units) (nights_of s) ≡ None → covers s n ≡ true → units ≤ left n
enough_on left units s n none in_span =
    let inside = covers_parts s n in_span in
    ltb-false _ _ (none_passes (λ k. nat_lt (left k) units) s.from (s.to - s.from) none n inside.0 (omega (arith, inside.0, inside.1)))

pub cond_some_of : {X : Type 0} (b : Bool) (o : Option X) (x : X) → cond b o None ≡ Some x → o ≡ Some x
cond_some_of true o x h = h
cond_some_of false o x h = absurd (cc)

pub cond_some : {X : Type 0} (b : Bool) (y x : X) → cond b (Some y) None ≡ Some x → y ≡ x
cond_some true y x h = (cc)
cond_some false y x h = absurd (cc)
