-- From the lines of a text to its bytes.
use Rattle.std.proofs.Common.{◌≡◌, ℕ, ◌+◌, refl, ap, sym, subst, ◌∙◌, arith, List, [], ◌∷◌, ◌++◌}
use Rattle.std.specs.Prelude.{Ok, Err}
use Rattle.std.proofs.lemmas.List.{append-nil}
use Rattle.bp_text.specs.declared.text_error.TextError.{TextError}
use Rattle.bp_text.specs.declared.text_error.TextError.TheVariants.{BadLine, Limit, TooShort, Trailing, Memory}
use Rattle.bp_text.specs.Lines.{Line, Given, text_of}
use Rattle.bp_text.specs.Reading.{IsReading, IsText, Spells, start_of}

-- what was refused of the lines is refused of the text
pub refused_text : {V : Type 0} (lines : V → List Line) (Within : V → Type 0) (bytes : List ℕ) (end : Given) (e : TextError) →
    IsReading lines Within (start_of bytes) end (Err e) → IsText lines Within bytes (Err e)
refused_text lines Within bytes end (BadLine place) r = (end, r)
refused_text lines Within bytes end (Limit place) r = (end, r)
refused_text lines Within bytes end TooShort r = (end, r)
refused_text lines Within bytes end (Trailing place) r = absurd r
refused_text lines Within bytes end Memory r = tt

-- the lines of a value, and nothing behind them
pub whole_text : {V : Type 0} (lines : V → List Line) (Within : V → Type 0) (bytes : List ℕ) (end : Given) (v : V) →
    Spells lines Within (start_of bytes) end v → end.rest ≡ [] → IsText lines Within bytes (Ok v)
whole_text lines Within bytes end v spells none = (spells.within, spells.gives.splits ∙ ap (λ r. text_of (lines v) ++ r) none ∙ append-nil (text_of (lines v)))

-- the lines of a value, and something behind them
pub trailed_text : {V : Type 0} (lines : V → List Line) (Within : V → Type 0) (bytes : List ℕ) (end : Given) (v : V) (e : TextError) →
    Spells lines Within (start_of bytes) end v → e ≡ Trailing (end.given + 1) → (end.rest ≡ [] → ⊥) →
    IsText lines Within bytes (Err e)
trailed_text lines Within bytes end v e spells is some =
    let P : TextError → Type 0 = λ x. IsText lines Within bytes (Err x) in
    let parts = cut end.rest some in
    subst P (sym is) (record {
      value = v;
      within = spells.within;
      byte = parts.0;
      more = parts.1;
      trails = spells.gives.splits ∙ ap (λ r. text_of (lines v) ++ r) parts.2;
      counted = omega (arith, spells.gives.given);
    })
  where
    cut : (rest : List ℕ) → (rest ≡ [] → ⊥) → (b : ℕ) × (more : List ℕ) × (rest ≡ b ∷ more)
    cut [] some = absurd (some refl)
    cut (b ∷ more) some = (b, more, refl)
