-- The texts of certificates can be told apart.
use Rattle.std.proofs.Common.{◌≡◌, ℕ, ap, sym, ◌∙◌, List, [], ◌∷◌, ◌++◌, slice_index}
use Rattle.std.specs.Prelude.{codes}
use Rattle.bp_types.specs.Claim.{Claim}
use Rattle.bp_text.specs.Lines.{Line, line_of}
use Rattle.bp_cert.specs.Texts.{all_certificate_lines}
use Rattle.bp_text.proofs.LineLemmas.{line_injective}
use Rattle.bp_cert.proofs.EndsOfTexts.{certificate_no_ends}
use Rattle.bp_text.proofs.SpellingLemmas.{IsSpelling}

claim_alone : (v w : Claim) (rest : List Line) → all_certificate_lines w ≡ all_certificate_lines v ++ rest → (v ≡ w) × (rest ≡ [])
claim_alone v w rest e =
    let values = parted (value_line w) (value_line v) _ _ (parted (codes "certificate 1") (codes "certificate 1") _ _ e).1 in
    let sales = parted (line_of (codes "sell") w.sell) (line_of (codes "sell") v.sell) _ _ values.1 in
    let nights = parted (line_of (codes "prices") w.prices) (line_of (codes "prices") v.prices) _ _ sales.1 in
    let ends = parted (codes "end") (codes "end") [] rest nights.1 in
    let value : w.value ≡ v.value = ap (λ ns. slice_index ns 0) (line_injective (codes "value") (w.value ∷ []) (v.value ∷ []) values.0) in
    (sym (same_claim w v value (line_injective (codes "sell") w.sell v.sell sales.0) (line_injective (codes "prices") w.prices v.prices nights.0)), sym ends.1)
  where
    value_line : Claim → Line
    value_line c = line_of (codes "value") (c.value ∷ [])

    parted : (a b : Line) (xs ys : List Line) → a ∷ xs ≡ b ∷ ys → (a ≡ b) × (xs ≡ ys)
    parted a b xs ys e = let h : a ≡ b = cc in let t : xs ≡ ys = cc in (h, t)

    same_claim : (c d : Claim) → c.value ≡ d.value → c.sell ≡ d.sell → c.prices ≡ d.prices → c ≡ d
    same_claim c d e f g =
        let built : ℕ → List ℕ → List ℕ → Claim = λ v s p. record { value = v; sell = s; prices = p } in
        ap (λ v. built v c.sell c.prices) e ∙ ap (λ s. built d.value s c.prices) f ∙ ap (built d.value d.sell) g

pub certificates_are_spelled : IsSpelling all_certificate_lines
certificates_are_spelled = record { no_ends = certificate_no_ends; alone = claim_alone }
