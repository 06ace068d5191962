use Rattle.std.proofs.Common.{◌≡◌, ℕ, List, [], ◌∷◌, ◌++◌, refl, ap, sym, ◌∙◌}
use Rattle.std.specs.Prelude.{codes}
use Rattle.bp_text.specs.Lines.{line_of, text_of}
use Rattle.bp_text.proofs.DraftLemmas.{first_of_three, second_of_three, all_three, lines_in_three}
use Rattle.bp_types.specs.Claim.{Claim}
use Rattle.bp_cert.specs.Texts.{claim_lines}
use Rattle.bp_cert.proofs.claim_text.draft_claim.Goals as goal

-- the claim in three parts, a line each
abbrev value_text : ℕ → List ℕ
value_text value = text_of (line_of (codes "value") (value ∷ []) ∷ [])

abbrev sell_text : List ℕ → List ℕ
sell_text sell = text_of (line_of (codes "sell") sell ∷ [])

abbrev prices_text : List ℕ → List ℕ
prices_text prices = text_of (line_of (codes "prices") prices ∷ [])

claim_in_three : (c : Claim) (value : ℕ) (sell prices s p : List ℕ) → record { value = value; sell = sell; prices = prices } ≡ c → s ≡ sell → p ≡ prices
    → text_of (claim_lines c) ≡ (value_text value ++ sell_text s) ++ prices_text p
claim_in_three c value sell prices s p seen same_sell same_prices =
    ap (λ d. text_of (claim_lines d)) (sym seen)
    ∙ lines_in_three (line_of (codes "value") (value ∷ []) ∷ []) (line_of (codes "sell") sell ∷ []) (line_of (codes "prices") prices ∷ [])
    ∙ ap (λ l. (value_text value ++ sell_text l) ++ prices_text prices) (sym same_sell)
    ∙ ap (λ l. (value_text value ++ sell_text s) ++ prices_text l) (sym same_prices)

pub returns-in_err-push_line-clause-writes : goal.returns-in_err-push_line-clause-writes
returns-in_err-push_line-clause-writes g c =
    let certificate = c.certificate.inside in
    let three = claim_in_three c.args.certificate.now certificate.value certificate.sell.items certificate.prices.items c.deref.result.now
    certificate.prices.items c.certificate.view_is c.deref.ensures.value refl in
    second_of_three _ _ _ c.args.draft.now c.push_wide_line.new.self _ (value_text certificate.value) (sell_text c.deref.result.now)
    (prices_text certificate.prices.items) _ _ three
    c.from_residual-in_err-push_line.ensures.0 c.in_ok-push_wide_line.ensures.writes c.in_err-push_line.ensures.writes

pub returns-in_err-push_wide_line-clause-writes : goal.returns-in_err-push_wide_line-clause-writes
returns-in_err-push_wide_line-clause-writes g c =
    let certificate = c.certificate.inside in
    let three = claim_in_three c.args.certificate.now certificate.value certificate.sell.items certificate.prices.items certificate.sell.items
    certificate.prices.items c.certificate.view_is refl refl in
    first_of_three _ _ c.args.draft.now _ (value_text certificate.value) (sell_text certificate.sell.items) (prices_text certificate.prices.items) _ _ three
    c.from_residual.ensures.0 c.in_err-push_wide_line.ensures.writes

pub returns-clause-writes : goal.returns-clause-writes
returns-clause-writes g c =
    let certificate = c.certificate.inside in
    let three = claim_in_three c.args.certificate.now certificate.value certificate.sell.items certificate.prices.items c.deref.result.now
    c.deref-2.result.now c.certificate.view_is c.deref.ensures.value c.deref-2.ensures.value in
    all_three _ _ _ _ c.args.draft.now c.push_wide_line.new.self c.push_line.new.self _ (value_text certificate.value) (sell_text c.deref.result.now)
    (prices_text c.deref-2.result.now) _ _ three
    c.in_ok-push_wide_line.ensures.writes c.in_ok-push_line.ensures.writes c.push_line-2.ensures.writes
