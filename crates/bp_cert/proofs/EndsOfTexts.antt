-- No line of a certificate has an end in it.
use Rattle.std.proofs.Common.{refl, [], ◌∷◌, ◌++◌, All}
use Rattle.std.specs.Prelude.{codes}
use Rattle.std.proofs.lemmas.List.Elements.{All-append}
use Rattle.bp_types.specs.Claim.{Claim}
use Rattle.bp_text.specs.Lines.{HasNoEnd, line_of}
use Rattle.bp_text.proofs.EndLemmas.{line_in_front, one_line, word_has_no_end, no_end_in_spelled}
use Rattle.bp_cert.specs.Texts.{claim_lines, all_certificate_lines}

pub claim_no_ends : (c : Claim) → All HasNoEnd (claim_lines c)
claim_no_ends c =
    let prices = line_of (codes "prices") c.prices ∷ [] in
    let sell = line_of (codes "sell") c.sell ∷ prices in
    let behind_sell = one_line (line_of (codes "prices") c.prices) (no_end_in_spelled (codes "prices") c.prices refl) in
    let behind_value = line_in_front (line_of (codes "sell") c.sell) prices (no_end_in_spelled (codes "sell") c.sell refl) behind_sell in
    line_in_front (line_of (codes "value") (c.value ∷ [])) sell (no_end_in_spelled (codes "value") (c.value ∷ []) refl) behind_value

pub first_line_of_certificate : HasNoEnd (codes "certificate 1")
first_line_of_certificate = word_has_no_end (codes "certificate 1") refl

pub certificate_no_ends : (c : Claim) → All HasNoEnd (all_certificate_lines c)
certificate_no_ends c = line_in_front (codes "certificate 1") (claim_lines c ++ codes "end" ∷ []) first_line_of_certificate
    (All-append HasNoEnd (claim_lines c) (codes "end" ∷ []) (claim_no_ends c) (one_line (codes "end") (word_has_no_end (codes "end") refl)))
