use Rattle.std.proofs.Common.{◌≡◌, ℕ, ◌+◌, ◌++◌, ◌∷◌, [], map, ap, sym, ◌∙◌, arith}
use Rattle.std.specs.List.{range_with_len}
use Rattle.std.proofs.lemmas.List.FromFn.{map-range_with_len_more}
use Rattle.bp_types.specs.Program.{price}
use Rattle.bp_sheets.proofs.hurdles.hurdles.Goals as goal

pub loop-length-preserved : goal.loop-length-preserved
loop-length-preserved c =
    let f : ℕ → ℕ = λ k. price c.args.board.now.certificate.prices (record { from = c.args.arrival; to = c.args.arrival + k + 1 }) in
    let n = c.loop-length.length in
    c.in_ok-push.ensures.items ∙ ap (λ l. l ++ c.price.result ∷ []) c.loop-length.invariant
    ∙ ap (λ x. map f (range_with_len 0 n) ++ x ∷ []) c.price.ensures ∙ sym (map-range_with_len_more f 0 n n (omega arith))
