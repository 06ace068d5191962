use Rattle.std.proofs.Common.{ℕ, ◌+◌, ◌-◌, [], ◌∷◌, ◌++◌, slice_index, ap, sym, ◌∙◌, arith}
use Rattle.std.proofs.lemmas.List.FromFn.{map-range_with_len_more}
use Rattle.bp_residual.proofs.flow.prices.Goals as goal

pub loop-night-preserved : goal.loop-night-preserved
loop-night-preserved c =
    let night = c.loop-night.night in
    let price : ℕ → ℕ = λ n. slice_index c.args.potentials.now n - slice_index c.args.potentials.now (n + 1) in
    c.in_ok-push.ensures.items ∙ ap (λ xs. xs ++ price night ∷ []) c.loop-night.invariant ∙ sym (map-range_with_len_more price 0 night night (omega arith))
