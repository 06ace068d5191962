use Rattle.std.proofs.Common.{◌≡◌, ◌∙◌, ◌++◌, ◌∷◌, [], ap, rules, true, replicate, append_assoc}
use Rattle.std.specs.Result.{is_ok}
use Rattle.std.proofs.lemmas.List.{replicate-append-replicate}
use Rattle.bp_report.proofs.cells.push_spaces.Goals as goal

pub loop-place-preserved : goal.loop-place-preserved
loop-place-preserved c =
    let good : is_ok c.push.result ≡ true = search rules in
    let items = rw good at c.push.ensures.items in
    items ∙ ap (λ t. t ++ 32 ∷ []) c.loop-place.invariant ∙ append_assoc c.args.line.now.items (replicate c.loop-place._place 32) (32 ∷ [])
    ∙ ap (λ t. c.args.line.now.items ++ t) (replicate-append-replicate c.loop-place._place 1 32)
