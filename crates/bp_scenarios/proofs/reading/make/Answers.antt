use Rattle.std.proofs.Common.{◌∙◌, ap, sym, ◌++◌, ◌∷◌, []}
use Rattle.bp_scenarios.specs.declared.row.Row.TheVariants.{Makes}
use Rattle.bp_scenarios.specs.Texts.{rows}
use Rattle.bp_scenarios.proofs.RowLemmas.{rows_made}
use Rattle.bp_scenarios.proofs.reading.make.Goals as goal

pub returns : goal.returns
returns c =
    let front = c.pop.new.self.items in
    ap rows c.in_ok-push-2.ensures.items ∙ ap (λ cs. rows (front ++ cs ∷ [])) c.in_ok-push.ensures ∙ rows_made front c.in-Some.last c.args.change
    ∙ ap (λ ls. rows ls ++ Makes c.args.change ∷ []) (sym c.in-Some.ensures.items)
