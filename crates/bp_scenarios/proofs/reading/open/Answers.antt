use Rattle.std.proofs.Common.{◌∙◌, ap, ◌++◌, ◌∷◌, []}
use Rattle.bp_scenarios.specs.Texts.{rows}
use Rattle.bp_scenarios.proofs.RowLemmas.{rows_opened}
use Rattle.bp_scenarios.proofs.reading.open.Goals as goal

pub returns : goal.returns
returns c =
    let lists = c.args.lists.now.items in
    ap rows c.in_ok-push.ensures.items ∙ ap (λ cs. rows (lists ++ cs ∷ [])) (c.new-2.ensures ∙ c.new.ensures.items) ∙ rows_opened lists
