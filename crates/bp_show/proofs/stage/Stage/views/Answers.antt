use Rattle.std.proofs.Common.{◌≡◌, ◌++◌, [], ◌∷◌, List, rules, sym, subst, ◌∙◌}
use Rattle.std.specs.List.{All}
use Rattle.std.proofs.lemmas.List.Elements.{All-push}
use Rattle.bp_show.specs.Screens.{Display}
use Rattle.bp_show.proofs.stage.Stage.views.Goals as goal

pub loop-index-preserved : goal.loop-index-preserved
loop-index-preserved c =
    let items : c.push.new.self.items ≡ c.loop-index.made.items ++ c.in_ok-view.field-0 ∷ [] = search rules in (
      c.in_ok-view.ensures.stage ∙ c.loop-index.invariant.0,
      search rules,
      subst (λ (l : List Display). All (λ (v : Display). v ≡ c.args.self.now) l) (sym items)
          (All-push (λ (v : Display). v ≡ c.args.self.now) c.loop-index.made.items c.in_ok-view.field-0 c.loop-index.invariant.2 (c.in_ok-view.ensures.view ∙
          c.loop-index.invariant.0)),
    )
