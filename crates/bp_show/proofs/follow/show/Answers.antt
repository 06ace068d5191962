use Rattle.std.proofs.Common.{◌++◌, [], ◌∷◌, List, rules, ap, ◌∙◌, fold}
use Rattle.bp_show.specs.declared.face.Showing.{Showing}
use Rattle.bp_show.proofs.Faces.{names_next}
use Rattle.bp_show.proofs.follow.show.Goals as goal

pub publish_as-requires : goal.publish_as-requires
publish_as-requires g c next is =
    let made = c.in-Ok.ensures in
    let pending = made.pending ∙ ap (λ (l : List Showing). l ++ c.args.with.1 ∷ []) c.requires.idle in
    names_next _ _ _ next c.args.with.1 (search rules) c.requires.knows.0 c.requires.knows.1 c.requires.knows.2 (is ∙ ap (fold _ _) pending)
