use Rattle.std.proofs.Common.{◌∙◌, sym, ap}
use Rattle.std.proofs.lemmas.List.{length-map}
use Rattle.bp_core.specs.Lines.{vectors}
use Rattle.bp_core.specs.Log.{LogView}
use Rattle.bp_core.proofs.log.Log.vectors.Goals as goal

pub returns : goal.returns
returns c = c.len.ensures ∙ c.self.inside.boards.ok.0 ∙ sym (length-map _ _) ∙ c.self.invariant.0.as_many ∙ ap (λ (l : LogView). vectors l.lines) c.self.view_is
