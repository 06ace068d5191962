use Rattle.std.proofs.Common.{◌∙◌, sym, ap, length}
use Rattle.bp_core.specs.Log.{LogView}
use Rattle.bp_core.proofs.LogLemmas.{length-lines_of}
use Rattle.bp_core.proofs.log.Log.len.Goals as goal

pub returns : goal.returns
returns c = c.len.ensures ∙ c.self.inside.entries.ok.0 ∙ sym (length-lines_of _ _) ∙ ap (λ (l : LogView). length l.lines) c.self.view_is
