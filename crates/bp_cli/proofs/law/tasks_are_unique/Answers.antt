use Rattle.std.proofs.Common.{◌∙◌, sym}
use Rattle.bp_cli.proofs.Meaning.{means}
use Rattle.bp_cli.proofs.law.tasks_are_unique.Goals as goal

pub returns : goal.returns
returns c words t u first second = sym (means words t first) ∙ means words u second
