use Rattle.bp_core.proofs.Prefixes.{prefixes_are_legal}
use Rattle.bp_core.proofs.law.prefixes_are_legal.Goals as goal

pub returns : goal.returns
returns c = prefixes_are_legal
