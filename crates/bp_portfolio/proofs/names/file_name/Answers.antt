use Rattle.std.proofs.Common.{sym}
use Rattle.bp_portfolio.proofs.NameLemmas.{name_is_text}
use Rattle.bp_portfolio.proofs.names.file_name.Goals as goal

pub unreachable-requires : goal.unreachable-requires
unreachable-requires c = c.in-Err.ensures.cases.0 (name_is_text c.in_ok-word.word.now (sym c.if-not-is_name.ensures))
