use Rattle.std.proofs.Common.{◌∙◌, sym}
use Rattle.bp_bench.proofs.SpanLemmas.{has_left}
use Rattle.bp_bench.proofs.spans.take.Goals as goal

pub take-requires-clause-left : goal.take-requires-clause-left
take-requires-clause-left c = has_left c.args.ledger.now c.args.span 1 (sym c.first_full.ensures ∙ c.in-None.is)
