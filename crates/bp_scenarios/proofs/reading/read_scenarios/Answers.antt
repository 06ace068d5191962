use Rattle.std.proofs.Common.{All}
use Rattle.bp_scenarios.specs.Refused.{IsAskable}
use Rattle.bp_scenarios.proofs.ReadLemmas.{of_size, askable_text, seen_ok}
use Rattle.bp_scenarios.proofs.reading.read_scenarios.Goals as goal

pub returns-clause-text : goal.returns-clause-text
returns-clause-text c = of_size c.args.base.now _ _ c.args.bytes.now _ c.nights.ensures.value c.stays.ensures.value c.read_of.ensures

pub returns-clause-askable : goal.returns-clause-askable
returns-clause-askable c =
    seen_ok (λ v. v.items) (All (IsAskable c.args.base.now)) c.read_of.result
    (askable_text c.args.base.now c.args.bytes.now _
    (of_size c.args.base.now _ _ c.args.bytes.now _ c.nights.ensures.value c.stays.ensures.value c.read_of.ensures))
