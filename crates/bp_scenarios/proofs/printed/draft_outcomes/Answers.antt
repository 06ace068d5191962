use Rattle.std.proofs.Common.{arith}
use Rattle.bp_scenarios.proofs.PrintedLemmas.{line_drafted, line_refused, all_drafted}
use Rattle.bp_scenarios.proofs.printed.draft_outcomes.Goals as goal

pub returns-in_err-draft_outcome-clause-writes : goal.returns-in_err-draft_outcome-clause-writes
returns-in_err-draft_outcome-clause-writes g c =
    let s = c.loop-outcome.invariant in
    line_refused _ _ _ _ c.loop-outcome.draft _ c.args.outcomes.now c.loop-outcome.outcome-index _ c.outcome-item.result _ c.loop-outcome-test.true
    (omega (arith, s.number)) c.outcome-item.is s.drafted
    c.in_err-draft_outcome.ensures.writes c.from_residual.ensures.0

pub loop-outcome-preserved : goal.loop-outcome-preserved
loop-outcome-preserved g c =
    let s = c.loop-outcome.invariant in
    record {
      number = omega (arith, s.number);
      drafted = line_drafted _ _ _ c.args.draft.now c.loop-outcome.draft c.draft_outcome.new.draft c.args.outcomes.now c.loop-outcome.outcome-index _
          c.outcome-item.result c.loop-outcome-test.true (omega (arith, s.number)) c.outcome-item.is s.drafted c.in_ok-draft_outcome.ensures.writes;
      steady = λ t. c.in_ok-draft_outcome.ensures.steady (s.steady t);
      faults = omega (arith, s.faults, c.in_ok-draft_outcome.ensures.faults);
    }

pub returns-clause-writes : goal.returns-clause-writes
returns-clause-writes g c =
    let s = c.loop-outcome.invariant in
    all_drafted _ _ c.args.draft.now c.loop-outcome.draft c.args.outcomes.now c.loop-outcome.outcome-index (omega (arith, c.loop-outcome-test.false)) s.drafted
