use Rattle.std.proofs.Common.{arith}
use Rattle.bp_text.proofs.DraftLemmas.{number_refused, number_drafted}
use Rattle.bp_text.proofs.draft.Draft.push_numbers.Goals as goal

pub returns-in_err-push_spaced_word-clause-writes : goal.returns-in_err-push_spaced_word-clause-writes
returns-in_err-push_spaced_word-clause-writes g c =
    let so_far = c.loop-number.invariant in
    number_refused _ _ _ _ c.loop-number.self _ c.args.numbers.now c.loop-number.number-index _ c.loop-number-test.true so_far.drafted
    c.in_err-push_spaced_word.ensures.writes c.from_residual.ensures.0

pub loop-number-preserved : goal.loop-number-preserved
loop-number-preserved g c =
    let so_far = c.loop-number.invariant in
    record {
      drafted = number_drafted _ _ _ c.args.self.now c.loop-number.self c.push_spaced_word.new.self c.args.numbers.now c.loop-number.number-index
          c.loop-number-test.true so_far.drafted
          c.in_ok-push_spaced_word.ensures.writes;
      steady = λ s. c.in_ok-push_spaced_word.ensures.steady (so_far.steady s);
      faults = omega (arith, so_far.faults, c.in_ok-push_spaced_word.ensures.faults);
    }
