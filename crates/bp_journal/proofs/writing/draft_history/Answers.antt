use Rattle.std.proofs.Common.{arith}
use Rattle.bp_journal.proofs.WritingLemmas.{place_drafted, place_refused, all_drafted}
use Rattle.bp_journal.proofs.writing.draft_history.Goals as goal

pub returns-in_err-draft_place-clause-writes : goal.returns-in_err-draft_place-clause-writes
returns-in_err-draft_place-clause-writes g c =
    let s = c.loop-place.invariant in
    place_refused _ _ _ _ c.loop-place.draft _ c.args.book.now.history c.loop-place.place _
    (omega (arith, c.loop-place-test.true, c.length-place-end.ensures.value)) s.drafted
    c.in_err-draft_place.ensures.writes c.from_residual.ensures.0

pub loop-place-preserved : goal.loop-place-preserved
loop-place-preserved g c =
    let s = c.loop-place.invariant in
    record {
      drafted = place_drafted _ _ _ c.args.draft.now c.loop-place.draft c.draft_place.new.draft c.args.book.now.history c.loop-place.place
          (omega (arith, c.loop-place-test.true, c.length-place-end.ensures.value)) s.drafted c.in_ok-draft_place.ensures.writes;
      steady = λ t. c.in_ok-draft_place.ensures.steady (s.steady t);
      faults = omega (arith, s.faults, c.in_ok-draft_place.ensures.faults);
    }

pub returns-clause-writes : goal.returns-clause-writes
returns-clause-writes g c =
    let s = c.loop-place.invariant in
    all_drafted _ _ c.args.draft.now c.loop-place.draft c.args.book.now.history c.loop-place.place
    (omega (arith, c.loop-place-test.false, c.length-place-end.ensures.value)) s.drafted
