use Rattle.std.proofs.Common.{ℕ, List, ◌++◌, arith}
use Rattle.bp_text.proofs.DraftLemmas.{rest_stopped, piece_refused, piece_out, cut_parts, taken_more}
use Rattle.bp_text.proofs.draft.Draft.push_in_pieces.Goals as goal

-- memory was wanted before the bytes were put behind the draft
pub returns-in_err-extend_from_slice-clause-writes : goal.returns-in_err-extend_from_slice-clause-writes
returns-in_err-extend_from_slice-clause-writes g c =
    let so_far = c.loop-rest.invariant in
    rest_stopped _ _ _ _ c.loop-rest.self so_far.taken c.loop-rest.rest.now c.args.bytes.now _ so_far.splits so_far.drafted c.from_residual.ensures.0

-- the full draft was refused
pub returns-in_err-hand_on-clause-writes : goal.returns-in_err-hand_on-clause-writes
returns-in_err-hand_on-clause-writes g c =
    let so_far = c.loop-rest.invariant in
    let front : List ℕ = c.split_at.result.0.now in
    let parts = cut_parts _ c.loop-rest.rest.now front c.split_at.result.1.now c.split_at.ensures.front c.split_at.ensures.back in
    piece_refused _ _ _ _ _ c.loop-rest.self so_far.taken c.loop-rest.rest.now front c.split_at.result.1.now c.args.bytes.now c.extend_from_slice.new.self.items
    c.self.inside.bytes.items _ so_far.splits parts c.in_ok-extend_from_slice.ensures.items c.self.view_is so_far.drafted c.in_err-hand_on.ensures.writes
    c.from_residual-in_err-hand_on.ensures.0

-- the full draft was handed on
pub loop-rest-preserved : goal.loop-rest-preserved
loop-rest-preserved g c =
    let so_far = c.loop-rest.invariant in
    let front : List ℕ = c.split_at.result.0.now in
    record {
      taken = so_far.taken ++ front;
      splits = taken_more _ c.args.bytes.now so_far.taken c.loop-rest.rest.now front c.split_at.result.1.now so_far.splits c.split_at.ensures.front
          c.split_at.ensures.back;
      drafted = piece_out c.args.self.now c.loop-rest.self so_far.taken front c.extend_from_slice.new.self.items c.self.inside.bytes.items c.hand_on.new.self
          c.in_ok-extend_from_slice.ensures.items c.self.view_is c.in_ok-hand_on.ensures.empty so_far.drafted c.in_ok-hand_on.ensures.writes;
      steady = λ s. c.in_ok-hand_on.ensures.steady (so_far.steady s);
      faults = omega (arith, so_far.faults, c.in_ok-hand_on.ensures.faults);
    }

-- memory was wanted for the last bytes
pub returns-in_err-extend_from_slice-2-clause-writes : goal.returns-in_err-extend_from_slice-2-clause-writes
returns-in_err-extend_from_slice-2-clause-writes g c =
    let so_far = c.loop-rest.invariant in
    rest_stopped _ _ _ _ c.loop-rest.self so_far.taken c.loop-rest.rest.now c.args.bytes.now _ so_far.splits so_far.drafted
    c.from_residual-in_err-extend_from_slice-2.ensures.0
