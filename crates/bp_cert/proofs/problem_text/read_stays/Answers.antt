use Rattle.std.proofs.Common.{ℕ, ◌+◌, ◌-◌, ◌∷◌, [], length, ap, arith, length-append}
use Rattle.std.proofs.lemmas.Result.{err_from_is_err_and}
use Rattle.bp_text.proofs.StageLemmas.{more_lines}
use Rattle.bp_cert.proofs.ProblemLemmas.{stays_read, stay_refused, stay_stopped, one_stay_more}
use Rattle.bp_cert.proofs.problem_text.read_stays.Goals as goal

-- the next stay's line was refused
pub returns-in_err-stay : goal.returns-in_err-stay
returns-in_err-stay c =
    let p = err_from_is_err_and c.from_residual.result c.from_residual.ensures.1 in
    let so_far = c.loop.invariant in
    let more : ℕ = c.args.count - (length c.loop.stays.items + 1) in
    rw (p.1, p.2) (λ start head.
    stay_refused c.args.rooms.now c.args.count more c.loop.stays.items _ _ _ _
    (stays_read c.args.rooms.now c.args.count (more + 1) c.loop.stays.items start _ c.requires so_far.within (omega (arith, so_far.counted))
    (more_lines _ _ _ _ _ head so_far.gives))
    (omega (arith, so_far.counted)) c.in_err-stay.ensures)

-- memory was wanted to keep it
pub returns-in_err-push : goal.returns-in_err-push
returns-in_err-push c =
    let p = err_from_is_err_and c.from_residual-in_err-push.result c.from_residual-in_err-push.ensures.1 in
    let so_far = c.loop.invariant in
    let more : ℕ = c.args.count - (length c.loop.stays.items + 1) in
    rw (p.1, p.2) (λ start head.
    stay_stopped c.args.rooms.now c.args.count more c.loop.stays.items _ _ _ _
    (stays_read c.args.rooms.now c.args.count (more + 1) c.loop.stays.items start _ c.requires so_far.within (omega (arith, so_far.counted))
    (more_lines _ _ _ _ _ head so_far.gives))
    (omega (arith, so_far.counted)) c.in_ok-stay.ensures.2)

pub loop-preserved : goal.loop-preserved
loop-preserved c =
    let so_far = c.loop.invariant in
    let more = one_stay_more (length c.args.rooms.now)
    _ _ _ c.loop.stays.items c.push.new.self.items c.in_ok-stay.stay c.in_ok-push.ensures.items so_far.within c.in_ok-stay.ensures.1 so_far.gives
    c.in_ok-stay.ensures.2 in
    record {
      counted = omega (arith, so_far.counted, ap length c.in_ok-push.ensures.items, length-append c.loop.stays.items (c.in_ok-stay.stay ∷ []));
      within = more.0;
      gives = more.1;
    }
