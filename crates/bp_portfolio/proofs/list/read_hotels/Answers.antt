use Rattle.std.proofs.Common.{ℕ, ◌+◌, ◌-◌, ◌∷◌, [], length, ap, arith, length-append}
use Rattle.std.proofs.lemmas.Result.{err_from_is_err_and}
use Rattle.bp_text.proofs.StageLemmas.{more_lines}
use Rattle.bp_portfolio.proofs.ListLemmas.{hotels_read, hotel_refused, hotel_stopped, one_hotel_more}
use Rattle.bp_portfolio.proofs.list.read_hotels.Goals as goal

-- the next hotel's line was refused
pub returns-in_err-names : goal.returns-in_err-names
returns-in_err-names c =
    let p = err_from_is_err_and c.from_residual.result c.from_residual.ensures.1 in
    let so_far = c.loop.invariant in
    let more : ℕ = c.args.count - (length c.loop.hotels.items + 1) in
    rw (p.1, p.2) (λ start head.
    hotel_refused c.args.count more c.loop.hotels.items _ _ _ _
    (hotels_read c.args.count (more + 1) c.loop.hotels.items start _ c.requires so_far.are (omega (arith, so_far.counted))
    (more_lines _ _ _ _ _ head so_far.gives))
    (omega (arith, so_far.counted)) c.in_err-names.ensures)

-- memory was wanted to keep it
pub returns-in_err-push : goal.returns-in_err-push
returns-in_err-push c =
    let p = err_from_is_err_and c.from_residual-in_err-push.result c.from_residual-in_err-push.ensures.1 in
    let so_far = c.loop.invariant in
    let more : ℕ = c.args.count - (length c.loop.hotels.items + 1) in
    rw (p.1, p.2) (λ start head.
    hotel_stopped c.args.count more c.loop.hotels.items _ _ _ _
    (hotels_read c.args.count (more + 1) c.loop.hotels.items start _ c.requires so_far.are (omega (arith, so_far.counted))
    (more_lines _ _ _ _ _ head so_far.gives))
    (omega (arith, so_far.counted)) c.in_ok-names.ensures.1)

pub loop-preserved : goal.loop-preserved
loop-preserved c =
    let so_far = c.loop.invariant in
    let more = one_hotel_more _ _ _ c.loop.hotels.items c.push.new.self.items c.in_ok-names.names c.in_ok-push.ensures.items so_far.are
    c.in_ok-names.ensures.0 so_far.gives c.in_ok-names.ensures.1 in
    record {
      counted = omega (arith, so_far.counted, ap length c.in_ok-push.ensures.items, length-append c.loop.hotels.items (c.in_ok-names.names ∷ []));
      are = more.0;
      gives = more.1;
    }
