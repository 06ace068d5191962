use Rattle.std.proofs.Common.{rules, arith, ◌≡◌, ◌∙◌, ap, sym, true, length, is_some}
use Rattle.bp_types.proofs.Firsts.{find-range_some, find-range_none}
use Rattle.bp_scenarios.specs.Refused.{is_past}
use Rattle.bp_scenarios.proofs.refused.breaks_limit.Goals as goal

pub returns-then-is_past : goal.returns-then-is_past
returns-then-is_past c =
    let here : is_past c.args.instance.now c.args.change c.loop-night.night ≡ true = search rules in
    sym (ap is_some (find-range_some (is_past c.args.instance.now c.args.change) 0 (length c.args.instance.now.rooms) c.loop-night.night (omega arith)
    (omega (arith, c.loop-night-test.true, c.nights-night-end.ensures.value)) (λ n h g. c.loop-night.invariant n g) here))

pub returns : goal.returns
returns c =
    sym (ap is_some (find-range_none (is_past c.args.instance.now c.args.change) 0 (length c.args.instance.now.rooms)
    (λ n h g. c.loop-night.invariant n (omega (arith, c.loop-night-test.false, c.nights-night-end.ensures.value)))))
