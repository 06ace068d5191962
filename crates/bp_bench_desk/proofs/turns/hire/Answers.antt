use Rattle.std.proofs.Common.{◌-◌, All, Contains, arith, ap, sym, subst, rules}
use Rattle.std.proofs.lemmas.List.Elements.{All-push, All-weaker}
use Rattle.bp_types.specs.declared.limits.TheConstants.{CALLERS}
use Rattle.bp_turn.proofs.Numbers.{run_contains, still_left}
use Rattle.bp_bench_desk.specs.declared.turns.Worker.{Worker}
use Rattle.bp_bench_desk.specs.Turning.{IsReady}
use Rattle.bp_bench_desk.proofs.turns.hire.Goals as goal

-- a new lock's first seat has all numbers to hand out but its own
pub loop-caller-init : goal.loop-caller-init
loop-caller-init c = (
  (search rules, search rules, search rules),
  (λ n l m. subst (λ ns. Contains ns n) (sym (ap (λ s. s.free) c.in_ok-turn.ensures)) (run_contains 1 (CALLERS - 1) n l (omega arith))),
  search rules,
)

-- the numbers above the one that is handed out stay
pub loop-caller-preserved : goal.loop-caller-preserved
loop-caller-preserved c =
    let Ready : Worker → Type 0 = λ w. IsReady c.turn.inside.table.shared.table_id w.caller w.seat in (
      (search rules, search rules, search rules),
      (λ n l m. subst (λ ns. Contains ns n) (sym (ap (λ s. s.free) c.split.ensures.seat))
          (still_left c.loop-caller.caller n c.loop-caller.first.free (λ e. omega arith) (c.loop-caller.invariant.1 n (omega arith) m))),
      subst (All Ready) (sym c.in-Ok.ensures.items)
          (All-push Ready c.loop-caller.workers.items _ c.loop-caller.invariant.2 (search rules, search rules, search rules)),
    )

-- the worker with the first seat comes last
pub returns : goal.returns
returns c =
    let Ready : Worker → Type 0 = λ w. IsReady c.turn.inside.table.shared.table_id w.caller w.seat in
    let Hired : Worker → Type 0 = λ w. IsReady c.in_ok-turn.turn w.caller w.seat in
    let others = All-weaker Ready Hired (λ w h. (search rules, h.1, h.2)) c.loop-caller.workers.items c.loop-caller.invariant.2 in
    subst (All Hired) (sym c.in-Ok-push.ensures.items)
    (All-push Hired c.loop-caller.workers.items _ others (search rules, search rules, search rules))
