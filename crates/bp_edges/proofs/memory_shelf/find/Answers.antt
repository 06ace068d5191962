use Rattle.std.proofs.Common.{nat_eq, Some, sym, ap, ◌∙◌}
use Rattle.bp_edges.proofs.Finding.{get-found, get-passed, get-passed_all}
use Rattle.bp_edges.proofs.memory_shelf.find.Goals as goal
use lib.Pointwise.{pointwise}

pub returns-then-eq : goal.returns-then-eq
returns-then-eq c =
    ap Some c.bytes.ensures
    ∙ sym
    (get-found _ _ _ _ c.loop-file-test.true c.file-item.is
    (ap (pointwise nat_eq c.args.name.now) (sym c.name.ensures) ∙ sym c.eq.ensures ∙ c.if-eq.true))
    ∙ c.loop-file.invariant

pub loop-file-preserved : goal.loop-file-preserved
loop-file-preserved c =
    sym
    (get-passed _ _ _ _ c.loop-file-test.true c.file-item.is
    (ap (pointwise nat_eq c.args.name.now) (sym c.name.ensures) ∙ sym c.eq.ensures ∙ c.if-eq.false))
    ∙ c.loop-file.invariant

pub returns : goal.returns
returns c = sym (get-passed_all _ _ _ c.loop-file-test.false) ∙ c.loop-file.invariant
