use Rattle.std.proofs.Common.{sym, subst, arith, IsTrue}
use Rattle.bp_core.specs.declared.line.Act.TheVariants.{Leave}
use Rattle.bp_core.specs.Acting.{Diary}
use Rattle.bp_core.specs.Callers.{may_log}
use Rattle.bp_core.proofs.Counts.{has_room}
use Rattle.bp_core.proofs.InStepMore.{in_step_more}
use Rattle.bp_core.proofs.Enrolling.{leave_is_legal, leave_follows, leave_is_small}
use Rattle.bp_core.proofs.book.Book.leave.Goals as goal

pub set_standing-requires : goal.set_standing-requires
set_standing-requires c =
    leave_is_small _ _ _ c.self.invariant.legal (let P : Diary → Type 0 = λ b. IsTrue (may_log b.history c.args.caller Leave) in
    subst P (sym c.self.view_is) c.requires.caller_may)

pub logged-requires-clause-room : goal.logged-requires-clause-room
logged-requires-clause-room c =
    omega (arith, has_room _ _ c.self.invariant.legal, c.self.invariant.line_room)

pub invariant_of-self : goal.invariant_of-self
invariant_of-self c =
    let P : Diary → Type 0 = λ b. IsTrue (may_log b.history c.args.caller Leave) in
    let may = subst P (sym c.self.view_is) c.requires.caller_may in
    let small = leave_is_small _ _ _ c.self.invariant.legal may in
    rw c.set_standing.ensures
    (in_step_more _ _ _ _ _ _ _ _ _ _ _ _ c.self.invariant (leave_is_legal _ _ c.args.caller c.self.invariant.legal may) c.logged.ensures.log
    (leave_follows _ _ _ _ _ _ c.args.caller c.self.invariant small may))
