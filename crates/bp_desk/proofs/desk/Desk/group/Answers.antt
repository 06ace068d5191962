use Rattle.std.proofs.Common.{sym, subst}
use Rattle.bp_types.specs.declared.command.Command.TheVariants.{Group}
use Rattle.bp_core.specs.declared.call.Answer.{Answer}
use Rattle.bp_core.specs.declared.call.Call.TheVariants.{Do}
use Rattle.bp_desk.specs.Calling.{IsCalled, AddsCall, diary}
use Rattle.bp_desk.proofs.Answered.{group_answered}
use Rattle.bp_desk.proofs.desk.Desk.group.Goals as goal

pub group_of-requires : goal.group_of-requires
group_of-requires g c =
    let called = c.command.ensures.called in
    group_answered (diary c.args.pass.now.house called.found) (diary c.args.pass.now.house c.command.new.pass.seen)
    c.args.pass.now.caller c.args.span c.args.rooms c.args.amount c.args.quoted c.command.result called.answered

pub returns-clause-called : goal.returns-clause-called
returns-clause-called g c =
    subst (λ (a : Answer). IsCalled c.args.pass.now c.command.new.pass (Do (Group c.args.span c.args.rooms c.args.amount) c.args.quoted) a)
    (sym c.group_of.ensures) c.command.ensures.called

pub returns-clause-calls : goal.returns-clause-calls
returns-clause-calls g c =
    subst (λ (a : Answer). AddsCall c.args.pass.now c.command.new.pass (Do (Group c.args.span c.args.rooms c.args.amount) c.args.quoted) a)
    (sym c.group_of.ensures) c.command.ensures.calls
