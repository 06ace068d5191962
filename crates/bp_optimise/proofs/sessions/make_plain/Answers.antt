use Rattle.std.proofs.Common.{rules, refl, None}
use Rattle.bp_core.specs.declared.call.Call.TheVariants.{Do}
use Rattle.bp_core.specs.declared.call.Answer.TheVariants.{Logged}
use Rattle.bp_desk.specs.Calling.{AddsCall}
use Rattle.bp_optimise.proofs.Stopping.{acts_by_command, is_made}
use Rattle.bp_optimise.proofs.sessions.make_plain.Goals as goal

pub returns-in-Logged-clause-goes_on : goal.returns-in-Logged-clause-goes_on
returns-in-Logged-clause-goes_on g c =
    acts_by_command c.args.lead c.args.pass.now c.command.new.pass c.args.command None c.command.result c.args.optimiser.now c.command.ensures.called
    c.requires.goes

pub returns-in-HistoryFull-clause-goes_on : goal.returns-in-HistoryFull-clause-goes_on
returns-in-HistoryFull-clause-goes_on g c =
    acts_by_command c.args.lead c.args.pass.now c.command.new.pass c.args.command None c.command.result c.args.optimiser.now c.command.ensures.called
    c.requires.goes

pub returns-in-Logged-clause-outcome : goal.returns-in-Logged-clause-outcome
returns-in-Logged-clause-outcome g c =
    let adds : AddsCall c.args.pass.now c.command.new.pass (Do c.args.command None) (Logged c.in-Logged.field-0) = search rules in
    is_made c.args.pass.now c.command.new.pass c.args.command None (Logged c.in-Logged.field-0) adds refl
