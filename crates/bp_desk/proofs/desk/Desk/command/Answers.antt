use Rattle.std.proofs.Common.{refl}
use Rattle.bp_core.specs.declared.call.Call.TheVariants.{Do}
use Rattle.bp_desk.proofs.Standing.{pass_still}
use Rattle.bp_desk.proofs.desk.Desk.command.Goals as goal

pub invariant_of-pass : goal.invariant_of-pass
invariant_of-pass g c =
    pass_still c.pass.inside.seat c.make.new.seat c.pass.inside.caller c.pass.inside.next c.pass.inside.newest c.make.new.newest
    (Do c.args.command c.args.quoted) c.make.result c.pass.invariant
    c.make.ensures.called c.make.ensures.idle c.make.ensures.before refl c.make.ensures.newest
