use Rattle.std.proofs.Common.{rules, refl, ◌≤◌, length, Ok}
use Rattle.bp_core.specs.declared.line.Reply.TheVariants.{Vector}
use Rattle.bp_core.specs.declared.call.Call.TheVariants.{Publish}
use Rattle.bp_core.specs.declared.call.Answer.TheVariants.{Logged}
use Rattle.bp_desk.proofs.Submitted.{submitted, published}
use Rattle.bp_desk.proofs.desk.Desk.submit.Goals as goal

pub returns-in-Ok-publish : goal.returns-in-Ok-publish
returns-in-Ok-publish g c =
    let old = c.args.pass.now in let first = c.lag-length.new.pass in let middle = c.checked.new.pass in let new = c.publish.new.pass in
    let within : c.args.position ≤ length first.seen = search rules in
    let found = c.in-Ok.ensures.board in
    submitted old first new c.args.position c.args.certificate (Ok c.in-Ok-publish.number) c.lag-length.ensures.read (
      within,
      published first middle new c.args.position c.args.certificate (Publish c.in-Ok.board 1) (Logged (Vector c.in-Ok-publish.number))
          c.checked.ensures.pass found.1 (found.0, refl) c.in-Ok-publish.ensures.called c.in-Ok-publish.ensures.calls,
    )
