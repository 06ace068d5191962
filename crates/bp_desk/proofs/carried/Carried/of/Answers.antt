use Rattle.std.proofs.Common.{rules, refl, ◌∙◌}
use Rattle.bp_desk.proofs.ReadingOn.{carried_first}
use Rattle.bp_desk.proofs.carried.Carried.of.Goals as goal

pub returns : goal.returns
returns c = (
  carried_first c.args.pass.now.house c.args.pass.now.seen (record { instance = c.in_ok-instance.instance; position = 0; changes = c.in_ok-changes.changes })
      refl (c.in_ok-instance.ensures ∙ c.requires) (search rules),
  refl,
)
