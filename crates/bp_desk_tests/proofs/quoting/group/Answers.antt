use Rattle.bp_desk_tests.proofs.Keeping.{right_at_start}
use Rattle.bp_desk_tests.proofs.quoting.group.Goals as goal

pub group-requires-clause-right : goal.group-requires-clause-right
group-requires-clause-right g c =
    let a = c.args in
    right_at_start a.desk.now a.hotel.now.house a.hotel.now.start a.pass.now a.span a.rooms a.quote c.requires.pass c.requires.quote
