use Rattle.bp_sheets.proofs.Shortest.{least_stays, least_is_fewer}
use Rattle.bp_sheets.proofs.lengths.least_with.Goals as goal

pub returns-in-Some : goal.returns-in-Some
returns-in-Some c = least_is_fewer c.args.instance.now c.args.board.now.certificate.prices c.args.stay c.args.arrival c.in-Some.nights c.args.least
    c.fewer.result c.in-Some.ensures c.fewer.ensures c.requires.before

pub returns-in-None : goal.returns-in-None
returns-in-None c = least_stays c.args.instance.now c.args.board.now.certificate.prices c.args.stay c.args.arrival c.args.least c.in-None.ensures
    c.requires.before
