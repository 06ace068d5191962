use Rattle.std.proofs.Common.{rules, refl, ◌≡◌, ap, sym, subst, ◌∙◌}
use Rattle.bp_desk_run.proofs.LastRound.{closed_after_round}
use Rattle.bp_desk_run.proofs.finish.close_desk.Goals as goal

pub round-requires-clause-goes : goal.round-requires-clause-goes
round-requires-clause-goes g c = c.in_ok-optimiser.ensures c.args.pass.house c.args.pass.seen c.requires.solver.0

pub returns : goal.returns
returns g c =
    let b = c.requires.back in
    let q = c.round.new.pass in
    closed_after_round b.0 c.round.new.self.position c.args.pass q c.in_ok-round.round c.close.result b.1 c.facts.ensures.accounts c.facts-2.ensures.accounts
    c.in_ok-round.ensures.round c.close.ensures.house c.close.ensures.begins c.close.ensures.legal
    c.close.ensures.accounts
