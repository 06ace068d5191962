use Rattle.std.proofs.Common.{rules, ap, ◌∙◌}
use Rattle.bp_show.specs.Shown.{IsPrefix, EndsIn, Rises}
use Rattle.bp_show.specs.Screens.{Display}
use Rattle.bp_show.proofs.Lists.{same_nights}
use Rattle.bp_show.proofs.Steps.{joins_heard, adopts}
use Rattle.bp_show.proofs.view.View.adopt.Goals as goal

pub join_seat-requires : goal.join_seat-requires
join_seat-requires c = (search rules, search rules, search rules, search rules, joins_heard _ _ _ _ (search rules))

pub load-showed-requires : goal.load-showed-requires
load-showed-requires c = (search rules, search rules, adopts _ _ _ (search rules))

pub returns-then-showed-stamp-clause-nights : goal.returns-then-showed-stamp-clause-nights
returns-then-showed-stamp-clause-nights c =
    let begins : IsPrefix c.self.inside.place.me.0.seen c.load-showed.new.seat.me.0.seen = search rules in
    let rises : Rises c.load-showed.new.seat.me.0.seen = search rules in
    let ends : EndsIn c.load-showed.new.seat.me.0.seen c.in-Some.found.vector = search rules in
    same_nights _ _ c.self.inside.last c.in-Some.found.vector c.self.invariant.1 rises begins c.self.invariant.0 ends ∙
    ap (λ (d : Display). d.nights) c.self.view_is
