use Rattle.std.proofs.Common.{◌∙◌, sym, subst, ap, length, arith}
use Rattle.std.proofs.lemmas.List.{with_items_is}
use Rattle.bp_stayfile.specs.StayList.{StayList}
use Rattle.bp_stayfile.specs.Forecasts.{with_forecasts}
use Rattle.bp_stayfile.specs.LaidOut.{AreLaidOut}
use Rattle.bp_stayfile.proofs.ForecastLemmas.{laid_out-set, with_forecasts-IsStayList}
use Rattle.bp_stayfile.proofs.stays.Stays.set_forecasts.Goals as goal

pub invariant_of-self : goal.invariant_of-self
invariant_of-self c =
    let list : StayList = record { nights = c.self.inside.nights; codes = c.self.inside.codes; stays = c.self.inside.stays.items } in
    let named = c.requires.0 in
    let laid_out = subst (λ (l : StayList). AreLaidOut (length l.codes) named c.args.counts.now) (sym c.self.view_is) c.requires.1 in
    let items = with_items_is c.self.inside.stays c.set_each.new.stays (omega (arith, c.set_each.auto.stays, c.deref_mut.ensures.len)) in
    let set = rw c.deref_mut.ensures.value at c.set_each.ensures in
    rw (items, laid_out-set list named c.args.counts.now c.set_each.new.stays c.self.invariant laid_out set)
    (with_forecasts-IsStayList list named c.args.counts.now c.self.invariant laid_out)

pub returns : goal.returns
returns c = λ named told.
    let list : StayList = record { nights = c.self.inside.nights; codes = c.self.inside.codes; stays = c.self.inside.stays.items } in
    let laid_out = subst (λ (l : StayList). AreLaidOut (length l.codes) named c.args.counts.now) (sym c.self.view_is) told in
    let items = with_items_is c.self.inside.stays c.set_each.new.stays (omega (arith, c.set_each.auto.stays, c.deref_mut.ensures.len)) in
    let set = rw c.deref_mut.ensures.value at c.set_each.ensures in
    ap (λ s. record list { stays = s }) (items ∙ laid_out-set list named c.args.counts.now c.set_each.new.stays c.self.invariant laid_out set)
    ∙ ap (λ l. with_forecasts l named) c.self.view_is
