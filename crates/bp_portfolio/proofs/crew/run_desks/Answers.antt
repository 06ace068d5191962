use Rattle.std.proofs.Common.{◌≡◌, sym, subst, arith, List, All}
use Rattle.std.proofs.lemmas.List.{with_items_is}
use Rattle.bp_portfolio.specs.Sites.{IsToRun, IsOver, AreToRun, AreRunsOf}
use Rattle.bp_portfolio.specs.declared.crew.DeskSite.{DeskSite}
use Rattle.bp_portfolio.proofs.Crews.{each_to_run, each_over, right_runs}
use Rattle.bp_portfolio.proofs.crew.run_desks.Goals as goal

pub run_sites-requires-after_bounds : goal.run_sites-requires-after_bounds
run_sites-requires-after_bounds g c κs within =
    let P : List DeskSite → Type 0 = λ ss. All IsToRun ss in
    subst P (sym c.deref_mut.ensures.value) (each_to_run c.args.workers c.args.hotels.items c.in_ok-sites.sites.items c.requires.workers c.in_ok-sites.ensures)

pub runs_of-requires : goal.runs_of-requires
runs_of-requires g c =
    let items = with_items_is c.in_ok-sites.sites c.run_sites.new.sites (omega (arith, c.run_sites.ensures.count, c.deref_mut.ensures.len)) in
    let P : List DeskSite → Type 0 = λ ss. AreToRun c.args.workers c.args.hotels.items ss in
    let Q : List DeskSite → Type 0 = λ ss. All IsOver ss in
    subst Q (sym items)
    (each_over c.args.workers c.args.hotels.items c.deref_mut.result.now c.run_sites.new.sites (subst P (sym c.deref_mut.ensures.value) c.in_ok-sites.ensures)
    c.run_sites.ensures.count c.run_sites.ensures.each)

pub returns : goal.returns
returns g c =
    let items = with_items_is c.in_ok-sites.sites c.run_sites.new.sites (omega (arith, c.run_sites.ensures.count, c.deref_mut.ensures.len)) in
    let P : List DeskSite → Type 0 = λ ss. AreToRun c.args.workers c.args.hotels.items ss in
    let R : List DeskSite → Type 0 = λ ss. AreRunsOf ss c.in_ok-runs.runs.items in
    right_runs c.args.workers c.args.hotels.items c.deref_mut.result.now c.run_sites.new.sites c.in_ok-runs.runs.items
    (subst P (sym c.deref_mut.ensures.value) c.in_ok-sites.ensures) c.run_sites.ensures.count c.run_sites.ensures.each
    (subst R items c.in_ok-runs.ensures)
