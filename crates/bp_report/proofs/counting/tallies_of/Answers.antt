use Rattle.std.proofs.Common.{◌≡◌, ◌∙◌, ap, rules, length, replicate}
use Rattle.bp_types.specs.House.{Inn}
use Rattle.bp_report.specs.declared.tally.Tally.{Tally}
use Rattle.bp_report.proofs.TallyLemmas.{tallies-none, booked-none}
use Rattle.bp_report.proofs.counting.tallies_of.Goals as goal

pub loop-place-init : goal.loop-place-init
loop-place-init c =
    let H = c.args.book.now.history in
    let filled : c.in_ok-tallies.tallies.items ≡ replicate c.stays.result c.none.result = search rules in
    let many = c.stays.ensures.value ∙ ap (λ (h : Inn). length h.stays) c.house.ensures in
    record {
      booked = booked-none H;
      tallies = filled ∙ ap (λ n. replicate n c.none.result) many ∙ ap (λ (t : Tally). replicate (length c.args.book.now.house.stays) t) c.none.ensures ∙
          tallies-none H (length c.args.book.now.house.stays);
    }
