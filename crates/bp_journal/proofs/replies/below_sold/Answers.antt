use Rattle.std.proofs.Common.{refl, ◌≤◌}
use Rattle.bp_core.specs.declared.line.Reply.TheVariants.{BelowSold}
use Rattle.bp_journal.specs.Limits.{IsReplyWithin}
use Rattle.bp_journal.proofs.ToldLemmas.{number_told, built_told}
use Rattle.bp_journal.proofs.replies.below_sold.Goals as goal

pub returns-in-Some : goal.returns-in-Some
returns-in-Some c =
    let w = c.in-Some.ensures in (
      BelowSold w.0,
      refl,
      refl,
      w.1,
      built_told (λ k. k ≤ 18446744073709551615) IsReplyWithin (λ n. BelowSold n) w.0 c.in-Some.sold.value c.in-Some.sold.great (λ h. h) (λ h. h)
          (number_told 18446744073709551615 w.0 c.in-Some.sold w.2),
    )
