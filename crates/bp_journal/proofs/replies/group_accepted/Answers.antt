use Rattle.std.proofs.Common.{refl, ◌≤◌}
use Rattle.bp_core.specs.declared.line.Reply.TheVariants.{GroupAccepted}
use Rattle.bp_journal.specs.Limits.{IsReplyWithin}
use Rattle.bp_journal.proofs.ToldLemmas.{number_told, built_told}
use Rattle.bp_journal.proofs.replies.group_accepted.Goals as goal

pub returns-in-Some : goal.returns-in-Some
returns-in-Some c =
    let w = c.in-Some.ensures in (
      GroupAccepted w.0,
      refl,
      refl,
      w.1,
      built_told (λ k. k ≤ 1000000000000000000000000000000) IsReplyWithin (λ n. GroupAccepted n)
          w.0 c.in-Some.displacement.value c.in-Some.displacement.great (λ h. h) (λ h. h)
          (number_told 1000000000000000000000000000000 w.0 c.in-Some.displacement w.2),
    )
