use Rattle.std.proofs.Common.{refl, ◌≤◌}
use Rattle.bp_core.specs.declared.line.Reply.TheVariants.{Vector}
use Rattle.bp_journal.specs.Limits.{IsReplyWithin}
use Rattle.bp_journal.proofs.ToldLemmas.{number_told, built_told}
use Rattle.bp_journal.proofs.replies.vector.Goals as goal

pub returns-in-Some : goal.returns-in-Some
returns-in-Some c =
    let w = c.in-Some.ensures in (
      Vector w.0,
      refl,
      refl,
      w.1,
      built_told (λ k. k ≤ 18446744073709551615) IsReplyWithin (λ n. Vector n) w.0 c.in-Some.number.value c.in-Some.number.great (λ h. h) (λ h. h)
          (number_told 18446744073709551615 w.0 c.in-Some.number w.2),
    )
