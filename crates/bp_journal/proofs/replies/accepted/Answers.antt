use Rattle.std.proofs.Common.{refl}
use Rattle.bp_core.specs.declared.line.Reply.TheVariants.{Accepted}
use Rattle.bp_journal.specs.Limits.{IsReplyWithin}
use Rattle.bp_journal.proofs.ToldLemmas.{two_told}
use Rattle.bp_journal.proofs.replies.accepted.Goals as goal

pub returns-in-Some : goal.returns-in-Some
returns-in-Some c =
    let w = c.in-Some.ensures in (
      Accepted w.0 w.1,
      refl,
      refl,
      w.2,
      two_told IsReplyWithin (λ m n. Accepted m n) 18446744073709551615 18446744073709551615 w.0 w.1 c.in-Some.vector c.in-Some.sum c.is_either-great.result
          (λ h. h) (λ h. h) w.3 w.4 c.is_either-great.ensures,
    )
