use Rattle.std.proofs.Common.{refl, ◌∙◌, ap, ◌∷◌}
use Rattle.bp_text.specs.Numbers.{spelled}
use Rattle.bp_core.specs.declared.line.Reply.TheVariants.{NoRoom}
use Rattle.bp_journal.specs.Limits.{IsReplyWithin}
use Rattle.bp_journal.proofs.ToldLemmas.{three_told}
use Rattle.bp_journal.proofs.replies.no_room.Goals as goal

pub returns-in-Some-number : goal.returns-in-Some-number
returns-in-Some-number c =
    let w = c.in-Some.ensures in
    let v = c.in-Some-number.ensures in (
      NoRoom w.0 w.1 v.0,
      refl,
      refl,
      w.2 ∙ ap (λ ws. spelled w.0 ∷ spelled w.1 ∷ ws) v.1,
      three_told IsReplyWithin (λ m n k. NoRoom m n k)
          18446744073709551615 18446744073709551615 4294967295 w.0 w.1 v.0 c.in-Some.vector c.in-Some.sum c.in-Some-number.night c.is_either-great.result
          c.is_either.result
          (λ h. (h.0.0, h.0.1, h.1)) (λ h. ((h.0, h.1), h.2)) w.3 w.4 v.2 c.is_either.ensures c.is_either-great.ensures,
    )
