use Rattle.std.proofs.Common.{refl, ◌≤◌}
use Rattle.bp_core.specs.declared.line.Reply.TheVariants.{GroupNoRoom}
use Rattle.bp_journal.specs.Limits.{IsReplyWithin}
use Rattle.bp_journal.proofs.ToldLemmas.{number_told, built_told}
use Rattle.bp_journal.proofs.replies.group_no_room.Goals as goal

pub returns-in-Some : goal.returns-in-Some
returns-in-Some c =
    let w = c.in-Some.ensures in (
      GroupNoRoom w.0,
      refl,
      refl,
      w.1,
      built_told (λ k. k ≤ 4294967295) IsReplyWithin (λ n. GroupNoRoom n) w.0 c.in-Some.night.value c.in-Some.night.great (λ h. h) (λ h. h)
          (number_told 4294967295 w.0 c.in-Some.night w.2),
    )
