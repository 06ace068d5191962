use Rattle.std.proofs.Common.{refl, ◌≤◌}
use Rattle.bp_core.specs.declared.line.Act.TheVariants.{Publish}
use Rattle.bp_journal.specs.Limits.{IsActWithin}
use Rattle.bp_journal.proofs.ToldLemmas.{number_told, built_told}
use Rattle.bp_journal.proofs.acts.publish.Goals as goal

pub returns-in-Some : goal.returns-in-Some
returns-in-Some c =
    let w = c.in-Some.ensures in (
      Publish w.0,
      refl,
      w.1,
      record {
        word = refl;
        told =
            built_told (λ k. k ≤ 18446744073709551615) IsActWithin (λ n. Publish n) w.0 c.in-Some.number.value c.in-Some.number.great (λ h. h) (λ h. h)
            (number_told 18446744073709551615 w.0 c.in-Some.number w.2);
      },
    )
