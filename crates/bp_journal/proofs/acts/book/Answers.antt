use Rattle.std.proofs.Common.{refl, ◌≤◌}
use Rattle.bp_core.specs.declared.line.Act.TheVariants.{Do}
use Rattle.bp_types.specs.declared.command.Command.TheVariants.{Book}
use Rattle.bp_journal.specs.Limits.{IsActWithin}
use Rattle.bp_journal.proofs.ToldLemmas.{number_told, built_told}
use Rattle.bp_journal.proofs.acts.book.Goals as goal

pub returns-in-Some : goal.returns-in-Some
returns-in-Some c =
    let w = c.in-Some.ensures in (
      Do (Book w.0),
      refl,
      w.1,
      record {
        word = refl;
        told =
            built_told (λ k. k ≤ 4294967295) IsActWithin (λ n. Do (Book n)) w.0 c.in-Some.number.value c.in-Some.number.great (λ h. h) (λ h. h)
            (number_told 4294967295 w.0 c.in-Some.number w.2);
      },
    )
