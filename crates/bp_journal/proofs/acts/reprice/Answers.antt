use Rattle.std.proofs.Common.{refl}
use Rattle.bp_core.specs.declared.line.Act.TheVariants.{Do}
use Rattle.bp_types.specs.declared.command.Command.TheVariants.{Reprice}
use Rattle.bp_journal.specs.Limits.{IsActWithin}
use Rattle.bp_journal.proofs.ToldLemmas.{two_told}
use Rattle.bp_journal.proofs.acts.reprice.Goals as goal

pub returns-in-Some : goal.returns-in-Some
returns-in-Some c =
    let w = c.in-Some.ensures in (
      Do (Reprice w.0 w.1),
      refl,
      w.2,
      record {
        word = refl;
        told =
            two_told IsActWithin (λ m n. Do (Reprice m n)) 4294967295 18446744073709551615 w.0 w.1 c.in-Some.first c.in-Some.second c.is_either-great.result
            (λ h. h) (λ h. h) w.3 w.4 c.is_either-great.ensures;
      },
    )
