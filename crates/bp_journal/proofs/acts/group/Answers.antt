use Rattle.std.proofs.Common.{refl, ◌∙◌, ap, ◌∷◌}
use Rattle.bp_text.specs.Numbers.{spelled}
use Rattle.bp_core.specs.declared.line.Act.TheVariants.{Do}
use Rattle.bp_types.specs.declared.command.Command.TheVariants.{Group}
use Rattle.bp_journal.specs.Limits.{IsActWithin}
use Rattle.bp_journal.proofs.ToldLemmas.{four_told}
use Rattle.bp_journal.proofs.EntryLemmas.{no_group}
use Rattle.bp_journal.proofs.acts.group.Goals as goal

pub returns-in-None : goal.returns-in-None
returns-in-None c = let w = c.in-Some.ensures in no_group c.args.words.now c.two.new.words w.0 w.1 w.2 c.in-None.ensures

pub returns-in-Some-two : goal.returns-in-Some-two
returns-in-Some-two c =
    let w = c.in-Some.ensures in
    let v = c.in-Some-two.ensures in (
      Do (Group (record { from = w.0; to = w.1 }) v.0 v.1),
      refl,
      w.2 ∙ ap (λ ws. spelled w.0 ∷ spelled w.1 ∷ ws) v.2,
      record {
        word = refl;
        told = four_told IsActWithin (λ m n k l. Do (Group (record { from = m; to = n }) k l))
            4294967295 4294967295 18446744073709551615 18446744073709551615 w.0 w.1 v.0 v.1 c.in-Some.from c.in-Some.to c.in-Some-two.rooms c.in-Some-two.amount
            c.is_either-great.result c.is_either.result c.is_either-in-Some-two.result (λ h. (h.0.0, h.0.1, h.1.0, h.1.1)) (λ h. ((h.0, h.1), (h.2, h.3)))
            w.3 w.4 v.3 v.4 c.is_either.ensures c.is_either-in-Some-two.ensures c.is_either-great.ensures;
      },
    )
