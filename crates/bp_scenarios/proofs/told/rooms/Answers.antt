use Rattle.std.proofs.Common.{refl, subst, ◌∙◌, ap, ◌∷◌}
use Rattle.bp_types.specs.declared.change.Change.TheVariants.{Rooms}
use Rattle.bp_text.specs.Numbers.{spelled}
use Rattle.bp_text.specs.Words.{IsCounted}
use Rattle.bp_scenarios.specs.Texts.{direction}
use Rattle.bp_scenarios.proofs.ChangeLemmas.{rooms_told, no_units}
use Rattle.bp_scenarios.proofs.told.rooms.Goals as goal

pub returns-in-Some-number : goal.returns-in-Some-number
returns-in-Some-number c =
    let w = c.in-Some.ensures in
    let v = c.in-Some-number.ensures in (
      Rooms (record { from = w.0; to = w.1 }) c.in-Some-is_up.up v.0,
      refl,
      w.2 ∙ ap (λ ws. spelled w.0 ∷ spelled w.1 ∷ ws) (c.in-Some-is_up.ensures ∙ ap (λ ws. direction c.in-Some-is_up.up ∷ ws) v.1),
      rooms_told c.args.size.nights c.args.size.stays w.0 w.1 v.0 c.in-Some-is_up.up c.in-Some.from c.in-Some.to c.in-Some-number.units
          c.is_no_move-great.result w.3 (subst (λ k. IsCounted k w.1 c.in-Some.to) c.from.ensures w.4) v.2 c.is_no_move-great.ensures,
    )

pub returns-in-None : goal.returns-in-None
returns-in-None c =
    let w = c.in-Some.ensures in
    no_units c.args.words.now c.two.new.words c.is_up.new.words w.0 w.1 c.in-Some-is_up.up w.2 c.in-Some-is_up.ensures c.in-None.ensures
