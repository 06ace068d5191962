use Rattle.std.proofs.Common.{◌<◌, ap, sym, subst, arith, length, List, ℕ}
use Rattle.std.proofs.lemmas.Bool.{and_parts, ltb-true}
use Rattle.std.proofs.lemmas.List.FromFn.{length-map-range_with_len}
use Rattle.bp_types.specs.declared.command.Command.TheVariants.{Reprice}
use Rattle.bp_core.specs.Acting.{Diary, MayDo}
use Rattle.bp_core.specs.Instance.{rate_of}
use Rattle.bp_core.proofs.Counts.{has_room}
use Rattle.bp_core.proofs.InStepMore.{in_step_more}
use Rattle.bp_core.proofs.Setting.{reprice_is_legal, reprice_follows}
use Rattle.bp_core.proofs.book.Book.reprice.Goals as goal

pub index_mut-requires : goal.index_mut-requires
index_mut-requires c =
    let may = let P : Diary → Type 0 = λ b. MayDo b c.args.caller (Reprice c.args.stay c.args.rate) in subst P (sym c.self.view_is) c.requires in
    let within : c.args.stay < length c.self.inside.house.stays = ltb-true _ _ (and_parts _ _ may.in_range).0 in
    omega (
      arith,
      within,
      c.self.inside.rates.ok.0,
      ap (λ (l : List ℕ). length l) c.self.invariant.rates_are,
      length-map-range_with_len (rate_of c.self.inside.house c.self.inside.log.lines) 0 (length c.self.inside.house.stays),
    )

pub logged-requires-clause-room : goal.logged-requires-clause-room
logged-requires-clause-room c =
    omega (arith, has_room _ _ c.self.invariant.legal, c.self.invariant.line_room)

pub invariant_of-self : goal.invariant_of-self
invariant_of-self c =
    let may = let P : Diary → Type 0 = λ b. MayDo b c.args.caller (Reprice c.args.stay c.args.rate) in subst P (sym c.self.view_is) c.requires in
    let within : c.args.stay < length c.self.inside.house.stays = ltb-true _ _ (and_parts _ _ may.in_range).0 in
    in_step_more _ _ _ _ _ _ _ _ _ _ _ _ c.self.invariant
    (reprice_is_legal _ _ c.args.caller c.args.stay c.args.rate c.self.invariant.legal may.caller_may may.in_range may.not_full) c.logged.ensures.log
    (reprice_follows _ _ _ _ _ _ c.args.caller c.args.stay c.args.rate c.self.invariant within)
