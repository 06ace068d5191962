use Rattle.std.proofs.Common.{◌≡◌, ℕ, List, length, slice_index, ◌++◌, ◌∷◌, [], ap, sym, subst, ◌∙◌, arith, length-append, Some}
use Rattle.std.specs.Prelude.{slice_get}
use Rattle.bp_sheets.specs.declared.band.Band.{Band}
use Rattle.bp_sheets.specs.Bands.{IsBand}
use Rattle.bp_sheets.proofs.Members.{each_of_more}
use Rattle.bp_sheets.proofs.band.bands_of.Goals as goal

pub loop-night-preserved : goal.loop-night-preserved
loop-night-preserved g c =
    let Has : ℕ → Band → Type 0 = λ n b. IsBand c.args.solver.now.flow.program (slice_index c.args.prices.now n) n b in
    let before = c.loop-night.bands.items in
    let band = c.in_ok-band.band in
    let last : Has (length before) band = subst (λ n. Has n band) (sym c.loop-night.invariant.so_many) c.in_ok-band.ensures in
    let Each : List Band → Type 0 = λ l. (n : ℕ) (b : Band) → slice_get l n ≡ Some b → Has n b in
    let each : Each (before ++ band ∷ []) = each_of_more Has before band c.loop-night.invariant.each last in
    record {
      so_many = omega (arith, ap (λ (l : List Band). length l) c.in_ok-push.ensures.items, length-append before (band ∷ []), c.loop-night.invariant.so_many);
      each = subst Each (sym c.in_ok-push.ensures.items) each;
    }
