use Rattle.std.proofs.Common.{◌∙◌, ◌<◌, ap, arith, length, List, ℕ}
use Rattle.std.proofs.lemmas.List.FromFn.{length-map-range_with_len}
use Rattle.bp_core.specs.Acting.{Diary}
use Rattle.bp_core.specs.Instance.{forecast_of}
use Rattle.bp_core.proofs.Effects.{number_read}
use Rattle.bp_core.proofs.book.Book.forecast.Goals as goal

pub index-requires : goal.index-requires
index-requires c =
    omega (
      arith,
      c.requires,
      ap (λ (b : Diary). length b.house.stays) c.self.view_is,
      c.self.inside.forecasts.ok.0,
      ap (λ (l : List ℕ). length l) c.self.invariant.forecasts_are,
      length-map-range_with_len (forecast_of c.self.inside.house c.self.inside.log.lines) 0 (length c.self.inside.house.stays),
    )

pub returns : goal.returns
returns c =
    let within : c.args.stay < length c.self.inside.house.stays = omega (arith, c.requires, ap (λ (b : Diary). length b.house.stays) c.self.view_is) in
    number_read (forecast_of c.self.inside.house c.self.inside.log.lines) (length c.self.inside.house.stays)
    c.args.stay _ c.self.inside.forecasts.items c.self.invariant.forecasts_are within c.index.ensures ∙
    ap (λ (b : Diary). forecast_of b.house b.history c.args.stay) c.self.view_is
