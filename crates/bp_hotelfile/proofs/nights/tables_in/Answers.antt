use Rattle.std.proofs.Common.{◌≡◌, ◌∙◌, sym, ap, refl, List, [], ◌∷◌, map, Ok}
use Rattle.toml.specs.View.{view, items_of}
use Rattle.toml.specs.declared.value.Value.{Value}
use Rattle.bp_hotelfile.specs.Nights.{night_table, night_tables}
use Rattle.bp_hotelfile.proofs.nights.tables_in.Goals as goal

night_tables-items : (vs : List Value) → night_tables (items_of (map view vs)) ≡ map (λ v. night_table (view v)) vs
night_tables-items [] = refl
night_tables-items (v ∷ vs) = ap (λ ts. night_table (view v) ∷ ts) (night_tables-items vs)

pub returns-in_ok-night_tables-in-Some-clause-ok : goal.returns-in_ok-night_tables-in-Some-clause-ok
returns-in_ok-night_tables-in-Some-clause-ok c =
    rw (← c.in-Some.ensures)
    (ap (λ ts. Ok ts) (night_tables-items c.in-Some.values.now.items ∙ ap (map (λ v. night_table (view v))) (sym c.deref.ensures.value) ∙
    sym c.in_ok-night_tables-in-Some.ensures))
