use Rattle.std.proofs.Common.{◌∙◌, sym, ap, arith, map, slice_get, Some}
use Rattle.std.specs.Option.{option_map}
use Rattle.std.proofs.lemmas.Option.{slice_get-get_or, slice_get_past}
use Rattle.std.specs.Arc.{arc_value}
use Rattle.bp_core.specs.declared.line.Line.{Line}
use Rattle.bp_core.specs.Log.{LogView}
use Rattle.bp_core.proofs.LogLemmas.{entries-lines_of}
use Rattle.bp_core.proofs.log.Log.entry.Goals as goal

pub returns-then-place-len : goal.returns-then-place-len
returns-then-place-len c =
    sym (ap (λ (l : LogView). option_map (λ (x : Line). x.entry) (slice_get l.lines c.args.place)) (sym c.self.view_is) ∙
    entries-lines_of c.self.inside.entries.items (map arc_value c.self.inside.boards.items) c.args.place ∙
    slice_get-get_or c.self.inside.entries.items c.args.place c.index.result.now (omega (arith, c.self.inside.entries.ok.0)) ∙
    ap Some (sym c.index.ensures))

pub returns-else-place-len : goal.returns-else-place-len
returns-else-place-len c =
    sym (ap (λ (l : LogView). option_map (λ (x : Line). x.entry) (slice_get l.lines c.args.place)) (sym c.self.view_is) ∙
    entries-lines_of c.self.inside.entries.items (map arc_value c.self.inside.boards.items) c.args.place ∙
    slice_get_past c.self.inside.entries.items c.args.place (omega (arith, c.self.inside.entries.ok.0)))
