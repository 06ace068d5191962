use Rattle.std.proofs.Common.{◌≤◌, ap, arith, length, map}
use Rattle.std.specs.Arc.{arc_value}
use Rattle.bp_core.specs.Changes.{changes_between}
use Rattle.bp_core.specs.Lines.{History}
use Rattle.bp_core.specs.Log.{LogView, lines_of}
use Rattle.bp_core.proofs.LogLemmas.{counts-length, count_read, changes_between-in}
use Rattle.bp_core.proofs.log.Log.changes_between.Goals as goal

pub index-requires : goal.index-requires
index-requires c =
    omega (arith, c.self.inside.counts.ok.0, counts-length _ _ _ _ _ c.self.invariant.0, ap (λ (l : LogView). length l.lines) c.self.view_is, c.requires.within)

pub index-requires-2 : goal.index-requires-2
index-requires-2 c =
    omega (
      arith,
      c.self.inside.counts.ok.0,
      counts-length _ _ _ _ _ c.self.invariant.0,
      ap (λ (l : LogView). length l.lines) c.self.view_is,
      c.requires.within,
      c.requires.ordered,
    )

pub overflow_sub-result : goal.overflow_sub-result
overflow_sub-result c =
    let H : History = lines_of c.self.inside.entries.items (map arc_value c.self.inside.boards.items) in
    let last : c.args.until ≤ length H = omega (arith, ap (λ (l : LogView). length l.lines) c.self.view_is, c.requires.within) in
    let first : c.args.from ≤ length H = omega (arith, last, c.requires.ordered) in
    omega (
      arith,
      count_read H _ _ _ _ c.args.until _ c.self.invariant.0 last c.index.ensures,
      count_read H _ _ _ _ c.args.from _ c.self.invariant.0 first c.index-2.ensures,
      changes_between-in H c.args.from c.args.until c.requires.ordered,
    )

pub returns : goal.returns
returns c =
    let H : History = lines_of c.self.inside.entries.items (map arc_value c.self.inside.boards.items) in
    let last : c.args.until ≤ length H = omega (arith, ap (λ (l : LogView). length l.lines) c.self.view_is, c.requires.within) in
    let first : c.args.from ≤ length H = omega (arith, last, c.requires.ordered) in
    let same = ap (λ (l : LogView). changes_between l.lines c.args.from c.args.until) c.self.view_is in
    omega (
      arith,
      same,
      count_read H _ _ _ _ c.args.until _ c.self.invariant.0 last c.index.ensures,
      count_read H _ _ _ _ c.args.from _ c.self.invariant.0 first c.index-2.ensures,
      changes_between-in H c.args.from c.args.until c.requires.ordered,
    )
