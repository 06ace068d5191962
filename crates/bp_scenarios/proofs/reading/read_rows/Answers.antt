use Rattle.std.proofs.Common.{rules, arith, ◌≡◌, ◌++◌, ◌∷◌, [], List, Option, length, subst}
use Rattle.std.specs.Prelude.{Ok, Some}
use Rattle.std.proofs.lemmas.Result.{err_from_is_err_and}
use Rattle.bp_types.specs.declared.change.Change.{Change}
use Rattle.bp_scenarios.specs.declared.row.Row.{Row}
use Rattle.bp_scenarios.specs.Refused.{IsChangeOf}
use Rattle.bp_scenarios.specs.Texts.{rows}
use Rattle.bp_scenarios.specs.Rows.{IsRowRead}
use Rattle.bp_scenarios.proofs.RowLemmas.{count_more}
use Rattle.bp_scenarios.proofs.PlaceLemmas.{refused_row, stopped_row, so_far_more, gives_more, from_start, read_at}
use Rattle.bp_scenarios.proofs.reading.read_rows.Goals as goal

pub returns-in_err-row : goal.returns-in_err-row
returns-in_err-row c =
    let W = IsChangeOf c.args.size.nights c.args.size.stays in
    let p = err_from_is_err_and c.from_residual.result c.from_residual.ensures.1 in
    let s = c.loop-lists.invariant in
    let L : List (List Change) = c.loop-lists.lists.items in
    let size : c.len.result ≡ length L = search rules in
    rw (p.1, p.2) (λ start head.
    refused_row W L start c.loop-lists.lines c.next_row.new.lines _ c.len.result c.loop-lists.changes size s.0 s.1.within
    (from_start W start _ _ (rows L) head s.1.gives) c.in_err-row.ensures)

pub loop-lists-preserved : goal.loop-lists-preserved
loop-lists-preserved c =
    let W = IsChangeOf c.args.size.nights c.args.size.stays in
    let s = c.loop-lists.invariant in
    let L : List (List Change) = c.loop-lists.lists.items in
    let size : c.len.result ≡ length L = search rules in
    let P : Option Row → Type 0 = λ o. IsRowRead W c.len.result c.loop-lists.changes c.loop-lists.lines c.next_row.new.lines (Ok o) in
    let read = read_at W L c.loop-lists.lines c.next_row.new.lines (Ok (Some c.in-Some.row)) c.len.result c.loop-lists.changes size s.0
    (subst P c.in-Some.is c.in_ok-row.ensures) in (
      omega (arith, count_more L c.add.new.lists.items c.in-Some.row c.in_ok-add.ensures, s.0, c.changes_of-changes.ensures),
      so_far_more W c.args.lines.now c.loop-lists.lines c.next_row.new.lines L c.add.new.lists.items c.in-Some.row c.in_ok-add.ensures s.1 read,
    )

pub returns-in_err-add : goal.returns-in_err-add
returns-in_err-add c =
    let W = IsChangeOf c.args.size.nights c.args.size.stays in
    let p = err_from_is_err_and c.from_residual-in_err-add.result c.from_residual-in_err-add.ensures.1 in
    let s = c.loop-lists.invariant in
    let L : List (List Change) = c.loop-lists.lists.items in
    let P : Option Row → Type 0 = λ o. IsRowRead W c.len.result c.loop-lists.changes c.loop-lists.lines c.next_row.new.lines (Ok o) in
    let read = subst P c.in-Some.is c.in_ok-row.ensures in
    let more : List Row = rows L ++ c.in-Some.row ∷ [] in
    rw (p.1, p.2) (λ start head. stopped_row W more start _
    (from_start W start _ _ more head (gives_more W c.args.lines.now c.loop-lists.lines c.next_row.new.lines (rows L) c.in-Some.row s.1.gives read.1)))
