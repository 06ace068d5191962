use Rattle.std.proofs.Common.{◌≡◌, ℕ, List, length, subst, sym, arith, map, ◌++◌}
use Rattle.std.proofs.lemmas.Result.{err_from_is_err_and}
use Rattle.bp_text.specs.Reading.{GivesLines}
use Rattle.bp_text.proofs.StageLemmas.{more_lines}
use Rattle.bp_portfolio.specs.Lists.{FiveNames, head_lines, names_line, IsManyHotels}
use Rattle.bp_portfolio.proofs.ListLemmas.{hotels_read, end_refused, whole_list}
use Rattle.bp_portfolio.proofs.list.read_lines.Goals as goal

pub returns-in_err-hotels : goal.returns-in_err-hotels
returns-in_err-hotels c =
    let p = err_from_is_err_and c.from_residual-in_err-hotels.result c.from_residual-in_err-hotels.ensures.1 in
    rw (p.1, p.2) (c.in_err-hotels.ensures c.args.lines.now c.in_ok-count.ensures.1)

pub returns-in_err-word_line : goal.returns-in_err-word_line
returns-in_err-word_line c =
    let p = err_from_is_err_and c.from_residual-in_err-word_line.result c.from_residual-in_err-word_line.ensures.1 in
    let hotels : List FiveNames = c.in_ok-hotels.hotels.items in
    let counted : length hotels ≡ c.in_ok-count.count = c.in_ok-hotels.ensures.0 in
    let Q : ℕ → Type 0 = λ n. GivesLines c.args.lines.now c.read_head.new.lines (head_lines n) c.read_head.new.lines.rest in
    rw (p.1, p.2) (end_refused hotels _ _ _ _
    (hotels_read (length hotels) 0 hotels _ _ (subst IsManyHotels (sym counted) c.in_ok-count.ensures.0) c.in_ok-hotels.ensures.1 (omega arith)
    (more_lines _ _ _ _ _ (subst Q (sym counted) c.in_ok-count.ensures.1) c.in_ok-hotels.ensures.2)) c.in_err-word_line.ensures)

pub returns : goal.returns
returns c =
    let hotels : List FiveNames = c.in_ok-hotels.hotels.items in
    let counted : length hotels ≡ c.in_ok-count.count = c.in_ok-hotels.ensures.0 in
    let Q : ℕ → Type 0 = λ n. GivesLines c.args.lines.now c.read_head.new.lines (head_lines n) c.read_head.new.lines.rest in (
      subst IsManyHotels (sym counted) c.in_ok-count.ensures.0,
      c.in_ok-hotels.ensures.1,
      whole_list hotels _ _ _ (more_lines _ _ _ _ _ (subst Q (sym counted) c.in_ok-count.ensures.1) c.in_ok-hotels.ensures.2) c.in_ok-word_line.ensures.2,
    )
