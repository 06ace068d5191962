use Rattle.std.proofs.Common.{subst, refl, List}
use Rattle.std.proofs.lemmas.Result.{err_from_is_err_and}
use Rattle.bp_text.specs.Lines.{Given}
use Rattle.bp_text.specs.Reading.{Spells, GivesLines}
use Rattle.bp_text.proofs.WholeLemmas.{whole_text, trailed_text, refused_text}
use Rattle.bp_portfolio.specs.Lists.{FiveNames, Listed, list_lines, IsPortfolio, head_lines, hotel_lines}
use Rattle.bp_portfolio.proofs.list.read_list.Goals as goal

pub returns-in_err-at_end : goal.returns-in_err-at_end
returns-in_err-at_end c =
    let p = err_from_is_err_and c.from_residual-in_err-at_end.result c.from_residual-in_err-at_end.ensures.1 in
    let v : Listed = (c.in_ok-hotels.hotels.items, c.in_ok-hotels.ensures.1) in
    let P : Given → Type 0 = λ g. Spells list_lines IsPortfolio g c.read_lines.new.lines v in
    rw (p.1, p.2) (trailed_text list_lines IsPortfolio c.args.bytes.now c.read_lines.new.lines v _
    (subst P c.new-lines.ensures (record { within = c.in_ok-hotels.ensures.0; gives = c.in_ok-hotels.ensures.2 }))
    c.in_err-at_end.ensures.0 c.in_err-at_end.ensures.1)

pub returns : goal.returns
returns c =
    let v : Listed = (c.in_ok-hotels.hotels.items, c.in_ok-hotels.ensures.1) in
    let P : Given → Type 0 = λ g. Spells list_lines IsPortfolio g c.read_lines.new.lines v in (
      v,
      refl,
      whole_text list_lines IsPortfolio c.args.bytes.now c.read_lines.new.lines v
          (subst P c.new-lines.ensures (record { within = c.in_ok-hotels.ensures.0; gives = c.in_ok-hotels.ensures.2 })) c.in_ok-at_end.ensures,
    )
