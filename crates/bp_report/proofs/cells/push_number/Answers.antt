use Rattle.std.proofs.Common.{◌≡◌, ℕ, ◌^◌, ◌<◌, List, ◌++◌, ◌∙◌, sym, subst, arith}
use Rattle.std.specs.Prelude.{OnOk}
use Rattle.bp_text.proofs.NumberLemmas.{spelled-decimal}
use Rattle.bp_report.specs.Columns.{right}
use Rattle.bp_report.proofs.cells.push_number.Goals as goal

-- the digits that were formatted spell the number
pub returns : goal.returns
returns c =
    let small : c.args.number < 10 ^ 64 = omega (arith, c.ranges.number.fits) in
    let P : List ℕ → Type 0 = λ bytes. OnOk c.push_right.result (c.push_right.new.line.items ≡ c.args.line.now.items ++ right c.args.width bytes) in
    subst P (c.as_bytes.ensures.value ∙ c.format.ensures.text ∙ sym (spelled-decimal c.args.number small)) c.push_right.ensures
