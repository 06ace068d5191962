use Rattle.std.proofs.Common.{List, ℕ, subst}
use Rattle.bp_text.specs.Numbers.{IsReadAs}
use Rattle.bp_text.proofs.FormLemmas.{not_empty}
use Rattle.bp_text.proofs.NextLemmas.{number_behind, no_space_behind}
use Rattle.bp_text.proofs.read.one_number.Goals as goal

pub returns-then-text-ne-SPACE : goal.returns-then-text-ne-SPACE
returns-then-text-ne-SPACE c = no_space_behind _ _ c.in-Some.text.now c.in-Some.ensures (λ some first. c.if-text-ne-SPACE.true first)

pub returns : goal.returns
returns c =
    let P : List ℕ → Type 0 = λ digits. IsReadAs digits c.args.greatest c.number.result in
    number_behind _ _ c.in-Some.text.now c.args.greatest c.number.result c.in-Some.ensures (not_empty _ _ c.is_empty.ensures c.if-is_empty.false)
    c.if-text-ne-SPACE.false (subst P c.split_at.ensures.back c.number.ensures)
