use Rattle.std.proofs.Common.{◌≡◌, length, subst, ◌∙◌, rules}
use Rattle.bp_text.specs.declared.found.Found.{Found}
use Rattle.bp_text.specs.Lines.{line_of}
use Rattle.bp_text.specs.Forms.{IsFound}
use Rattle.bp_text.proofs.NextLemmas.{great_is_refused, wrong_count}
use Rattle.bp_text.proofs.read.exact_line.Goals as goal

pub returns-in-Great : goal.returns-in-Great
returns-in-Great c =
    let P : Found → Type 0 = λ f. IsFound (line_of c.args.word.now) c.in-Some.line.now c.args.bounds c.numbers_behind.new.into.items f in
    let found = subst P c.in-Great.is c.in_ok-numbers_behind.ensures in
    great_is_refused _ _ _ _ _ found.0 _ _ _ c.in-Some.ensures c.given-place.ensures.value found.1 found.2 found.3 c.wrong_numbers.ensures

pub returns-in-Whole-2 : goal.returns-in-Whole-2
returns-in-Whole-2 c =
    let P : Found → Type 0 = λ f. IsFound (line_of c.args.word.now) c.in-Some.line.now c.args.bounds c.numbers_behind.new.into.items f in
    let found = subst P c.in-Whole-2.is c.in_ok-numbers_behind.ensures in
    let long : c.len.result ≡ length c.numbers_behind.new.into.items = search rules in
    wrong_count _ _ _ _ _ _ _ c.in-Some.ensures c.given-place.ensures.value found.0 (λ each. c.if-len-bounds.false (long ∙ each))
