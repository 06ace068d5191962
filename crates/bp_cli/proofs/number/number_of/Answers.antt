use Rattle.std.proofs.Common.{◌≢◌, ℕ, List, Option, MatchOption, subst, sym, ◌∙◌, arith, get_or}
use Rattle.std.proofs.lemmas.Bool.{eqb-false}
use Rattle.std.proofs.lemmas.Str.Parse.{parse_plain}
use Rattle.bp_cli.specs.Words.{IsNumber}
use Rattle.bp_cli.proofs.NumberLemmas.{numerals, number_read}
use Rattle.bp_cli.proofs.number.number_of.Goals as goal

pub returns : goal.returns
returns c =
    let bs : List ℕ = c.args.word.now in
    let first : get_or bs 0 0 ≢ 43 =
    eqb-false (get_or bs 0 0) 43 (sym (c.starts_with.ensures.byte (omega arith) (omega arith) (λ w o h. h)) ∙ c.if-starts_with.false) in
    let read = number_read bs c.parse.result (omega arith) (parse_plain numerals 32 bs c.parse.result c.parse.ensures.value.0 first) in
    let P : Option ℕ → Type 0 = λ o. MatchOption o ((n : ℕ) → IsNumber bs n → ⊥) (IsNumber bs) in
    subst P (sym c.ok.ensures.value) read
