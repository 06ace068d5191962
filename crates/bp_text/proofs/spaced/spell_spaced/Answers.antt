use Rattle.std.proofs.Common.{◌≡◌, ℕ, ◌+◌, ◌-◌, ◌^◌, ◌<◌, ◌≤◌, ◌∷◌, ◌++◌, ◌∙◌, ap, sym, arith, length, drop, get_or, append-nil}
use Rattle.std.specs.Fmt.{decimal}
use Rattle.std.proofs.lemmas.Fmt.{length-decimal-le}
use Rattle.std.proofs.lemmas.List.{get_or-take, get_or-replicate, drop_more, drop_all}
use Rattle.bp_text.proofs.NumberLemmas.{spelled-decimal}
use Rattle.bp_text.proofs.spaced.spell_spaced.Goals as goal

-- a machine word has 20 digits at most, so a space stands before them
short : (n : ℕ) → n < 2 ^ 64 → length (decimal n) ≤ 20
short n fits = length-decimal-le 20 n (omega arith) (omega (arith, fits)) fits

pub write_digits-start-requires : goal.write_digits-start-requires
write_digits-start-requires c = (omega (arith, short c.args.number c.ranges.number.fits), omega arith)

pub overflow_sub-result : goal.overflow_sub-result
overflow_sub-result c = omega (arith, short c.args.number c.ranges.number.fits, c.write_digits-start.ensures.start)

-- before the digits stands what the bytes were filled with, and nothing behind them
pub returns-clause-spelled : goal.returns-clause-spelled
returns-clause-spelled c =
    let n = c.args.number in
    let start = c.write_digits-start.result in
    let now = c.write_digits-start.new.buf in
    let some : 1 ≤ start = overflow_sub-result c in
    let within : start - 1 < length now = omega (arith, some, short n c.ranges.number.fits, c.write_digits-start.ensures.start, c.write_digits-start.auto.buf) in
    let next : (start - 1) + 1 ≡ start = omega (arith, some) in
    let space : get_or now (start - 1) 0 ≡ 32 = sym (get_or-take start now (start - 1) 0 (omega (arith, some))) ∙
    ap (λ xs. get_or xs (start - 1) 0) c.write_digits-start.ensures.before ∙ get_or-take start _ (start - 1) 0 (omega (arith, some)) ∙
    get_or-replicate 21 (start - 1) 32 0 (omega (arith, within, c.write_digits-start.auto.buf)) in
    let digits : drop start now ≡ decimal n = c.write_digits-start.ensures.written ∙ append-nil (decimal n) in
    drop_more now (start - 1) 0 within ∙ ap (λ x. x ∷ drop ((start - 1) + 1) now) space ∙ ap (λ i. 32 ∷ drop i now) next ∙
    ap (λ xs. 32 ∷ xs) (digits ∙ sym (spelled-decimal n (omega (arith, c.ranges.number.fits))))
