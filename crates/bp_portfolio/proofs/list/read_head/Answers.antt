use Rattle.std.proofs.Common.{ℕ, [], ◌∷◌, arith, refl}
use Rattle.std.specs.Prelude.{codes}
use Rattle.std.proofs.lemmas.Result.{err_from_is_err_and}
use Rattle.bp_portfolio.proofs.ListRows.{Numbers, AreFew}
use Rattle.bp_portfolio.proofs.ListLemmas.{list_nothing, list_more, list_refused, numbers_refused}
use Rattle.bp_portfolio.proofs.list.read_head.Goals as goal

pub returns-in_err-word_line : goal.returns-in_err-word_line
returns-in_err-word_line c =
    let p = err_from_is_err_and c.from_residual.result c.from_residual.ensures.1 in
    rw (p.1, p.2) (list_refused _ _ _ [] 3 _ (list_nothing c.args.lines.now) refl
    (numbers_refused _ _ _ (λ _. Unit {0}) _ _ _ (λ ns fine. tt) c.in_err-word_line.ensures))

pub returns-in_err-hotels : goal.returns-in_err-hotels
returns-in_err-hotels c =
    let p = err_from_is_err_and c.from_residual-in_err-hotels.result c.from_residual-in_err-hotels.ensures.1 in
    let first = list_more _ _ _ [] (Numbers []) (list_nothing c.args.lines.now) refl tt c.in_ok-word_line.ensures.2 in
    rw (p.1, p.2) (list_refused _ _ _ (Numbers [] ∷ []) 2 _ first refl (numbers_refused _ _ _ AreFew _ _ _ (λ ns fine. fine) c.in_err-hotels.ensures))

pub returns : goal.returns
returns c =
    let k : ℕ = c.in_ok-hotels.hotels in
    let first = list_more _ _ _ [] (Numbers []) (list_nothing c.args.lines.now) refl tt c.in_ok-word_line.ensures.2 in
    let second = list_more _ _ _ (Numbers [] ∷ []) (Numbers (k ∷ [])) first refl c.in_ok-hotels.ensures.1 c.in_ok-hotels.ensures.2 in
    (c.in_ok-hotels.ensures.1 0 0 (omega arith), second.gives)
