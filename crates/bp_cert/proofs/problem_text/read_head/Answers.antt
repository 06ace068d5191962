use Rattle.std.proofs.Common.{◌≡◌, ℕ, List, length, subst, sym, arith, refl, ◌∷◌, []}
use Rattle.std.specs.Prelude.{codes}
use Rattle.std.proofs.lemmas.Result.{err_from_is_err_and}
use Rattle.bp_text.specs.Lines.{line_of}
use Rattle.bp_text.specs.Reading.{GivesLines}
use Rattle.bp_text.proofs.KindLemmas.{numbers_refused}
use Rattle.bp_cert.proofs.ProblemLemmas.{problem_nothing, problem_more, problem_refused}
use Rattle.bp_cert.proofs.problem_text.read_head.Goals as goal

pub returns-in_err-word_line : goal.returns-in_err-word_line
returns-in_err-word_line c =
    let p = err_from_is_err_and c.from_residual.result c.from_residual.ensures.1 in
    rw (p.1, p.2) (problem_refused _ _ _ [] 4 _ (problem_nothing c.args.lines.now) refl (numbers_refused _ _ _ _ _ _ c.in_err-word_line.ensures))

pub returns-in_err-nights : goal.returns-in_err-nights
returns-in_err-nights c =
    let p = err_from_is_err_and c.from_residual-in_err-nights.result c.from_residual-in_err-nights.ensures.1 in
    let first = problem_more _ _ _ [] [] (problem_nothing c.args.lines.now) refl tt c.in_ok-word_line.ensures.2 in
    rw (p.1, p.2) (problem_refused _ _ _ ([] ∷ []) 3 _ first refl (numbers_refused _ _ _ _ _ _ c.in_err-nights.ensures))

pub returns-in_err-exact_line : goal.returns-in_err-exact_line
returns-in_err-exact_line c =
    let p = err_from_is_err_and c.from_residual-in_err-exact_line.result c.from_residual-in_err-exact_line.ensures.1 in
    let n : ℕ = c.in_ok-nights.nights in
    let first = problem_more _ _ _ [] [] (problem_nothing c.args.lines.now) refl tt c.in_ok-word_line.ensures.2 in
    let second = problem_more _ _ _ ([] ∷ []) (n ∷ []) first refl c.in_ok-nights.ensures.1 c.in_ok-nights.ensures.2 in
    rw (p.1, p.2) (problem_refused _ _ _ ([] ∷ (n ∷ []) ∷ []) 2 _ second refl (numbers_refused _ _ _ _ _ _ c.in_err-exact_line.ensures))

pub returns-in_err-stays : goal.returns-in_err-stays
returns-in_err-stays c =
    let p = err_from_is_err_and c.from_residual-in_err-stays.result c.from_residual-in_err-stays.ensures.1 in
    let n : ℕ = c.in_ok-nights.nights in
    let rooms : List ℕ = c.exact_line.new.into.items in
    let first = problem_more _ _ _ [] [] (problem_nothing c.args.lines.now) refl tt c.in_ok-word_line.ensures.2 in
    let second = problem_more _ _ _ ([] ∷ []) (n ∷ []) first refl c.in_ok-nights.ensures.1 c.in_ok-nights.ensures.2 in
    let third = problem_more _ _ _ ([] ∷ (n ∷ []) ∷ []) rooms second c.in_ok-exact_line.ensures.0 c.in_ok-exact_line.ensures.1 c.in_ok-exact_line.ensures.2 in
    rw (p.1, p.2) (problem_refused _ _ _ ([] ∷ (n ∷ []) ∷ rooms ∷ []) 1 _ third refl (numbers_refused _ _ _ _ _ _ c.in_err-stays.ensures))

pub returns : goal.returns
returns c =
    let n : ℕ = c.in_ok-nights.nights in
    let k : ℕ = c.in_ok-stays.stays in
    let rooms : List ℕ = c.exact_line.new.into.items in
    let first = problem_more _ _ _ [] [] (problem_nothing c.args.lines.now) refl tt c.in_ok-word_line.ensures.2 in
    let second = problem_more _ _ _ ([] ∷ []) (n ∷ []) first refl c.in_ok-nights.ensures.1 c.in_ok-nights.ensures.2 in
    let third = problem_more _ _ _ ([] ∷ (n ∷ []) ∷ []) rooms second c.in_ok-exact_line.ensures.0 c.in_ok-exact_line.ensures.1 c.in_ok-exact_line.ensures.2 in
    let fourth = problem_more _ _ _ ([] ∷ (n ∷ []) ∷ rooms ∷ []) (k ∷ []) third refl c.in_ok-stays.ensures.1 c.in_ok-stays.ensures.2 in
    let nights = c.in_ok-nights.ensures.1 0 0 (omega arith) in
    let count = c.in_ok-stays.ensures.1 0 0 (omega arith) in
    let each : length rooms ≡ n = c.in_ok-exact_line.ensures.0 in
    let P : ℕ → Type 0 = λ m. GivesLines c.args.lines.now c.number_line-2.new.lines
    (codes "problem 1" ∷ line_of (codes "nights") (m ∷ []) ∷ line_of (codes "rooms") rooms ∷ line_of (codes "stays") (k ∷ []) ∷ [])
    c.number_line-2.new.lines.rest in (
      record {
        some_night = omega (arith, nights.0, each);
        nights = omega (arith, nights.1, each);
        few_rooms = c.in_ok-exact_line.ensures.1.1;
        few_stays =
            count.1;
      },
      subst P (sym each) fourth.gives,
    )
