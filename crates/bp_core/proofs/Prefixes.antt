-- Prefixes of legal histories, and what holds at every position of one.
use Rattle.std.proofs.Common.{◌≡◌, ℕ, zero, suc, ◌+◌, ◌<◌, ◌≤◌, refl, ap, sym, subst, ◌∙◌, arith, [], ◌∷◌, ◌++◌, length, take}
use Rattle.std.proofs.lemmas.List.{length-take-le, get_or-take, take_more}
use Rattle.bp_types.specs.House.{Inn}
use Rattle.bp_core.specs.declared.line.Line.{Line}
use Rattle.bp_core.specs.Lines.{History, no_line, line_at}
use Rattle.bp_core.specs.Legal.{IsLegal, IsLegalLine}
use Rattle.bp_core.specs.Laws.{PrefixesAreLegal}

pub take_take : (H : History) (i n : ℕ) → i ≤ n → take i (take n H) ≡ take i H
take_take H zero n h = refl
take_take H (suc i) zero h = absurd (omega arith)
take_take [] (suc i) (suc n) h = refl
take_take (x ∷ H) (suc i) (suc n) h = ap (λ ys. x ∷ ys) (take_take H i n (omega arith))

pub line_at-take : (H : History) (i n : ℕ) → i < n → line_at (take n H) i ≡ line_at H i
line_at-take H i n h = get_or-take n H i no_line h

-- one line more of a history
pub take-more : (H : History) (n : ℕ) → n < length H → take (n + 1) H ≡ take n H ++ line_at H n ∷ []
take-more H n h = take_more H n no_line h

pub prefixes_are_legal : PrefixesAreLegal
prefixes_are_legal h H n legal some within =
    let each = length-take-le n H within in
    record {
      some_line = omega (arith, each);
      lines = λ i g.
          let below : i < n = omega (arith, each) in
          let P : History → Type 0 = λ G. IsLegalLine h G (line_at (take n H) i) in
          let Q : Line → Type 0 = λ x. IsLegalLine h (take i H) x in
          subst P (sym (take_take H i n (omega arith))) (subst Q (sym (line_at-take H i n below)) (legal.lines i (omega arith)));
    }

-- what holds before all lines, and after each legal line, holds at each position
pub at_each_position : (h : Inn) (P : History → Type 0) → P [] → ((G : History) (x : Line) → P G → IsLegalLine h G x → P (G ++ x ∷ [])) →
    (H : History) → IsLegal h H → (n : ℕ) → n ≤ length H → P (take n H)
at_each_position h P start more H legal zero within = start
at_each_position h P start more H legal (suc n) within =
    let before = at_each_position h P start more H legal n (omega arith) in
    let next = more (take n H) (line_at H n) before (legal.lines n (omega arith)) in
    let e : take (suc n) H ≡ take n H ++ line_at H n ∷ [] = ap (λ k. take k H) (let f : suc n ≡ n + 1 = omega arith in f) ∙ take-more H n (omega arith) in
    subst P (sym e) next
