use Rattle.std.proofs.Common.{◌≡◌, ℕ, ◌+◌, ◌<◌, ◌∙◌, ap, sym, arith, List, [], ◌∷◌, length, drop}
use Rattle.std.proofs.lemmas.Bool.{cond-false, eqb-true, eqb-false}
use Rattle.std.proofs.lemmas.List.{take_all, take_rest, drop-drop}
use Rattle.bp_text.specs.Words.{Word, split}
use Rattle.bp_text.proofs.WordLemmas.{split_whole, split_at_space}
use Rattle.bp_text.proofs.words.Words.next.Goals as goal

-- the last word: no space stands in what is left
pub returns-then-is_empty : goal.returns-then-is_empty
returns-then-is_empty c =
    let text : List ℕ = c.self.inside.text.now in
    let n : ℕ = c.length_to.result in
    let none = eqb-true (length c.split_at.result.1.now) 0 (sym c.is_empty.ensures ∙ c.if-is_empty.true) in
    let all : n ≡ length text = omega (arith, none, c.split_at.ensures.back_len) in
    sym c.self.view_is ∙ cond-false c.self.inside.done [] (split text) c.if-self.false
    ∙ split_whole text (λ k less. c.length_to.ensures.none k (omega arith))
    ∙ ap (λ (w : Word). w ∷ []) (sym (c.split_at.ensures.front ∙ take_all n text (omega arith)))

-- a word up to the first space
pub returns : goal.returns
returns c =
    let text : List ℕ = c.self.inside.text.now in
    let n : ℕ = c.length_to.result in
    let some = eqb-false (length c.split_at.result.1.now) 0 (sym c.is_empty.ensures ∙ c.if-is_empty.false) in
    let within : n < length text = omega (arith, some, c.split_at.ensures.back_len) in
    sym c.self.view_is ∙ cond-false c.self.inside.done [] (split text) c.if-self.false
    ∙ split_at_space text n within c.length_to.ensures.none (c.length_to.ensures.stop within)
    ∙ ap (λ (w : Word). w ∷ split (drop (n + 1) text)) (sym c.split_at.ensures.front)
    ∙ ap (λ (ws : List Word). c.split_at.result.0.now ∷ ws)
    (ap split (sym (take_rest c.split_at.result.1.now 1 ∙ ap (drop 1) c.split_at.ensures.back ∙ drop-drop 1 n text)) ∙
    sym (cond-false c.self.inside.done [] _ c.if-self.false))
