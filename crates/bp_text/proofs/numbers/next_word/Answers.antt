use Rattle.std.proofs.Common.{◌≡◌, ℕ, ◌<◌, ◌≤◌, List, length, slice_index, take, drop, ap, subst, sym, ◌∙◌}
use Rattle.bp_text.specs.Forms.{IsWordAhead}
use Rattle.bp_text.proofs.FormLemmas.{word_is_ahead}
use Rattle.bp_text.proofs.numbers.next_word.Goals as goal

pub returns : goal.returns
returns c =
    let text = c.args.text.now in
    let n : ℕ = c.length_to.result in
    let P : List ℕ → Type 0 = λ xs. (n ≤ length xs) × ((k : ℕ) → k < n → slice_index xs k ≡ 32 → ⊥) × (n < length xs → slice_index xs n ≡ 32) in
    let ahead = subst P c.split_at.ensures.back (c.length_to.ensures.within, c.length_to.ensures.none, c.length_to.ensures.stop) in
    let word : take n (drop 1 text) ≡ c.split_at-2.result.0.now = ap (take n) (sym c.split_at.ensures.back) ∙ sym c.split_at-2.ensures.front in
    let more : drop n (drop 1 text) ≡ c.split_at-2.result.1.now = ap (drop n) (sym c.split_at.ensures.back) ∙ sym c.split_at-2.ensures.back in
    let Q : List ℕ → Type 0 = λ w. IsWordAhead text w c.split_at-2.result.1.now in
    let R : List ℕ → Type 0 = λ m. IsWordAhead text (take n (drop 1 text)) m in
    subst Q word (subst R more (word_is_ahead text n c.requires c.if-text-ne-SPACE.false ahead.0 ahead.1 ahead.2))
