use Rattle.std.proofs.Common.{◌≡◌, ℕ, List}
use Rattle.std.proofs.lemmas.Bool.Decides.{Decides-eqb}
use Rattle.std.proofs.lemmas.Slice.Eq.{slice_eq-Decides}
use Rattle.bp_text.proofs.NextLemmas.{other_word}
use Rattle.bp_text.proofs.read.word_line.Goals as goal

-- the bytes were compared, and differ
pub returns-else-eq : goal.returns-else-eq
returns-else-eq c =
    let line : List ℕ = c.in-Some.line.now in
    let word : List ℕ = c.args.word.now in
    let decides = slice_eq-Decides Decides-eqb line word c.eq.result c.eq.ensures in
    other_word word _ _ line _ c.in-Some.ensures c.given-place.ensures.value (λ (same : line ≡ word). let h = decides.1 same in let no = c.if-eq.false in
    absurd (cc))
