use Rattle.std.proofs.Common.{◌≡◌, ℕ, ◌∷◌, List, subst}
use Rattle.std.specs.Prelude.{MatchBool}
use Rattle.bp_text.specs.Numbers.{spelled}
use Rattle.bp_text.specs.Words.{Word}
use Rattle.bp_journal.proofs.EntryLineLemmas.{placed}
use Rattle.bp_journal.proofs.entry_line.is_place.Goals as goal

pub returns-in-Some : goal.returns-in-Some
returns-in-Some c =
    let w = c.in-Some.ensures in
    let P : ℕ → Type 0 = λ p. MatchBool c.is_just.result (c.args.words.now ≡ spelled p ∷ c.number.new.self) ((more : List Word) →
    c.args.words.now ≡ spelled p ∷ more → ⊥) in
    subst P c.from-wanted.ensures
    (placed c.args.words.now c.number.new.self c.from-wanted.result w.0 c.in-Some.number c.is_just.result w.1 w.2 c.is_just.ensures)
