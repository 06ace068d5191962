-- From what a call of the program says of words to what the words give.
use Rattle.std.proofs.Common.{◌≡◌, ◌≢◌, ◌⊎◌, ℕ, ◌≤◌, ◌++◌, refl, subst, inl, inr, arith, List, [], Some}
use Rattle.std.proofs.lemmas.Bool.{cases_lt}
use Rattle.bp_edges.specs.Memory.{ShelfState, files_of}
use Rattle.bp_edges.specs.Schedule.{IsOver}
use Rattle.bp_cli.specs.Words.{Word}
use Rattle.bp_run.specs.Puts.{Puts}
use Rattle.bp_run.specs.Ends.{Outcome, Finishes, Serves, HoldsAll}
use Rattle.bp_c.specs.Calls.{IsOutcomeOf, IsGiven, told}

-- what was written to an empty sink is the text of the outcome
outcome_of : (words : List Word) (before now : ShelfState) (out : Puts) (status : ℕ) (text : List ℕ)
    → out.before.written ≡ Some [] → out.now.written ≡ Some text → Finishes words (record { before = told before; now = told now }) out status →
    IsOutcomeOf words before.files status text
outcome_of words before now out status text empty filled finishes =
    let grown : out.now.written ≡ Some ([] ++ finishes.text) = finishes.written.grown [] empty in
    let is : finishes.text ≡ text = (cc) in
    let Q : List ℕ → Type 0 = λ t. Outcome words (record { before = told before; now = told now }) status t in
    record { before = before; now = now; holds = refl; outcome = subst Q is finishes.outcome }

-- a status that a call may answer
status_known : (status : ℕ) → status ≤ 6 → status ≢ 4 → status ≢ 5 → (status ≤ 3) ⊎ (status ≡ 6)
status_known status known not_four not_five = elim (cases_lt status 4) [
  | inl small ↦ inl (omega (arith, small))
  | inr more ↦ inr (omega (arith, more, known, not_four, not_five))
]

-- what words give whose files are there, by a call with a shelf that never fails and an empty sink that never does
pub given : (words : List Word) (before now : ShelfState) (out : Puts) (status : ℕ) (text : List ℕ)
    → out.before.written ≡ Some [] → out.now.written ≡ Some text → IsOver before.schedule → out.before.steady
    → HoldsAll words (Some (files_of before.files)) → status ≤ 6 → Serves words (record { before = told before; now = told now }) out status
    → IsGiven words before.files status text
given words before now out status text empty filled steady sink holds few serves = record {
  known = status_known status few (serves.steady_shelf steady holds) (serves.steady_sink sink);
  outcome = λ small. outcome_of words before now out status text empty filled
      (serves.done (λ five. omega (arith, small, five)) (λ six. omega (arith, small, six)));
}
