use Rattle.std.proofs.Common.{◌≡◌, ℕ, ◌+◌, ◌<◌, ◌≤◌, ◌∙◌, arith, length, slice_index, ap, sym, refl, inl, inr}
use Rattle.std.proofs.lemmas.Bool.{cases_eq}
use Rattle.bp_ledger.proofs.NodeLemmas.{at_same, at_other}
use Rattle.bp_ledger.proofs.tree.lay.Goals as goal

pub loop-n-preserved : goal.loop-n-preserved
loop-n-preserved c =
    let at : ℕ = c.args.first + c.loop-n.n in
    let len = c.loop-n.auto.numbers in
    record {
      laid = λ k g. elim (cases_eq k c.loop-n.n) [
        | inl same ↦ at_same c.loop-n.numbers (c.args.first + k) at _ (omega arith) (omega arith) ∙ sym (ap (λ j. slice_index c.args.values.now j) same)
        | inr other ↦ at_other c.loop-n.numbers (c.args.first + k) at _ (omega arith) ∙ c.loop-n.invariant.laid k (omega arith)
      ];
      before = λ k g. at_other c.loop-n.numbers k at _ (omega arith) ∙ c.loop-n.invariant.before k g;
      past = λ k g. at_other c.loop-n.numbers k at _ (omega arith) ∙ c.loop-n.invariant.past k (omega arith);
    }
