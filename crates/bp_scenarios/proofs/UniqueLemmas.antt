-- A list of changes has one answer.
use Rattle.std.proofs.Common.{◌≡◌, ℕ, List, ap, sym, ◌∙◌, Some, None}
use Rattle.bp_types.specs.declared.change.Change.{Change}
use Rattle.bp_types.specs.Program.{Program}
use Rattle.bp_types.specs.Changes.{changed_by_all}
use Rattle.bp_types.specs.Laws.{OptimumIsUnique, LeastPricesAreUnique}
use Rattle.bp_scenarios.specs.declared.outcome.Outcome.{Outcome}
use Rattle.bp_scenarios.specs.declared.outcome.Outcome.TheVariants.{Solved, Refused}
use Rattle.bp_scenarios.specs.Outcomes.{IsOutcome}
use Rattle.bp_scenarios.specs.Laws.{OutcomeIsUnique}

pub outcome_is_unique : OptimumIsUnique → LeastPricesAreUnique → OutcomeIsUnique
outcome_is_unique optimum least p changes (Solved v xs) (Solved w ys) a b =
    let q = changed_by_all p changes in
    ap (λ n. Solved n xs) (optimum q v w a.optimum b.optimum) ∙ ap (Solved w) (least q xs ys a.least b.least)
outcome_is_unique optimum least p changes (Solved v xs) (Refused n) a b = absurd (let e : None ≡ Some n = sym a.allowed ∙ b in cc)
outcome_is_unique optimum least p changes (Refused m) (Solved w ys) a b = absurd (let e : None ≡ Some m = sym b.allowed ∙ a in cc)
outcome_is_unique optimum least p changes (Refused m) (Refused n) a b = let e : Some m ≡ Some n = sym a ∙ b in let f : m ≡ n = cc in ap Refused f
