-- The first vector, and the optimisers that start from it.
use Rattle.std.proofs.Common.{◌≡◌, ℕ, ◌≤◌, [], length, take, Result, Ok, Err, IfOk, refl, sym, ap, subst, ◌∙◌, arith}
use Rattle.bp_types.specs.House.{Inn, opening}
use Rattle.bp_types.specs.Program.{Program}
use Rattle.bp_types.specs.Optimum.{AreLeastPrices}
use Rattle.bp_board.specs.Posted.{Posted}
use Rattle.bp_flow.specs.Solving.{Solving}
use Rattle.bp_core.specs.declared.line.Act.TheVariants.{Publish}
use Rattle.bp_core.specs.Instance.{instance_of}
use Rattle.bp_core.specs.Acting.{opening_line}
use Rattle.bp_core.proofs.Openings.{instance_at_start}
use Rattle.bp_core.proofs.Growing.{instance_before_lines}
use Rattle.bp_optimise.specs.Following.{Optimising, GoesWith}
use Rattle.bp_desk_run.specs.Beginnings.{OpensWith, StartsFrom}

pub ok_weaker : {A E : Type 0} (P Q : A → Type 0) (r : Result A E) → ((a : A) → P a → Q a) → IfOk r P → IfOk r Q
ok_weaker P Q (Ok a) f h = f a h
ok_weaker P Q (Err e) f h = tt

-- a board with the least prices of the house as it opens
pub opens_with : (house : Inn) (b : Posted) (p : Program) → b.position ≡ 0 → p ≡ opening house → AreLeastPrices p b.certificate.prices →
    OpensWith house (opening_line b)
opens_with house b p at is least = record {
  by = refl;
  at_start = ap Publish at;
  vector = record {
    position = b.position;
    publishes = refl;
    claim = b.certificate;
    claims = refl;
    prices = subst (λ (q : Program). AreLeastPrices q b.certificate.prices) (is ∙ sym (instance_at_start house) ∙
        sym (ap (λ n. instance_of house (take n [])) at)) least;
    enough = omega arith;
  };
}

-- an optimiser at position 0 starts from its solver's program
pub starts_from : (p : Program) (s : Solving) (o : Optimising) → s.flow.program ≡ p → o ≡ record { solver = s; position = 0 } → StartsFrom p o
starts_from p s o solves is house seen opens = subst (GoesWith house seen) (sym is) (record {
  within = omega arith;
  program = solves ∙ opens ∙ sym (instance_before_lines house seen);
})
