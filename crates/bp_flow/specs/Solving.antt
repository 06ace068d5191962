-- What contracts see of a solver.
use Rattle.std.specs.Prelude.{ℕ, List}
use Rattle.bp_residual.specs.Network.{Flow, Priced}

-- a flow with a potential for each node, and how many searches the solver's scratch served
pub record Solving : Type 0 where
  pub flow : Flow
  pub potentials : List ℕ
  pub served : ℕ

-- the flow with its potentials
abbrev pub priced : Solving → Priced
priced s = record { flow = s.flow; potentials = s.potentials }
