-- Laws over solved flows.
use Rattle.bp_types.specs.Program.{worth}
use Rattle.bp_types.specs.Optimum.{Certifies}
use Rattle.bp_residual.specs.Network.{Priced, prices_of}
use Rattle.bp_flow.specs.Settled.{IsSolvable}
use Rattle.bp_flow.specs.Solvers.{IsSolvedFlow}

-- the allocation of a solved flow and its prices have one value
abbrev pub SolvedFlowsCertify : Type 0
SolvedFlowsCertify = (p : Priced) → IsSolvedFlow p → Certifies p.flow.program (worth p.flow.program p.flow.sell) p.flow.sell (prices_of p)

-- the program of a solved flow has an optimum, and exactly one list of least prices, whether the flow is settled or not
abbrev pub SolvedProgramsAreSolvable : Type 0
SolvedProgramsAreSolvable = (p : Priced) → IsSolvedFlow p → IsSolvable p.flow.program
