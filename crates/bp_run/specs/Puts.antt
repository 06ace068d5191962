-- What a sink tells over a call, and what follows for a text.
use Rattle.std.specs.Prelude.{◌≡◌, ◌⊎◌, ℕ, List, Option, Result, IsErrOf}
use Rattle.bp_edges.specs.Counts.{Rose}
use Rattle.bp_edges.specs.Writing.{Writes, Appended, AppendedPrefix}
use Rattle.bp_edges.specs.declared.sink.WriteError.{WriteError}
use Rattle.bp_edges.specs.declared.sink.WriteError.TheVariants.{Failed}
use Rattle.bp_run.specs.Lines.{said, end_status}
use Rattle.bp_run.specs.declared.status.Status.{Status}
use Rattle.bp_run.specs.declared.status.Status.TheVariants.{CutOff, NoMemory}
use Rattle.bp_run.specs.declared.end.End.{End}

-- what a sink tells at one moment: what was written to it, its count, and that no later put fails
pub record Sunk : Type 1 where
  pub written : Option (List ℕ)
  pub faults : ℕ
  pub steady : Type 0

-- the moments before a call and after it
pub record Puts : Type 1 where
  pub before : Sunk
  pub now : Sunk

-- the same, by what a sink tells
abbrev pub onto : {K : Type 0} → (K → Option (List ℕ)) → (K → ℕ) → (K → Type 0) → K → K → Puts
onto written faults steady old new = record {
  before = record { written = written old; faults = faults old; steady = steady old };
  now = record { written = written new; faults = faults new; steady = steady new };
}

-- what a writer says of a text: it was written, or a first part of it, and it failed only where the sink did, which a
-- steady one does not
pub record PutsText (out : Puts) (text : List ℕ) (result : Result (Unit {0}) WriteError) : Type 0 where
  pub writes : Writes out.before.written out.now.written text result
  pub failed : IsErrOf result Failed → Rose out.before.faults out.now.faults
  pub unfailing : out.before.steady → IsErrOf result Failed → ⊥

-- the sink failed, which a steady one does not, and it has a first part of the text
pub record IsCutOff (out : Puts) (text : List ℕ) : Type 0 where
  pub rose : Rose out.before.faults out.now.faults
  pub unsteady : out.before.steady → ⊥
  pub written : AppendedPrefix out.before.written out.now.written text

-- what is written of an end, by the status of the call: its whole text, or a first part where the sink failed or where
-- there was no memory
abbrev pub Prints : Puts → End → Status → Type 0
Prints out end status =
    ((status ≡ end_status end) × Appended out.before.written out.now.written (said end))
    ⊎ ((status ≡ CutOff) × IsCutOff out (said end))
    ⊎ ((status ≡ NoMemory) × AppendedPrefix out.before.written out.now.written (said end))
