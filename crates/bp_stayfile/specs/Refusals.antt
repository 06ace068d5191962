-- Refusals of a table.
use Rattle.bp_stayfile.specs.declared.error.TableRefusal.{TableRefusal}
use Rattle.bp_stayfile.specs.declared.error.TableError.{TableError}
use Rattle.bp_stayfile.specs.declared.error.TableError.TheVariants.{Refused, Memory}

-- P holds of the refusal, where the error is one
abbrev pub IfRefused : TableError → (TableRefusal → Type 0) → Type 0
IfRefused (Refused refusal) P = P refusal
IfRefused Memory P = Unit {0}
