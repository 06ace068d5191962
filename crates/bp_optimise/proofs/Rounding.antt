-- A round whose board was answered.
use Rattle.std.proofs.Common.{[], ◌∷◌, ◌++◌, ap, ◌∙◌, append_assoc, Result, Ok, Err, OnErr}
use Rattle.bp_turn.specs.Prefix.{IsPrefix}
use Rattle.bp_core.specs.declared.call.Call.{Call}
use Rattle.bp_core.specs.declared.call.Answer.{Answer}
use Rattle.bp_core.specs.Acting.{line_of}
use Rattle.bp_core.specs.Lines.{History}
use Rattle.bp_desk.specs.Passes.{PassState}
use Rattle.bp_desk.specs.Calling.{IsCalled, diary}
use Rattle.bp_optimise.proofs.Following.{goes_later}
use Rattle.bp_desk.proofs.Answered.{by_answer}
use Rattle.bp_optimise.specs.Following.{Optimising, GoesWith}

-- what was seen before a call begins what is seen after it
pub called_begins : (old new : PassState) (call : Call) (answer : Answer) → IsCalled old new call answer → IsPrefix old.seen new.seen
called_begins old new call answer c =
    let first = c.begins in
    by_answer (diary old.house c.found) (diary old.house new.seen) old.caller call answer (IsPrefix old.seen new.seen) c.answered
    (λ l.
    let x = line_of old.caller call l.reply in
    (first.0 ++ x ∷ [], ap (λ d. d.history) l.adds ∙ ap (λ (H : History). H ++ x ∷ []) first.1 ∙ append_assoc old.seen first.0 (x ∷ [])))
    (λ off same. (first.0, ap (λ d. d.history) same ∙ first.1))

-- an optimiser goes with the pass after a call too
pub goes_after : (old new : PassState) (call : Call) (answer : Answer) (o : Optimising) → IsCalled old new call answer → GoesWith old.house old.seen o →
    GoesWith new.house new.seen o
goes_after old new call answer o c g =
    goes_later old.house new.house old.seen new.seen o (ap (λ (p : PassState). p.house) c.pass) (called_begins old new call answer c) g

pub on_err : (A E : Type 0) (r : Result A E) (P : Type 0) → P → OnErr r P
on_err A E (Ok x) P p = tt
on_err A E (Err e) P p = p
