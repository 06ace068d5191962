-- The vectors of a caller from its enrolment to the end of a run.
use Rattle.std.proofs.Common.{◌≡◌, ℕ, [], ◌∷◌, ◌++◌, refl, sym, ap, ◌∙◌, arith}
use Rattle.std.proofs.lemmas.List.Elements.{filter-append}
use Rattle.bp_types.specs.House.{Inn}
use Rattle.bp_turn.specs.Prefix.{IsPrefix}
use Rattle.bp_core.specs.declared.line.Reply.TheVariants.{Done}
use Rattle.bp_core.specs.declared.call.Call.TheVariants.{Enrol}
use Rattle.bp_core.specs.declared.call.Answer.TheVariants.{Logged}
use Rattle.bp_core.specs.Lines.{History, is_by, calls}
use Rattle.bp_core.specs.Legal.{IsLegal}
use Rattle.bp_desk.specs.Passes.{PassState, newcomer}
use Rattle.bp_desk.specs.Calling.{IsCalled}
use Rattle.bp_optimise.specs.Vectors.{OwnVectors}
use Rattle.bp_optimise.specs.Acts.{IsActor}
use Rattle.bp_optimise.proofs.Owning.{own_quiet, own_longer}
use Rattle.bp_optimise.proofs.Doing.{call_acts}

no_first : (xs ys : History) → xs ++ ys ≡ [] → xs ≡ []
no_first [] ys e = refl
no_first (x ∷ xs) ys e = absurd (cc)

-- a caller with no call has no vector
pub own_none : (h : Inn) (least c : ℕ) (H : History) → calls H c ≡ [] → OwnVectors h least H c
own_none h least c H none = own_quiet h least c H [] none (λ i lt is. absurd (omega (arith, lt)))

-- a pass that was just enrolled is an actor's
pub enrolled_acts : (least number : ℕ) (opener p : PassState) → IsLegal opener.house opener.seen → IsCalled (newcomer opener number) p Enrol (Logged Done) →
    IsActor least p
enrolled_acts least number opener p legal c =
    let none : calls opener.seen number ≡ [] =
    no_first (calls opener.seen number) (calls c.begins.0 number)
    (sym (ap (λ H. calls H number) c.begins.1 ∙ filter-append (is_by number) opener.seen c.begins.0) ∙ c.own) in
    (call_acts least (newcomer opener number) p Enrol (Logged Done) c (λ r e t. absurd (cc))).keeps
    (record { legal = legal; own = none; vectors = own_none opener.house least number opener.seen none })

-- at the end of a run the vectors of a caller are those that its pass knew
pub vectors_at_end : (least : ℕ) (left : PassState) (H : History) → IsActor least left → IsPrefix left.seen H → calls H left.caller ≡ left.calls →
    OwnVectors left.house least H left.caller
vectors_at_end least left H a begins same = own_longer left.house least left.caller left.seen H begins (same ∙ sym a.own) a.vectors
