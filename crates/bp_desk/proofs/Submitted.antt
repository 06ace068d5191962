-- What a submission keeps of its pass, whatever it is answered.
use Rattle.std.proofs.Common.{◌≡◌, ℕ, [], ◌∷◌, ◌++◌, sym, ap, subst, ◌∙◌, append_assoc, Result, Ok, Err}
use Rattle.bp_types.specs.Claim.{Claim, IsCertificateOf}
use Rattle.bp_turn.specs.Prefix.{IsPrefix}
use Rattle.bp_core.specs.declared.call.Call.{Call}
use Rattle.bp_core.specs.declared.call.Answer.{Answer}
use Rattle.bp_core.specs.Lines.{History, calls}
use Rattle.bp_core.specs.Legal.{IsLegal}
use Rattle.bp_core.specs.Instance.{instance_at}
use Rattle.bp_core.specs.Acting.{line_of}
use Rattle.bp_desk.specs.declared.submitting.SubmitError.{SubmitError}
use Rattle.bp_desk.specs.declared.submitting.SubmitError.TheVariants.{Position, Memory, NotOptimal, Superseded, PublicationsFull}
use Rattle.bp_desk.specs.Passes.{PassState}
use Rattle.bp_desk.specs.Calling.{HasRead, IsCalled, AddsCall, diary}
use Rattle.bp_desk.specs.Submitting.{HasReadOn, HasGoneOn, IsPublished, Publishes, GoesOn, IsSubmitted}
use Rattle.bp_desk.proofs.Answered.{by_answer}
use Rattle.bp_desk.proofs.ReadingOn.{read_once}

-- what was seen before a call begins what is seen after it
called_begins : (old new : PassState) (call : Call) (answer : Answer) → IsCalled old new call answer → IsPrefix old.seen new.seen
called_begins old new call answer c =
    let first = c.begins in
    by_answer (diary old.house c.found) (diary old.house new.seen) old.caller call answer (IsPrefix old.seen new.seen) c.answered
    (λ l.
    let x = line_of old.caller call l.reply in
    (first.0 ++ x ∷ [], ap (λ d. d.history) l.adds ∙ ap (λ (H : History). H ++ x ∷ []) first.1 ∙ append_assoc old.seen first.0 (x ∷ [])))
    (λ off same. (first.0, ap (λ d. d.history) same ∙ first.1))

gone_by_reads : (old new : PassState) → HasReadOn old new → HasGoneOn old new
gone_by_reads old new r = record {
  begins = r.begins;
  pass = r.pass ∙ sym (ap (λ (q : PassState). record old { seen = new.seen; calls = q.calls; turns = q.turns }) r.pass);
  own = r.own ∙ sym (ap (λ (q : PassState). q.calls) r.pass);
  legal = r.legal;
}

gone_by_call : (old new : PassState) (call : Call) (answer : Answer) → IsCalled old new call answer → HasGoneOn old new
gone_by_call old new call answer c = record {
  begins = called_begins old new call answer c;
  pass = c.pass ∙ sym (ap (λ (q : PassState). record old { seen = new.seen; calls = q.calls; turns = q.turns }) c.pass);
  own = sym (ap (λ (q : PassState). q.calls) c.pass);
  legal = c.legal;
}

gone_again : (a b c : PassState) → HasGoneOn a b → HasGoneOn b c → HasGoneOn a c
gone_again a b c x y =
    let caller : b.caller ≡ a.caller = ap (λ (p : PassState). p.caller) x.pass in
    let house : b.house ≡ a.house = ap (λ (p : PassState). p.house) x.pass in
    record {
      begins = (x.begins.0 ++ y.begins.0, y.begins.1 ∙ ap (λ l. l ++ y.begins.0) x.begins.1 ∙ append_assoc a.seen x.begins.0 y.begins.0);
      pass = y.pass ∙ ap (λ (p : PassState). record p { seen = c.seen; calls = c.calls; turns = c.turns }) x.pass;
      own = subst (λ n. calls c.seen n ≡ c.calls) caller y.own;
      legal = subst (λ h. IsLegal h c.seen) house y.legal;
    }

gone_by_publication : (first new : PassState) (position : ℕ) (certificate : Claim) (answer : Answer) → IsPublished first new position certificate answer →
    HasGoneOn first new
gone_by_publication first new position certificate answer p =
    gone_again first p.middle new (gone_by_reads first p.middle p.read_on) (gone_by_call p.middle new p.call answer p.called)

gone_by_position : (old first new : PassState) → HasGoneOn old first → new ≡ first → HasGoneOn old new
gone_by_position old first new g same = subst (HasGoneOn old) (sym same) g

gone_by : (old first new : PassState) (position : ℕ) (certificate : Claim) (result : Result ℕ SubmitError) → HasRead old first →
    GoesOn first new position certificate result → HasGoneOn old new
gone_by old first new position certificate result looked on =
    let once : HasGoneOn old first = gone_by_reads old first (read_once old first looked) in go once result on
  where
    go : HasGoneOn old first → (r : Result ℕ SubmitError) → GoesOn first new position certificate r → HasGoneOn old new
    go once (Ok number) x = gone_again old first new once (gone_by_publication first new position certificate _ x.1)
    go once (Err (Position n)) x = gone_by_position old first new once x.2
    go once (Err Memory) x = gone_again old first new once (gone_by_reads first new x.1)
    go once (Err (NotOptimal verdict)) x = gone_again old first new once (gone_by_reads first new x.1)
    go once (Err (Superseded last changes)) x = gone_again old first new once (gone_by_publication first new position certificate _ x.1)
    go once (Err PublicationsFull) x = gone_again old first new once (gone_by_publication first new position certificate _ x.1)

pub submitted : (old first new : PassState) (position : ℕ) (certificate : Claim) (result : Result ℕ SubmitError) → HasRead old first →
    GoesOn first new position certificate result → IsSubmitted old new position certificate result
submitted old first new position certificate result looked on = record {
  gone_on = gone_by old first new position certificate result looked on;
  first = first;
  looked = looked;
  goes_on = on;
}

-- what was published
pub published : (first middle new : PassState) (position : ℕ) (certificate : Claim) (call : Call) (answer : Answer) → HasReadOn first middle →
    IsCertificateOf (instance_at first.house first.seen position) certificate →
    Publishes call (record { position = position; certificate = certificate }) 1 → IsCalled middle new call answer → AddsCall middle new call answer →
    IsPublished first new position certificate answer
published first middle new position certificate call answer read_on certifies publishes called adds = record {
  middle = middle;
  read_on = read_on;
  certifies = certifies;
  call = call;
  publishes = publishes;
  called = called;
  adds = adds;
}
