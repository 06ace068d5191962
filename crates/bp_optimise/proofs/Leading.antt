-- Passes that have only looked.
use Rattle.std.proofs.Common.{◌≡◌, ℕ, ◌≤◌, List, [], ◌∷◌, ◌++◌, length, refl, sym, ap, subst, ◌∙◌, arith, append_assoc, append-nil, length-append, All}
use Rattle.std.proofs.lemmas.List.Elements.{All-append, All-nil, All-cons, All-weaker}
use Rattle.bp_turn.specs.Prefix.{IsPrefix}
use Rattle.bp_core.specs.declared.line.Line.{Line}
use Rattle.bp_core.specs.Lines.{History, calls}
use Rattle.bp_core.specs.Legal.{IsLegal}
use Rattle.bp_desk.specs.Passes.{PassState}
use Rattle.bp_desk.specs.Calling.{HasRead}
use Rattle.bp_optimise.specs.Following.{HasLooked, HasCaughtUp, AddsTurns}

pub prefix_le : (G H : History) → IsPrefix G H → length G ≤ length H
prefix_le G H (rest, is) = let n = ap length is in omega (arith, length-append G rest)

one_turn : (t n : ℕ) → t ≤ n → All (λ k. k ≤ n) (t ∷ [])
one_turn t n le = All-cons (λ k. k ≤ n) t [] le (All-nil (λ k. k ≤ n))

pub looked : (old new : PassState) → HasRead old new → HasLooked old new
looked old new r =
    let house : new.house ≡ old.house = ap (λ (p : PassState). p.house) r.pass in
    let caller : new.caller ≡ old.caller = ap (λ (p : PassState). p.caller) r.pass in
    let made : new.calls ≡ old.calls = ap (λ (p : PassState). p.calls) r.pass in
    record {
      begins = r.begins;
      desk = ap (λ (p : PassState). p.desk) r.pass;
      house = house;
      caller = caller;
      calls = made;
      free = ap (λ (p : PassState). p.free) r.pass;
      ended = ap (λ (p : PassState). p.ended) r.pass;
      turns = (length new.seen ∷ [], ap (λ (p : PassState). p.turns) r.pass, one_turn (length new.seen) (length new.seen) (omega arith));
      own = λ o. subst (λ c. calls new.seen c ≡ new.calls) (sym caller) (r.own ∙ sym made);
      legal = λ l. subst (λ h. IsLegal h new.seen) (sym house) r.legal;
    }

pub turns_later : (n m : ℕ) (ts : List ℕ) → n ≤ m → All (λ t. t ≤ n) ts → All (λ t. t ≤ m) ts
turns_later n m ts le all = All-weaker (λ t. t ≤ n) (λ t. t ≤ m) (λ t h. omega (arith, h, le)) ts all

pub adds_turns : (a b c : PassState) → IsPrefix b.seen c.seen → AddsTurns a b → AddsTurns b c → AddsTurns a c
adds_turns a b c begins x y = (
  x.0 ++ y.0,
  y.1 ∙ ap (λ l. l ++ y.0) x.1 ∙ append_assoc a.turns x.0 y.0,
  All-append (λ t. t ≤ length c.seen) x.0 y.0 (turns_later (length b.seen) (length c.seen) x.0 (prefix_le b.seen c.seen begins) x.2) y.2,
)

pub prefix_on : (X : Type 0) (a b c : List X) → IsPrefix a b → IsPrefix b c → IsPrefix a c
prefix_on X a b c x y = (x.0 ++ y.0, y.1 ∙ ap (λ l. l ++ y.0) x.1 ∙ append_assoc a x.0 y.0)

pub looked_again : (a b c : PassState) → HasLooked a b → HasLooked b c → HasLooked a c
looked_again a b c x y = record {
  begins = prefix_on Line a.seen b.seen c.seen x.begins y.begins;
  desk = y.desk ∙ x.desk;
  house = y.house ∙ x.house;
  caller = y.caller ∙ x.caller;
  calls = y.calls ∙ x.calls;
  free = y.free ∙ x.free;
  ended = y.ended ∙ x.ended;
  turns = adds_turns a b c y.begins x.turns y.turns;
  own = λ o. y.own (x.own o);
  legal = λ l. y.legal (x.legal l);
}

-- no look at all
pub looked_not : (p : PassState) → HasLooked p p
looked_not p = record {
  begins = ([], sym (append-nil p.seen));
  desk = refl;
  house = refl;
  caller = refl;
  calls = refl;
  free = refl;
  ended = refl;
  turns = ([], sym (append-nil p.turns), All-nil (λ t. t ≤ length p.seen));
  own = λ o. o;
  legal = λ l. l;
}

pub caught_up_looked : (old new : PassState) (position : ℕ) → HasCaughtUp old new position → HasLooked old new
caught_up_looked old new position c = looked_again old c.first new (looked old c.first c.looked) c.between
