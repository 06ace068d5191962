-- Turns that only read, one after another, and an instance that is carried along them.
use Rattle.std.proofs.Common.{◌≡◌, ℕ, ◌≤◌, List, [], ◌∷◌, ◌++◌, length, sym, ap, subst, ◌∙◌, arith, append_assoc, append-nil}
use Rattle.std.proofs.lemmas.List.Elements.{All-append, All-nil, All-cons, All-weaker}
use Rattle.bp_types.specs.House.{Inn, opening}
use Rattle.std.specs.Prelude.{vec_capacity}
use Rattle.bp_turn.proofs.Prefixes.{prefix_le}
use Rattle.bp_core.specs.Lines.{History, calls}
use Rattle.bp_core.specs.Legal.{IsLegal}
use Rattle.bp_core.specs.Instance.{instance_at}
use Rattle.bp_core.proofs.Growing.{instance_stays, instance_before_lines}
use Rattle.bp_desk.specs.declared.carried.Carried.{Carried}
use Rattle.bp_desk.specs.Passes.{PassState}
use Rattle.bp_desk.specs.Calling.{HasRead}
use Rattle.bp_desk.specs.Carrying.{IsCarried}
use Rattle.bp_desk.specs.Submitting.{HasReadOn}

-- one turn
pub read_once : (old new : PassState) → HasRead old new → HasReadOn old new
read_once old new r =
    let P : ℕ → Type 0 = λ t. t ≤ length new.seen in
    record {
      more = length new.seen ∷ [];
      begins = r.begins;
      pass = r.pass;
      lengths = All-cons P (length new.seen) [] (omega arith) (All-nil P);
      own = r.own;
      legal = r.legal;
    }

-- no turn
pub read_none : (p : PassState) → IsLegal p.house p.seen → calls p.seen p.caller ≡ p.calls → HasReadOn p p
read_none p legal own = record {
  more = [];
  begins = ([], sym (append-nil p.seen));
  pass = ap (λ (ts : List ℕ). record p { turns = ts }) (sym (append-nil p.turns));
  lengths = All-nil (λ t. t ≤ length p.seen);
  own = own;
  legal = legal;
}

-- some turns, and then some more
pub read_again : (a b c : PassState) → HasReadOn a b → HasReadOn b c → HasReadOn a c
read_again a b c x y =
    let caller : b.caller ≡ a.caller = ap (λ (p : PassState). p.caller) x.pass in
    let house : b.house ≡ a.house = ap (λ (p : PassState). p.house) x.pass in
    let made : b.calls ≡ a.calls = ap (λ (p : PassState). p.calls) x.pass in
    record {
      more = x.more ++ y.more;
      begins = (x.begins.0 ++ y.begins.0, y.begins.1 ∙ ap (λ l. l ++ y.begins.0) x.begins.1 ∙ append_assoc a.seen x.begins.0 y.begins.0);
      pass = y.pass ∙ ap (λ (p : PassState). record p { seen = c.seen; turns = p.turns ++ y.more }) x.pass ∙
          ap (λ (ts : List ℕ). record a { seen = c.seen; turns = ts }) (append_assoc a.turns x.more y.more);
      lengths = All-append (λ t. t ≤ length c.seen) x.more y.more (All-weaker (λ t. t ≤ length b.seen) (λ t. t ≤ length c.seen) (λ t h. let n =
          prefix_le b.seen c.seen y.begins in omega (arith, h, n)) x.more x.lengths) y.lengths;
      own = subst (λ n. calls c.seen n ≡ a.calls) caller (y.own ∙ made);
      legal = subst (λ h. IsLegal h c.seen) house y.legal;
    }

-- what is carried along a history is carried along a longer one
pub carried_later : (old new : PassState) (c : Carried) → HasReadOn old new → IsCarried old.house old.seen c → IsCarried new.house new.seen c
carried_later old new c r at =
    let n = prefix_le old.seen new.seen r.begins in let w = at.within in
    let house : new.house ≡ old.house = ap (λ (p : PassState). p.house) r.pass in
    record {
      within = omega (arith, n, w);
      is_there = at.is_there ∙
          sym (ap (λ h. instance_at h new.seen c.position) house ∙ instance_stays old.house old.seen new.seen c.position r.begins at.within);
      room = at.room;
    }

-- and back, where its position was seen
pub carried_before : (old new : PassState) (c : Carried) → HasReadOn old new → c.position ≤ length old.seen → IsCarried new.house new.seen c →
    IsCarried old.house old.seen c
carried_before old new c r within at =
    let house : new.house ≡ old.house = ap (λ (p : PassState). p.house) r.pass in
    record {
      within = within;
      is_there = at.is_there ∙ ap (λ h. instance_at h new.seen c.position) house ∙ instance_stays old.house old.seen new.seen c.position r.begins within;
      room = at.room;
    }

-- the instance of the house is the one at position 0
pub carried_first : (h : Inn) (H : History) (c : Carried) → c.position ≡ 0 → c.instance ≡ opening h → 2 ≤ vec_capacity c.changes → IsCarried h H c
carried_first h H c at is room = record {
  within = omega (arith, at);
  is_there = is ∙ sym (instance_before_lines h H) ∙ ap (instance_at h H) (sym at);
  room = room;
}
