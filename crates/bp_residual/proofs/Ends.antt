-- The ends of the arcs: no change moves them, and they tell the tails of the hops.
use Rattle.std.proofs.Common.{
  ◌≡◌,
  ℕ,
  ◌+◌,
  ◌-◌,
  ◌<◌,
  ◌≤◌,
  refl,
  ap,
  ◌∙◌,
  sym,
  subst,
  arith,
  Bool,
  true,
  false,
  List,
  length,
  slice_index_or,
  slice_set,
  inl,
  inr,
  get_or-set_same,
  get_or-set_other,
  length-set,
}
use Rattle.std.proofs.lemmas.Bool.{cases_eq, cases_lt, cond-true, cond-false, lt-ltb, le-ltb}
use Rattle.std.proofs.lemmas.List.Elements.{All-weaker}
use Rattle.bp_types.specs.declared.stay.Span.{Span}
use Rattle.bp_types.specs.declared.stay.Stay.{Stay}
use Rattle.bp_types.specs.declared.change.Change.{Change}
use Rattle.bp_types.specs.declared.change.Change.TheVariants.{Rooms, Demand, Rate}
use Rattle.bp_types.specs.Program.{Program, no_stay, stay_at}
use Rattle.bp_types.specs.Limits.{IsWithinLimits}
use Rattle.bp_types.specs.Changes.{changed, with_forecast, with_rate}
use Rattle.bp_types.proofs.RoomLemmas.{length-rooms_moved}
use Rattle.bp_residual.specs.declared.hop.Hop.{Hop}
use Rattle.bp_residual.specs.Network.{sell_more, sell_less, spare_more, spare_less, tail, step_of, arcs}
use Rattle.bp_residual.specs.Index.{Shape, AreEnds, AreNodes, AreHopsOf, AreHopsAt, LeavesAt, end_at, tail_at}

-- programs with the same nights, stays and spans have the same ends
pub same_ends : (p q : Program) (s : Shape) → length q.rooms ≡ length p.rooms → length q.stays ≡ length p.stays →
    ((j : ℕ) → j < length p.stays → (stay_at q j).span ≡ (stay_at p j).span) → AreEnds p s → AreEnds q s
same_ends p q s nights stays spans ends =
    let at : (n : ℕ) → end_at s.ends (length q.stays + n) ≡ end_at s.ends (length p.stays + n) = λ n. ap (λ k. end_at s.ends (k + n)) stays in
    record {
      nodes = omega (arith, ends.nodes, nights);
      each = omega (arith, ends.each, nights, stays);
      stay = λ j h. ends.stay j (omega (arith, stays)) ∙ sym (spans j (omega (arith, stays)));
      night = λ n h. at n ∙ ends.night n (omega (arith, nights));
    }

-- a stay replaced by one of the same span
same_span : (stays : List Stay) (j : ℕ) (other : Stay) (i : ℕ) → other.span ≡ (slice_index_or stays j no_stay).span → i < length stays →
    (slice_index_or (slice_set stays j other) i no_stay).span ≡ (slice_index_or stays i no_stay).span
same_span stays j other i same h =
    elim (cases_eq i j) [
      | inl e ↦
          let P : ℕ → Type 0 = λ k. (slice_index_or (slice_set stays j other) k no_stay).span ≡ (slice_index_or stays k no_stay).span in
          subst P (sym e) (ap (λ (s : Stay). s.span) (get_or-set_same stays j other no_stay (omega (arith, e, h))) ∙ same)
      | inr ne ↦ ap (λ (s : Stay). s.span) (get_or-set_other stays j i other no_stay ne)
    ]

pub changed_ends : (p : Program) (s : Shape) (c : Change) → AreEnds p s → AreEnds (changed p c) s
changed_ends p s (Rooms span up units) ends = same_ends p (changed p (Rooms span up units)) s (length-rooms_moved p.rooms span up units) refl (λ j h. refl) ends
changed_ends p s (Demand stay value) ends =
    let other : Stay = with_forecast (stay_at p stay) value in
    same_ends p (changed p (Demand stay value)) s refl (length-set p.stays stay other) (λ j h. same_span p.stays stay other j refl h) ends
changed_ends p s (Rate stay value) ends =
    let other : Stay = with_rate (stay_at p stay) value in
    same_ends p (changed p (Rate stay value)) s refl (length-set p.stays stay other) (λ j h. same_span p.stays stay other j refl h) ends

-- the same after a change that a call made
pub ends_after : (p q : Program) (s : Shape) (c : Change) → q ≡ changed p c → AreEnds p s → AreEnds q s
ends_after p q s c is ends = let P : Program → Type 0 = λ r. AreEnds r s in subst P (sym is) (changed_ends p s c ends)

pub ends_of_rooms : (p q : Program) (s : Shape) → q.stays ≡ p.stays → length q.rooms ≡ length p.rooms → AreEnds p s → AreEnds q s
ends_of_rooms p q s stays nights ends =
    same_ends p q s nights (ap (λ (ss : List Stay). length ss) stays) (λ j h. ap (λ (ss : List Stay). (slice_index_or ss j no_stay).span) stays) ends

-- the node that a hop leaves, by the ends of its arc
pub tail_by_ends : (p : Program) (s : Shape) (arc : ℕ) (b : Bool) → AreEnds p s → arc < arcs p →
    tail p (step_of p (record { arc = arc; forward = b })) ≡ tail_at s.ends (record { arc = arc; forward = b })
tail_by_ends p s arc b ends h =
    elim (cases_lt arc (length p.stays)) [
      | inl stay ↦ by_stay b stay
      | inr night ↦ by_night b night
    ]
  where
    by_stay : (b : Bool) → arc < length p.stays → tail p (step_of p (record { arc = arc; forward = b })) ≡ tail_at s.ends (record { arc = arc; forward = b })
    by_stay true stay = ap (tail p) (cond-true _ (sell_more arc) (spare_more (arc - length p.stays)) (lt-ltb _ _ stay)) ∙
        sym (ap (λ (z : Span). z.from) (ends.stay arc stay))
    by_stay false stay = ap (tail p) (cond-true _ (sell_less arc) (spare_less (arc - length p.stays)) (lt-ltb _ _ stay)) ∙
        sym (ap (λ (z : Span). z.to) (ends.stay arc stay))

    place : length p.stays ≤ arc → end_at s.ends arc ≡ record { from = arc - length p.stays; to = arc - length p.stays + 1 }
    place night = let e : length p.stays + (arc - length p.stays) ≡ arc = omega arith in
        ap (end_at s.ends) (sym e) ∙ ends.night (arc - length p.stays) (omega arith)

    by_night : (b : Bool) → length p.stays ≤ arc → tail p (step_of p (record { arc = arc; forward = b })) ≡ tail_at s.ends (record { arc = arc; forward = b })
    by_night true night = ap (tail p) (cond-false _ (sell_more arc) (spare_more (arc - length p.stays)) (le-ltb _ _ night)) ∙
        sym (ap (λ (z : Span). z.from) (place night))
    by_night false night = ap (tail p) (cond-false _ (sell_less arc) (spare_less (arc - length p.stays)) (le-ltb _ _ night)) ∙
        sym (ap (λ (z : Span). z.to) (place night))

pub hops_by_ends : (p : Program) (s : Shape) (v : ℕ) (hops : List Hop) → AreEnds p s → AreHopsOf s.ends v hops → AreHopsAt p v hops
hops_by_ends p s v hops ends found =
    record {
      leave = All-weaker (LeavesAt s.ends v) (λ h. (h.arc < arcs p) × (tail p (step_of p h) ≡ v)) (λ h l. let in_range : h.arc < arcs p =
          omega (arith, l.0, ends.each) in (in_range, tail_by_ends p s h.arc h.forward ends in_range ∙ l.1)) hops found.leave;
      found = λ h in_range leaves. found.found h (omega (arith, in_range, ends.each)) (sym (tail_by_ends p s h.arc h.forward ends in_range) ∙ leaves);
    }

-- the ends of the arcs are nodes
pub ends_are_nodes : (p : Program) (s : Shape) → IsWithinLimits p → AreEnds p s → AreNodes s.ends (length p.rooms + 1)
ends_are_nodes p s limits ends k h =
    elim (cases_lt k (length p.stays)) [
      | inl stay ↦
          let e = ends.stay k stay in
          let range = limits.spans k no_stay stay in
          (omega (arith, ap (λ (z : Span). z.from) e, range.0, range.1), omega (arith, ap (λ (z : Span). z.to) e, range.1))
      | inr night ↦
          let n = k - length p.stays in
          let place : length p.stays + n ≡ k = omega arith in
          let n_in : n < length p.rooms = omega (arith, h, ends.each) in
          let e : end_at s.ends k ≡ record { from = n; to = n + 1 } = ap (end_at s.ends) (sym place) ∙ ends.night n n_in in
          (omega (arith, ap (λ (z : Span). z.from) e, n_in), omega (arith, ap (λ (z : Span). z.to) e, n_in))
    ]
