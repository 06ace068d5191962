-- What the rule tells of a seat, and that no two seats share a number, a ticket or the turn.
use Rattle.std.proofs.Common.{◌≡◌, ◌≢◌, ℕ, ◌+◌, ◌^◌, ◌<◌, ◌≤◌, Bool, true, false, List, [], length, get_or, Option, Some, sym, refl, ap, ◌∙◌, subst}
use Rattle.std.proofs.Common.{arith}
use mathlib.Core.Option.{some}
use lib.ListN.{get_elem?}
use lib.Seq.{set-get_or}
use Rattle.std.specs.List.{All}
use Rattle.std.proofs.lemmas.List.Elements.{All-weaker}
use Rattle.atomic_table.specs.Table.{State, keeps, stepped}
use Rattle.atomic_table.proofs.Lists.{set_again}
use Rattle.bp_types.specs.declared.limits.TheConstants.{CALLERS}
use Rattle.bp_turn.specs.declared.table.View.{View}
use Rattle.bp_turn.specs.Callers.{entries_by}
use Rattle.bp_turn.specs.Rule.{Part, logs, Past, Fits, IsFree, IsEnded, FollowsRule}
use Rattle.bp_turn.specs.Seat.{IsSoundView}
use Rattle.bp_turn.proofs.Entries.{none_before}
use Rattle.bp_turn.proofs.Numbers.{count_le}

module _ {F E : Type 0} (caller : E → ℕ) (fixed : F) where
  -- two seats do not log under one number
  pub apart : (p : Past E) (j k : ℕ) (v u : View F E) → Fits caller fixed p j v → Fits caller fixed p k u → j ≢ k → v.number < CALLERS → u.number < CALLERS →
      u.number ≢ v.number
  apart p j k v u f g ne small small' e = ne (ap (λ (x : ℕ × Part). x.0) (sym (f.own small).0 ∙ (ap p.role (sym e) ∙ (g.own small').0)))

  -- a number in which some seat has another part is not the one that a seat logs under
  pub not_logged : (p : Past E) (j k n : ℕ) (part : Part) (v : View F E) → Fits caller fixed p j v → v.number < CALLERS → p.role n ≡ (k, part) → part ≢ logs →
      n ≢ v.number
  not_logged p j k n part v f small at ne e = ne (ap (λ (x : ℕ × Part). x.1) (sym at ∙ (ap p.role e ∙ (f.own small).0)))

  -- of the seats with a ticket, one has a given ticket
  pub one_holder : (p : Past E) (j k : ℕ) (v u : View F E) → Fits caller fixed p j v → Fits caller fixed p k u → v.has_ticket ≡ true → u.has_ticket ≡ true →
      v.ticket ≡ u.ticket → j ≡ k
  one_holder p j k v u f g h i e = sym (f.ticket h).0 ∙ (ap p.drawer e ∙ (g.ticket i).0)

  -- what the rule says of a view gives what holds of the seat by itself
  pub sound_of : (p : Past E) (id : ℕ) (v : View F E) → Fits caller fixed p id v → ((n : ℕ) → CALLERS ≤ n → entries_by caller n p.history ≡ []) →
      v.number < CALLERS → (f : F) × (v.fixed ≡ Some f) → All (λ t. t ≤ length v.seen) v.turns → IsSoundView caller v
  sound_of p id v f others small lock turns = record {
    fixed_part = lock;
    numbered = small;
    own_entries = (f.own small).3;
    free_entries = All-weaker (IsFree caller p id) (λ n. (n < CALLERS) ×
        (entries_by caller n v.seen ≡ [])) (λ n h. (h.0, none_before caller n v.seen p.history f.seen h.3)) v.free f.free;
    ended_entries = All-weaker (IsEnded caller p id v.seen) (λ (x : ℕ × List E). entries_by caller x.0 v.seen ≡ x.1) (λ x h. h.2) v.ended f.ended;
    other_entries = λ n l. none_before caller n v.seen p.history f.seen (others n l);
    turn_lengths = turns;
  }

module _ {B F E : Type 0} (fix : B → F) (story : B → List E) (caller : E →
    ℕ) (fixed : F) (s : State (Option B) (View F E)) (r : FollowsRule fix story caller fixed s) where
  -- no ticket is out for as long as a word takes to come round
  pub near : (t : ℕ) → t < r.past.drawn → t < r.past.served + 2 ^ 64
  near t l = let c = r.count in let m = count_le CALLERS r.past.waits in omega arith

  -- a seat with the ticket that is served is the only one that can have the turn
  pub one_turn_only : (id : ℕ) (v : View F E) → get_elem? s.views id ≡ some v → v.has_ticket ≡ true → v.ticket ≡ r.past.served → (j : ℕ) (u : View F E) →
      get_elem? s.views j ≡ some u → u.has_turn ≡ true → j ≡ id
  one_turn_only id v at has now j u there turn = let f = r.each id v at in let g = r.each j u there in let t = g.turn turn in
      one_holder caller fixed r.past j id u v g f t.0 has (t.1 ∙ sym now)

  -- while one seat has the turn no other has
  pub no_other_turn : (id : ℕ) (v : View F E) → get_elem? s.views id ≡ some v → v.has_turn ≡ true → (j : ℕ) (u : View F E) → j ≢ id →
      get_elem? s.views j ≡ some u → u.has_turn ≡ false
  no_other_turn id v at on j u ne there = let t = (r.each id v at).turn on in let P : Bool → Type 0 = λ b. u.has_turn ≡ b → b ≡ false in
      (elim u.has_turn as P [ true ↦ λ e. absurd (ne (one_turn_only id v at t.0 t.1 j u there e)) | false ↦ λ _. refl ]) refl

  -- a step that changes nothing keeps the rule
  pub unmoved : (i id : ℕ) (v : View F E) (c : List (ℕ × Option B)) → get_elem? s.views id ≡ some v →
      FollowsRule fix story caller fixed (stepped s i (get_or s.words i 0) id c v keeps)
  unmoved i id v c at = subst (λ (x : List ℕ × List (View F E)). FollowsRule fix story caller fixed record { words = x.0; homes = s.homes; views = x.1 })
      (λ k. (sym (set-get_or s.words i 0) k, sym (set_again s.views id v at) k)) r
