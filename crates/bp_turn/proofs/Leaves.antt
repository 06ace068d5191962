-- A seat gives the slot back and ends its turn.
use Rattle.std.proofs.Common.{
  ◌≡◌,
  ◌≢◌,
  ℕ,
  ◌+◌,
  ◌%◌,
  ◌^◌,
  ◌<◌,
  true,
  false,
  List,
  [],
  ◌∷◌,
  length,
  set,
  get_or,
  Option,
  Some,
  sym,
  refl,
  ap,
  ◌∙◌,
  subst,
  inr,
  ⊎_elim,
  arith,
}
use mathlib.Core.Option.{some, none}
use mathlib.Core.Option as maybe
use lib.ListN.{get_elem?}
use Rattle.std.specs.List.{All}
use Rattle.std.proofs.lemmas.List.Elements.{All-weaker}
use Rattle.atomic_table.specs.Table.{State, gives, step, stepped, Allows}
use Rattle.bp_types.specs.declared.limits.TheConstants.{CALLERS}
use Rattle.bp_turn.specs.declared.table.View.{View}
use Rattle.bp_turn.specs.Plays.{Sat, Gave}
use Rattle.bp_turn.specs.Rule.{hands_out, Past, Fits, IsFree, FollowsRule, HasPart}
use Rattle.bp_turn.specs.Views.{view_after_turn}
use Rattle.bp_turn.proofs.Changed.{one_set, still_there}
use Rattle.bp_turn.proofs.Numbers.{but, but_here, but_else, count_off, wraps}
use Rattle.bp_turn.proofs.Uniqueness.{apart, not_logged, one_holder, no_other_turn}

module _ {B F E : Type 0} (fix : B → F) (story : B → List E) (caller : E → ℕ) (fixed : F) where
  module _ (s : State (Option B) (View F E)) (r : FollowsRule fix story caller fixed s) (id : ℕ) (v : View F E) (at : get_elem? s.views id ≡
      some v) (small : v.number < CALLERS) (on : v.has_turn ≡ true) where
    abbrev w : View F E
    w = view_after_turn v

    abbrev left_past : Past E
    left_past = record {
      history = r.past.history;
      served = r.past.served + 1;
      drawn = r.past.drawn;
      drawer = r.past.drawer;
      role = r.past.role;
      waits =
          but r.past.waits v.number false;
    }

    leave_free : (j : ℕ) (ns : List ℕ) → All (IsFree caller r.past j) ns → All (IsFree caller left_past j) ns
    leave_free j = All-weaker (IsFree caller r.past j) (IsFree caller left_past j)
        (λ n h. (
          h.0,
          h.1,
          but_else r.past.waits v.number false n (not_logged caller fixed r.past id j n hands_out v (r.each id v at) small h.1 (λ e. cc)) ∙
              h.2,
          h.3,
        ))

    leave_other : (j : ℕ) (u : View F E) → j ≢ id → get_elem? s.views j ≡ some u → Fits caller fixed left_past j u
    leave_other j u ne there = let f = r.each id v at in let g = r.each j u there in let t = f.turn on in record {
      lock = g.lock;
      told_lock = g.told_lock;
      seen = g.seen;
      told = g.told;
      own = λ l. let h = g.own l in
          (h.0, but_else r.past.waits v.number false u.number (apart caller fixed r.past id j v u f g (λ e. ne (sym e)) small l) ∙ h.1, h.2, h.3);
      free = leave_free j u.free g.free;
      ended = g.ended;
      ticket = λ i. let h = g.ticket i in let le = h.1 in
          let after : u.ticket ≢ r.past.served = λ e. ne (one_holder caller fixed r.past j id u v g f i t.0 (e ∙ sym t.1)) in (h.0, omega arith, h.2, h.3);
      turn = λ i. absurd (let h = no_other_turn fix story caller fixed s r id v at on j u ne there in cc);
    }

    leave_own : Fits caller fixed left_past id w
    leave_own = let f = r.each id v at in record {
      lock = f.lock;
      told_lock = f.told_lock;
      seen = f.seen;
      told = f.told;
      own = λ l. let h = f.own l in (h.0, but_here r.past.waits v.number false v.number refl, h.2, h.3);
      free = leave_free id v.free f.free;
      ended = f.ended;
      ticket = λ i. absurd (cc);
      turn = λ i. absurd (cc);
    }

    is_out : s.homes ≡ none ∷ []
    is_out = ⊎_elim (λ x. x.0) (λ x. absurd (let h = x.4 id v at in cc)) r.value

    leave_keeps : (b : B) → story b ≡ v.seen → fix b ≡ fixed →
        FollowsRule fix story caller fixed (stepped s 2 ((get_or s.words 2 0 + 1) % 2 ^ 64) id ((0, Some b) ∷ []) w gives)
    leave_keeps b is locked = let t = (r.each id v at).turn on in let served = t.1 in record {
      past = left_past;
      words = ap (λ (ws : List ℕ). set ws 2 ((get_or ws 2 0 + 1) % 2 ^ 64)) r.words ∙
          ap (λ (n : ℕ). length r.past.history ∷ r.past.drawn % 2 ^ 64 ∷ n ∷ []) (wraps r.past.served);
      count = let c = r.count in let d = count_off CALLERS r.past.waits v.number small (((r.each id v at).own small).1 ∙ t.0) in omega arith;
      whole = (r.whole.0, still_there (λ u. u.seen ≡ r.past.history) s.views id v w at (λ e. e) r.whole.0 r.whole.1);
      roles = λ n l. still_there (λ u. HasPart n (r.past.role n).1 u.number u.free u.ended) s.views id v w at (λ h. h) (r.past.role n).0 (r.roles n l);
      tickets = λ n a c. still_there (λ u. (u.has_ticket ≡ true) ×
          (u.ticket ≡ n)) s.views id v w at (λ h. absurd (let i = h.1 in omega arith)) (r.past.drawer n) (r.tickets n (omega arith) c);
      others = r.others;
      each = one_set (Fits caller fixed left_past) s.views id w leave_own leave_other;
      value = inr (
        b,
        ap (λ (hs : List (maybe.Option (Option B))). set hs 0 (some (Some b))) is_out,
        is ∙ t.2,
        locked,
        one_set (λ _ u. u.has_turn ≡ false) s.views id w refl (no_other_turn fix story caller fixed s r id v at on),
      );
    }

  pub leaves : (slots id : ℕ) (m : Sat B F E) (b : B) → m.1 ≡ (0, Some b) ∷ [] → m.0.number < CALLERS → m.0.has_turn ≡ true → story b ≡ m.0.seen →
      m.0.fixed ≡ Some (fix b)
      → Allows (FollowsRule fix story caller fixed) slots id m 2 (λ n. (n + 1) % 2 ^ 64) (Gave (step slots 2 1 0 none) m)
  leaves slots id m b out small on is lock =
      subst (λ (c : List (ℕ × Option B)). Allows (FollowsRule fix story caller fixed) slots id (
        m.0,
        c,
      ) 2 (λ n. (n + 1) % 2 ^ 64) (Gave (step slots 2 1 0 none) (m.0, c))) (sym out)
      (λ s r _ at _. (view_after_turn m.0, gives, tt, leave_keeps s r id m.0 at small on b is ((r.each id m.0 at).lock (fix b) lock), refl))
