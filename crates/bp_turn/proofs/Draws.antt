-- A seat draws a ticket.
use Rattle.std.proofs.Common.{
  ◌≡◌,
  ◌≢◌,
  ℕ,
  ◌+◌,
  ◌%◌,
  ◌^◌,
  ◌<◌,
  ◌≤◌,
  Bool,
  true,
  false,
  List,
  [],
  ◌∷◌,
  length,
  set,
  get_or,
  Option,
  sym,
  refl,
  ap,
  ◌∙◌,
  subst,
  inl,
  inr,
  ⊎_elim,
  arith,
}
use mathlib.Core.Option.{some, none}
use mathlib.Core.Logic.{dite}
use native.Mathlib.Decide.{ℕ_discrete}
use lib.ListN.{get_elem?}
use Rattle.std.specs.List.{All}
use Rattle.std.proofs.lemmas.List.Elements.{All-weaker}
use Rattle.atomic_table.specs.Table.{State, keeps, step, stepped, Allows}
use Rattle.bp_types.specs.declared.limits.TheConstants.{CALLERS}
use Rattle.bp_turn.specs.declared.table.View.{View}
use Rattle.bp_turn.specs.Rule.{hands_out, Past, Fits, IsFree, FollowsRule, IsOutOrHome, HasPart, There}
use Rattle.bp_turn.specs.Plays.{Sat, Drew}
use Rattle.bp_turn.specs.Views.{view_with_ticket}
use Rattle.bp_turn.proofs.Changed.{at_there, one_set, still_there, still_out, still_in}
use Rattle.bp_turn.proofs.Numbers.{but, but_here, but_else, count_on, wraps}
use Rattle.bp_turn.proofs.Uniqueness.{apart, not_logged}

module _ {B F E : Type 0} (fix : B → F) (story : B → List E) (caller : E → ℕ) (fixed : F) where
  module _ (s : State (Option B) (View F E)) (r : FollowsRule fix story caller fixed s) (id : ℕ) (v : View F E) (at : get_elem? s.views id ≡
      some v) (small : v.number < CALLERS) (idle : v.has_ticket ≡ false) where
    abbrev w : View F E
    w = view_with_ticket v r.past.drawn

    abbrev drawn_past : Past E
    drawn_past = record {
      history = r.past.history;
      served = r.past.served;
      drawn = r.past.drawn + 1;
      drawer = but r.past.drawer r.past.drawn id;
      role =
          r.past.role;
      waits = but r.past.waits v.number true;
    }

    draw_free : (j : ℕ) (ns : List ℕ) → All (IsFree caller r.past j) ns → All (IsFree caller drawn_past j) ns
    draw_free j = All-weaker (IsFree caller r.past j) (IsFree caller drawn_past j)
        (λ n h. (
          h.0,
          h.1,
          but_else r.past.waits v.number true n (not_logged caller fixed r.past id j n hands_out v (r.each id v at) small h.1 (λ e. cc)) ∙
              h.2,
          h.3,
        ))

    draw_other : (j : ℕ) (u : View F E) → j ≢ id → get_elem? s.views j ≡ some u → Fits caller fixed drawn_past j u
    draw_other j u ne there = let f = r.each id v at in let g = r.each j u there in record {
      lock = g.lock;
      told_lock = g.told_lock;
      seen = g.seen;
      told = g.told;
      own = λ l. let h = g.own l in
          (h.0, but_else r.past.waits v.number true u.number (apart caller fixed r.past id j v u f g (λ e. ne (sym e)) small l) ∙ h.1, h.2, h.3);
      free = draw_free j u.free g.free;
      ended = g.ended;
      ticket = λ i. let h = g.ticket i in
          (but_else r.past.drawer r.past.drawn id u.ticket (let l = h.2 in λ e. omega arith) ∙ h.0, h.1, (let l = h.2 in omega arith), h.3);
      turn = g.turn;
    }

    draw_own : Fits caller fixed drawn_past id w
    draw_own = let f = r.each id v at in let c = r.count in record {
      lock = f.lock;
      told_lock = f.told_lock;
      seen = f.seen;
      told = f.told;
      own = λ l. let h = f.own l in (h.0, but_here r.past.waits v.number true v.number refl, h.2, h.3);
      free = draw_free id v.free f.free;
      ended = f.ended;
      ticket = λ _. (but_here r.past.drawer r.past.drawn id r.past.drawn refl, omega arith, omega arith, small);
      turn = λ i. absurd (let h = (f.turn i).0 in cc);
    }

    draw_tickets : (t : ℕ) → r.past.served ≤ t → t < r.past.drawn + 1 →
        There (set s.views id w) (drawn_past.drawer t) (λ u. (u.has_ticket ≡ true) × (u.ticket ≡ t))
    draw_tickets t a b = let Holds : View F E → Type 0 = λ u. (u.has_ticket ≡ true) × (u.ticket ≡ t) in dite (ℕ_discrete t r.past.drawn)
        (λ e. subst (λ (k : ℕ). There (set s.views id w) k Holds) (sym (but_here r.past.drawer r.past.drawn id t e)) (
          w,
          at_there s.views id v w at,
          (refl, sym e),
        ))
        (λ ne. subst (λ (k : ℕ). There (set s.views id w) k Holds) (sym (but_else r.past.drawer r.past.drawn id t ne))
        (still_there Holds s.views id v w at (λ h. absurd (let i = h.0 in cc)) (r.past.drawer t) (r.tickets t a (omega arith))))

    no_turn : v.has_turn ≡ false
    no_turn = let P : Bool → Type 0 = λ b. v.has_turn ≡ b → b ≡ false in
        (elim v.has_turn as P [ true ↦ λ e. absurd (let h = ((r.each id v at).turn e).0 in cc) | false ↦ λ _. refl ]) refl

    draw_value : IsOutOrHome fix story fixed r.past.history s.homes (set s.views id w)
    draw_value = ⊎_elim
        (λ x. inl (x.0, still_out s.views id v w at (λ e. e) x.1))
        (λ x. inr (x.0, x.1, x.2, x.3, still_in s.views id w no_turn x.4))
        r.value

    draw_keeps : FollowsRule fix story caller fixed (stepped s 1 ((get_or s.words 1 0 + 1) % 2 ^ 64) id [] w keeps)
    draw_keeps = record {
      past = drawn_past;
      words = ap (λ (ws : List ℕ). set ws 1 ((get_or ws 1 0 + 1) % 2 ^ 64)) r.words ∙
          ap (λ (n : ℕ). length r.past.history ∷ n ∷ r.past.served % 2 ^ 64 ∷ []) (wraps r.past.drawn);
      count = let c = r.count in let d = count_on CALLERS r.past.waits v.number small (((r.each id v at).own small).1 ∙ idle) in omega arith;
      whole = (r.whole.0, still_there (λ u. u.seen ≡ r.past.history) s.views id v w at (λ e. e) r.whole.0 r.whole.1);
      roles = λ n l. still_there (λ u. HasPart n (r.past.role n).1 u.number u.free u.ended) s.views id v w at (λ h. h) (r.past.role n).0 (r.roles n l);
      tickets = draw_tickets;
      others = r.others;
      each = one_set (Fits caller fixed drawn_past) s.views id w draw_own draw_other;
      value = draw_value;
    }

  pub draws : (slots id : ℕ) (m : Sat B F E) → m.0.number < CALLERS → m.0.has_ticket ≡ false →
      Allows (FollowsRule fix story caller fixed) slots id m 1 (λ n. (n + 1) % 2 ^ 64) (Drew (step slots 1 1 0 none) m)
  draws slots id m small idle s r _ at _ =
      (view_with_ticket m.0 r.past.drawn, keeps, tt, draw_keeps s r id m.0 at small idle, (r.past.drawn, ap (λ (ws : List ℕ). get_or ws 1 0) r.words, refl))
