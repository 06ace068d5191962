-- A new seat gets a number of another, or a seat makes a note of what it has seen.
use Rattle.std.proofs.Common.{
  ◌≡◌,
  ◌≢◌,
  ℕ,
  ◌<◌,
  ◌≤◌,
  true,
  false,
  List,
  [],
  ◌∷◌,
  ◌++◌,
  length,
  set,
  Option,
  sym,
  refl,
  ap,
  ◌∙◌,
  subst,
  inl,
  inr,
  ⊎_elim,
  length-set,
  arith,
}
use mathlib.Core.Option.{some}
use mathlib.Core.Logic.{dite}
use native.Mathlib.Decide.{ℕ_discrete}
use lib.ListN.{get_elem?}
use Rattle.std.specs.List.{All, Contains}
use Rattle.std.proofs.lemmas.List.Elements.{All-nil, All-weaker, All-contains}
use Rattle.atomic_table.specs.Table.{State, Splits}
use Rattle.atomic_table.proofs.Lists.{at_last, set_again}
use Rattle.bp_types.specs.declared.limits.TheConstants.{CALLERS}
use Rattle.bp_turn.specs.declared.table.View.{View}
use Rattle.bp_turn.specs.Callers.{entries_by, without}
use Rattle.bp_turn.specs.Plays.{Sat}
use Rattle.bp_turn.specs.Rule.{Part, logs, hands_out, keeps_ended, Past, Fits, IsFree, IsEnded, FollowsRule, HasPart, There}
use Rattle.bp_turn.specs.Seat.{IsAtRest}
use Rattle.bp_turn.specs.Views.{view_with_choice, view_less_choice, newcomer, note}
use Rattle.bp_turn.proofs.Changed.{one_set, one_more_view, still_there, there_longer, still_out, still_in}
use Rattle.bp_turn.proofs.Entries.{none_before}
use Rattle.bp_turn.proofs.Numbers.{but, but_here, but_else, left_over, still_left}

module _ {B F E : Type 0} (fix : B → F) (story : B → List E) (caller : E → ℕ) (fixed : F) where
  -- a new seat beside what is left of the old one
  module _ (s : State (Option B) (View F E)) (r : FollowsRule fix story caller fixed s) (id : ℕ) (v : View F E) (at : get_elem? s.views id ≡
      some v) (mine : Contains v.free v.chosen) where
    abbrev left : View F E
    left = view_less_choice v

    abbrev right : View F E
    right = newcomer v

    -- where the new seat is
    abbrev next : ℕ
    next = length s.views

    abbrev split_past : Past E
    split_past = record {
      history = r.past.history;
      served = r.past.served;
      drawn = r.past.drawn;
      drawer = r.past.drawer;
      role =
          but r.past.role v.chosen (next, logs);
      waits = r.past.waits;
    }

    chosen_free : IsFree caller r.past id v.chosen
    chosen_free = All-contains (IsFree caller r.past id) v.free v.chosen (r.each id v at).free mine

    -- who has another part in a number keeps it
    kept_role : (n j : ℕ) (part : Part) → r.past.role n ≡ (j, part) → (j ≡ id → part ≢ hands_out) → split_past.role n ≡ (j, part)
    kept_role n j part is other = but_else r.past.role v.chosen (next, logs) n
        (λ e. let z : (j, part) ≡ (id, hands_out) = sym is ∙ (ap r.past.role e ∙ chosen_free.1) in
        other (ap (λ (x : ℕ × Part). x.0) z) (ap (λ (x : ℕ × Part). x.1) z)) ∙ is

    kept_ended : (j : ℕ) (seen : List E) (xs : List (ℕ × List E)) → All (IsEnded caller r.past j seen) xs → All (IsEnded caller split_past j seen) xs
    kept_ended j seen = All-weaker (IsEnded caller r.past j seen) (IsEnded caller split_past j seen)
        (λ x h. (kept_role x.0 j keeps_ended h.0 (λ _ i. cc), h.1, h.2))

    split_other : (j : ℕ) (u : View F E) → j ≢ id → get_elem? s.views j ≡ some u → Fits caller fixed split_past j u
    split_other j u ne there = let g = r.each j u there in record {
      lock = g.lock;
      told_lock = g.told_lock;
      seen = g.seen;
      told = g.told;
      own = λ l. let h = g.own l in (kept_role u.number j logs h.0 (λ _ i. cc), h.1, h.2, h.3);
      free = All-weaker (IsFree caller r.past j) (IsFree caller split_past j) (λ n h. (h.0, kept_role n j hands_out h.1 (λ e. absurd (ne e)), h.2, h.3))
          u.free g.free;
      ended = kept_ended j u.seen u.ended g.ended;
      ticket = g.ticket;
      turn = g.turn;
    }

    split_left : Fits caller fixed split_past id left
    split_left = let g = r.each id v at in record {
      lock = g.lock;
      told_lock = g.told_lock;
      seen = g.seen;
      told = g.told;
      own = λ l. let h = g.own l in (kept_role v.number id logs h.0 (λ _ i. cc), h.1, h.2, h.3);
      free = All-weaker (λ n. (n ≢ v.chosen) × Contains v.free n) (IsFree caller split_past id)
          (λ n o. let h = All-contains (IsFree caller r.past id) v.free n g.free o.1 in
          (h.0, but_else r.past.role v.chosen (next, logs) n o.0 ∙ h.1, h.2, h.3)) (without v.chosen v.free) (left_over v.chosen v.free);
      ended = kept_ended id v.seen v.ended g.ended;
      ticket = g.ticket;
      turn = g.turn;
    }

    split_right : Fits caller fixed split_past next right
    split_right = let g = r.each id v at in let h = chosen_free in record {
      lock = g.lock;
      told_lock = λ f e. absurd (cc);
      seen = g.seen;
      told = (r.past.history, refl);
      own = λ _. (but_here r.past.role v.chosen (next, logs) v.chosen refl, h.2, h.3, none_before caller v.chosen v.seen r.past.history g.seen h.3);
      free = All-nil (IsFree caller split_past next);
      ended = All-nil (IsEnded caller split_past next v.seen);
      ticket = λ i. absurd (cc);
      turn = λ i. absurd (cc);
    }

    abbrev views : List (View F E)
    views = set s.views id left ++ right ∷ []

    -- a view's part in another number than the chosen one is left
    left_part : (n : ℕ) (part : Part) → n ≢ v.chosen → HasPart n part v.number v.free v.ended → HasPart n part left.number left.free left.ended
    left_part n logs ne h = h
    left_part n hands_out ne h = still_left v.chosen n v.free ne h
    left_part n keeps_ended ne h = h

    split_roles : (n : ℕ) → n < CALLERS → There views (split_past.role n).0 (λ u. HasPart n (split_past.role n).1 u.number u.free u.ended)
    split_roles n l = dite (ℕ_discrete n v.chosen)
        (λ e. subst (λ (x : ℕ × Part). There views x.0 (λ u. HasPart n x.1 u.number u.free u.ended)) (sym (but_here r.past.role v.chosen (next, logs) n e))
        (right, at_last (set s.views id left) right next (length-set s.views id left), sym e))
        (λ ne. subst (λ (x : ℕ × Part). There views x.0 (λ u. HasPart n x.1 u.number u.free u.ended)) (sym (but_else r.past.role v.chosen (next, logs) n ne))
        (there_longer (λ u. HasPart n (r.past.role n).1 u.number u.free u.ended) (set s.views id left) right (r.past.role n).0
        (still_there (λ u. HasPart n (r.past.role n).1 u.number u.free u.ended) s.views id v left at (left_part n (r.past.role n).1 ne) (r.past.role n).0
        (r.roles n l))))

    split_keeps : FollowsRule fix story caller fixed record { words = s.words; homes = s.homes; views = views }
    split_keeps = record {
      past = split_past;
      words = r.words;
      count = r.count;
      whole = (
        r.whole.0,
        there_longer (λ u. u.seen ≡
            r.past.history) (set s.views id left) right r.whole.0
            (still_there (λ u. u.seen ≡ r.past.history) s.views id v left at (λ e. e) r.whole.0 r.whole.1),
      );
      roles = split_roles;
      tickets = λ t a b. there_longer (λ u. (u.has_ticket ≡ true) ×
          (u.ticket ≡ t)) (set s.views id left) right (r.past.drawer t)
          (still_there (λ u. (u.has_ticket ≡ true) × (u.ticket ≡ t)) s.views id v left at (λ h. h) (r.past.drawer t) (r.tickets t a b));
      others = r.others;
      each = one_more_view (Fits caller fixed split_past) (set s.views id left) right next (length-set s.views id left)
          (one_set (Fits caller fixed split_past) s.views id left split_left split_other) split_right;
      value = ⊎_elim
          (λ x. let o = still_out s.views id v left at (λ i. i) x.1 in
          inl (x.0, (o.0, there_longer (λ u. u.has_turn ≡ true) (set s.views id left) right o.0 o.1)))
          (λ x. inr (
            x.0,
            x.1,
            x.2,
            x.3,
            one_more_view (λ _ u. u.has_turn ≡ false) (set s.views id left) right next (length-set s.views id left)
                (still_in s.views id left (x.4 id v at) x.4) refl,
          ))
          r.value;
    }

  pub splits : (id : ℕ) (v : View F E) → Contains v.free v.chosen → Splits (FollowsRule fix story caller fixed) id v (view_less_choice v) (newcomer v)
  splits id v mine s r at = split_keeps s r id v at mine

  note_fits : (s : State (Option B) (View F E)) (r : FollowsRule fix story caller fixed s) (id : ℕ) (v : View F E) → get_elem? s.views id ≡ some v →
      Fits caller fixed r.past (length s.views) (note v)
  note_fits s r id v at = let g = r.each id v at in record {
    lock = g.lock;
    told_lock = λ f e. absurd (cc);
    seen = g.seen;
    told = (r.past.history, refl);
    own = λ l. absurd (omega arith);
    free = All-nil (IsFree caller r.past (length s.views));
    ended = All-nil (IsEnded caller r.past (length s.views) v.seen);
    ticket = λ i. absurd (cc);
    turn = λ i. absurd (cc);
  }

  pub notes : (id : ℕ) (v : View F E) → Splits (FollowsRule fix story caller fixed) id v v (note v)
  notes id v s r at = subst (λ (vs : List (View F E)). FollowsRule fix story caller fixed record {
    words = s.words;
    homes = s.homes;
    views =
        vs ++ note v ∷ [];
  }) (sym (set_again s.views id v at)) record {
    past = r.past;
    words = r.words;
    count = r.count;
    whole = (r.whole.0, there_longer (λ u. u.seen ≡ r.past.history) s.views (note v) r.whole.0 r.whole.1);
    roles = λ n l. there_longer (λ u. HasPart n (r.past.role n).1 u.number u.free u.ended) s.views (note v) (r.past.role n).0 (r.roles n l);
    tickets = λ t a b. there_longer (λ u. (u.has_ticket ≡ true) × (u.ticket ≡ t)) s.views (note v) (r.past.drawer t) (r.tickets t a b);
    others = r.others;
    each = one_more_view (Fits caller fixed r.past) s.views (note v) (length s.views) refl r.each (note_fits s r id v at);
    value = ⊎_elim
        (λ x. inl (x.0, (x.1.0, there_longer (λ u. u.has_turn ≡ true) s.views (note v) x.1.0 x.1.1)))
        (λ x. inr (x.0, x.1, x.2, x.3, one_more_view (λ _ u. u.has_turn ≡ false) s.views (note v) (length s.views) refl x.4 refl))
        r.value;
  }

  -- what is left of the seat between two calls
  pub rests_less_choice : (m : Sat B F E) (n : ℕ) → IsAtRest caller m → IsAtRest {B = B} caller (view_less_choice (view_with_choice m.0 n), m.1)
  rests_less_choice m n h = let z = h.sound in record {
    sound = record {
      fixed_part = z.fixed_part;
      numbered = z.numbered;
      own_entries = z.own_entries;
      free_entries = All-weaker (λ k. (k ≢ n) × Contains m.0.free k) (λ k. (k < CALLERS) ×
          (entries_by caller k m.0.seen ≡ [])) (λ k o. All-contains (λ k. (k < CALLERS) × (entries_by caller k m.0.seen ≡ [])) m.0.free k z.free_entries o.1)
          (without n m.0.free) (left_over n m.0.free);
      ended_entries = z.ended_entries;
      other_entries = z.other_entries;
      turn_lengths = z.turn_lengths;
    };
    ticket = h.ticket;
    slot = h.slot;
  }

  -- the new seat between two calls
  pub rests_newcomer : (m : Sat B F E) (n : ℕ) → Contains m.0.free n → IsAtRest caller m → IsAtRest {B = B} caller (newcomer (view_with_choice m.0 n), [])
  rests_newcomer m n mine h = let z = h.sound in
      let f = All-contains (λ k. (k < CALLERS) × (entries_by caller k m.0.seen ≡ [])) m.0.free n z.free_entries mine in record {
        sound = record {
          fixed_part = z.fixed_part;
          numbered = f.0;
          own_entries = f.1;
          free_entries = All-nil (λ k. (k < CALLERS) × (entries_by caller k m.0.seen ≡ []));
          ended_entries = All-nil (λ (x : ℕ × List E). entries_by caller x.0 m.0.seen ≡ x.1);
          other_entries = z.other_entries;
          turn_lengths = All-nil (λ t. t ≤ length m.0.seen);
        };
        ticket = refl;
        slot = refl;
      }
