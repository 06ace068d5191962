-- A seat ends in another, or is told what another has seen; and the load that follows.
use Rattle.std.proofs.Common.{
  ◌≡◌,
  ◌≢◌,
  ℕ,
  ◌<◌,
  ◌≤◌,
  ◌==◌,
  cond,
  true,
  false,
  List,
  [],
  ◌∷◌,
  ◌++◌,
  length,
  set,
  Option,
  Some,
  sym,
  refl,
  ap,
  ◌∙◌,
  subst,
  inl,
  inr,
  ⊎_elim,
  eq-eqb,
  ne_eqb,
  arith,
}
use mathlib.Core.Option.{some, none, some-injective}
use mathlib.Core.Logic.{dite}
use native.Mathlib.Decide.{ℕ_discrete}
use lib.ListN.{get_elem?}
use Rattle.std.specs.List.{All}
use Rattle.std.proofs.lemmas.List.Elements.{All-nil, All-weaker, All-append, All-cons, Contains-append_left, Contains-append_right}
use Rattle.atomic_table.specs.Table.{State, keeps, step, Allows, Joins}
use Rattle.atomic_table.proofs.Lists.{set_else}
use Rattle.bp_types.specs.declared.limits.TheConstants.{CALLERS}
use Rattle.bp_turn.specs.declared.table.View.{View}
use Rattle.bp_turn.specs.Plays.{Sat, Learnt, IsNote}
use Rattle.bp_turn.specs.Prefix.{longer}
use Rattle.bp_turn.specs.Rule.{Part, logs, hands_out, keeps_ended, Past, Fits, IsFree, IsEnded, FollowsRule, IsOutOrHome, HasPart, There}
use Rattle.bp_turn.specs.Seat.{IsSoundView}
use Rattle.bp_turn.specs.Views.{view_told, view_joined, spent_view}
use Rattle.bp_turn.proofs.Changed.{at_there, two_set, still_there, there_else, still_out, still_in}
use Rattle.bp_turn.proofs.Entries.{longer_has, longer_has_second}
use Rattle.bp_turn.proofs.Prefixes.{prefix_of_prefix, longer_prefix, longer_whole, longer_ge}
use Rattle.bp_turn.proofs.Uniqueness.{sound_of, unmoved}

module _ {B F E : Type 0} (fix : B → F) (story : B → List E) (caller : E → ℕ) (fixed : F) where
  spent_fits : (p : Past E) (j : ℕ) → Fits caller fixed p j spent_view
  spent_fits p j = record {
    lock = λ f e. absurd (cc);
    told_lock = λ f e. absurd (cc);
    seen = (p.history, refl);
    told = (p.history, refl);
    own = λ l. absurd (omega arith);
    free = All-nil (IsFree caller p j);
    ended = All-nil (IsEnded caller p j []);
    ticket = λ i. absurd (cc);
    turn = λ i. absurd (cc);
  }

  -- The seat id has the view x in place of v, and the view w of the seat k is spent. Neither has the turn, and the seat k has no ticket.
  module _ (s : State (Option B) (View F E)) (r : FollowsRule fix story caller fixed s) (id k : ℕ) (v w x : View F E) (at : get_elem? s.views id ≡
      some v) (ne : k ≢ id) (there : get_elem? s.views k ≡ some w)
      (idle : v.has_turn ≡ false) (off : w.has_turn ≡ false) (unserved : w.has_ticket ≡ false) where
    abbrev views : List (View F E)
    views = set (set s.views id x) k spent_view

    f : Fits caller fixed r.past id v
    f = r.each id v at

    g : Fits caller fixed r.past k w
    g = r.each k w there

    -- what holds of the view at k
    at_k : (P : View F E → Type 0) (j : ℕ) → j ≡ k → There s.views j P → P w
    at_k P j e (u, here, holds) = subst P (some-injective u w (sym here ∙ (ap (get_elem? s.views) e ∙ there))) holds

    now_at_id : (P : View F E → Type 0) → P x → There views id P
    now_at_id P holds = there_else P (set s.views id x) k spent_view id (λ e. ne (sym e)) (x, at_there s.views id v x at, holds)

    elsewhere : (P : View F E → Type 0) (j : ℕ) → j ≢ k → (P v → P x) → There s.views j P → There views j P
    elsewhere P j other keep t = there_else P (set s.views id x) k spent_view j other (still_there P s.views id v x at keep j t)

    joined_whole : x.seen ≡ longer v.seen w.seen → (j : ℕ) × There views j (λ u. u.seen ≡ r.past.history)
    joined_whole is = let Whole : View F E → Type 0 = λ u. u.seen ≡ r.past.history in dite (ℕ_discrete r.whole.0 k)
        (λ e. (id, now_at_id Whole (is ∙ longer_whole v.seen w.seen r.past.history f.seen g.seen (inr (at_k Whole r.whole.0 e r.whole.1)))))
        (λ n. (r.whole.0, elsewhere Whole r.whole.0 n (λ e. is ∙ longer_whole v.seen w.seen r.past.history f.seen g.seen (inl e)) r.whole.1))

    joined_tickets : x.has_ticket ≡ v.has_ticket → x.ticket ≡ v.ticket → (t : ℕ) → r.past.served ≤ t → t < r.past.drawn →
        There views (r.past.drawer t) (λ u. (u.has_ticket ≡ true) × (u.ticket ≡ t))
    joined_tickets has same t a b = let Holds : View F E → Type 0 = λ u. (u.has_ticket ≡ true) × (u.ticket ≡ t) in dite (ℕ_discrete (r.past.drawer t) k)
        (λ e. absurd (let h = (at_k Holds (r.past.drawer t) e (r.tickets t a b)).0 in cc))
        (λ n. elsewhere Holds (r.past.drawer t) n (λ h. (has ∙ h.0, same ∙ h.1)) (r.tickets t a b))

    joined_value : x.has_turn ≡ v.has_turn → IsOutOrHome fix story fixed r.past.history s.homes views
    joined_value same = ⊎_elim
        (λ y. inl (
          y.0,
          (let o = still_out s.views id v x at (λ e. same ∙ e) y.1 in
              still_out (set s.views id x) k w spent_view (set_else s.views id k x ne ∙ there) (λ e. absurd (cc)) o),
        ))
        (λ y. inr (y.0, y.1, y.2, y.3, still_in (set s.views id x) k spent_view refl (still_in s.views id x (same ∙ y.4 id v at) y.4)))
        r.value

  -- the seat id is told what the note k says
  module _ (s : State (Option B) (View F E)) (r : FollowsRule fix story caller fixed s) (id k : ℕ) (v w : View F E) (at : get_elem? s.views id ≡
      some v) (ne : k ≢ id) (there : get_elem? s.views k ≡ some w)
      (idle : v.has_turn ≡ false) (told : IsNote {B = B} (w, [])) where
    told_own : Fits caller fixed r.past id (view_told v w)
    told_own = let f = r.each id v at in let g = r.each k w there in let b = longer_prefix v.seen w.seen r.past.history f.seen g.seen in record {
      lock = f.lock;
      told_lock = g.lock;
      seen = b.0;
      told = b.1;
      own = λ l. let h = f.own l in (h.0, h.1, h.2, longer_has caller v.number v.seen w.seen r.past.history v.own f.seen g.seen h.3 h.2);
      free = f.free;
      ended = All-weaker (IsEnded caller r.past id v.seen) (IsEnded caller r.past id (longer v.seen w.seen))
          (λ x h. (h.0, h.1, longer_has caller x.0 v.seen w.seen r.past.history x.1 f.seen g.seen h.2 h.1)) v.ended f.ended;
      ticket = f.ticket;
      turn = λ i. absurd (cc);
    }

    -- a note has a part in no number
    no_part : (n : ℕ) (part : Part) → n < CALLERS → HasPart n part w.number w.free w.ended → ⊥
    no_part n logs l h = let m = told.0 in omega arith
    no_part n hands_out l h = let m = h.1 in let e = ap length told.1 in omega arith
    no_part n keeps_ended l h = let m = h.1.1 in let e = ap length told.2 in omega arith

    told_roles : (n : ℕ) → n < CALLERS →
        There (set (set s.views id (view_told v w)) k spent_view) (r.past.role n).0 (λ u. HasPart n (r.past.role n).1 u.number u.free u.ended)
    told_roles n l = let Has : View F E → Type 0 = λ u. HasPart n (r.past.role n).1 u.number u.free u.ended in dite (ℕ_discrete (r.past.role n).0 k)
        (λ e. absurd (no_part n (r.past.role n).1 l (at_k s r id k v w (view_told v w) at ne there idle told.4 told.3 Has (r.past.role n).0 e (r.roles n l))))
        (λ other. elsewhere s r id k v w (view_told v w) at ne there idle told.4 told.3 Has (r.past.role n).0 other (λ h. h) (r.roles n l))

    told_keeps : FollowsRule fix story caller fixed record { words = s.words; homes = s.homes; views = set (set s.views id (view_told v w)) k spent_view }
    told_keeps = record {
      past = r.past;
      words = r.words;
      count = r.count;
      whole = joined_whole s r id k v w (view_told v w) at ne there idle told.4 told.3 refl;
      roles = told_roles;
      tickets = joined_tickets s r id k v w (view_told v w) at ne there idle told.4 told.3 refl refl;
      others = r.others;
      each = two_set (Fits caller fixed r.past) s.views id k (view_told v w) spent_view told_own (spent_fits r.past k) (λ j u _ _ e. r.each j u e);
      value = joined_value s r id k v w (view_told v w) at ne there idle told.4 told.3 refl;
    }

  -- a seat's number is an ended one once it is joined into another
  abbrev joined_part : Part → Part
  joined_part logs = keeps_ended
  joined_part hands_out = hands_out
  joined_part keeps_ended = keeps_ended

  -- the seat k, which has a number, ends in the seat id
  module _ (s : State (Option B) (View F E)) (r : FollowsRule fix story caller fixed s) (id k : ℕ) (v w : View F E) (at : get_elem? s.views id ≡
      some v) (ne : k ≢ id) (there : get_elem? s.views k ≡ some w)
      (idle : v.has_turn ≡ false) (off : w.has_turn ≡ false) (unserved : w.has_ticket ≡ false) (small : w.number < CALLERS) where
    abbrev x : View F E
    x = view_joined v w

    -- the seat k's part in a number goes to the seat id
    abbrev moved : ℕ × Part → ℕ × Part
    moved y = cond (y.0 == k) (id, joined_part y.1) y

    abbrev join_past : Past E
    join_past = record {
      history = r.past.history;
      served = r.past.served;
      drawn = r.past.drawn;
      drawer = r.past.drawer;
      role = λ n. moved (r.past.role n);
      waits = r.past.waits;
    }

    stays : (n j : ℕ) (part : Part) → j ≢ k → r.past.role n ≡ (j, part) → join_past.role n ≡ (j, part)
    stays n j part other e = ap moved e ∙ ap (λ b. cond b (id, joined_part part) (j, part)) (ne_eqb j k other)

    comes : (n : ℕ) (part : Part) → r.past.role n ≡ (k, part) → join_past.role n ≡ (id, joined_part part)
    comes n part e = ap moved e ∙ ap (λ b. cond b (id, joined_part part) (k, part)) (eq-eqb k k refl)

    apart : id ≢ k
    apart e = ne (sym e)

    join_other : (j : ℕ) (u : View F E) → j ≢ id → j ≢ k → get_elem? s.views j ≡ some u → Fits caller fixed join_past j u
    join_other j u n o e = let h = r.each j u e in record {
      lock = h.lock;
      told_lock = h.told_lock;
      seen = h.seen;
      told = h.told;
      own = λ l. let y = h.own l in (stays u.number j logs o y.0, y.1, y.2, y.3);
      free = All-weaker (IsFree caller r.past j) (IsFree caller join_past j) (λ m y. (y.0, stays m j hands_out o y.1, y.2, y.3)) u.free h.free;
      ended = All-weaker (IsEnded caller r.past j u.seen) (IsEnded caller join_past j u.seen) (λ y h. (stays y.0 j keeps_ended o h.0, h.1, h.2))
          u.ended h.ended;
      ticket = h.ticket;
      turn = h.turn;
    }

    join_free : All (IsFree caller join_past id) (v.free ++ w.free)
    join_free = All-append (IsFree caller join_past id) v.free w.free
        (All-weaker (IsFree caller r.past id) (IsFree caller join_past id) (λ n y. (y.0, stays n id hands_out apart y.1, y.2, y.3)) v.free
        (r.each id v at).free)
        (All-weaker (IsFree caller r.past k) (IsFree caller join_past id) (λ n y. (y.0, comes n hands_out y.1, y.2, y.3)) w.free (r.each k w there).free)

    join_ended : All (IsEnded caller join_past id (longer v.seen w.seen)) (v.ended ++ (w.number, w.own) ∷ w.ended)
    join_ended = let f = r.each id v at in let g = r.each k w there in let o = g.own small in let Ended : ℕ × List E →
        Type 0 = IsEnded caller join_past id (longer v.seen w.seen) in
        All-append Ended v.ended ((w.number, w.own) ∷ w.ended)
        (All-weaker (IsEnded caller r.past id v.seen) Ended
        (λ y h. (stays y.0 id keeps_ended apart h.0, h.1, longer_has caller y.0 v.seen w.seen r.past.history y.1 f.seen g.seen h.2 h.1)) v.ended f.ended)
        (All-cons Ended (w.number, w.own) w.ended
        (comes w.number logs o.0, o.2, longer_has_second caller w.number v.seen w.seen r.past.history w.own f.seen g.seen o.3 o.2)
        (All-weaker (IsEnded caller r.past k w.seen) Ended
        (λ y h. (comes y.0 keeps_ended h.0, h.1, longer_has_second caller y.0 v.seen w.seen r.past.history y.1 f.seen g.seen h.2 h.1)) w.ended g.ended))

    join_own : Fits caller fixed join_past id x
    join_own = let f = r.each id v at in let g = r.each k w there in let b = longer_prefix v.seen w.seen r.past.history f.seen g.seen in record {
      lock = f.lock;
      told_lock = g.lock;
      seen = b.0;
      told = b.1;
      own = λ l. let h = f.own l in
          (stays v.number id logs apart h.0, h.1, h.2, longer_has caller v.number v.seen w.seen r.past.history v.own f.seen g.seen h.3 h.2);
      free = join_free;
      ended = join_ended;
      ticket = f.ticket;
      turn = λ i. absurd (cc);
    }

    -- the seat id keeps its own part in a number, and gets the seat k's
    keeps_part : (n : ℕ) (part : Part) → HasPart n part v.number v.free v.ended → HasPart n part x.number x.free x.ended
    keeps_part n logs h = h
    keeps_part n hands_out h = Contains-append_left v.free w.free n h
    keeps_part n keeps_ended h = (h.0, Contains-append_left v.ended ((w.number, w.own) ∷ w.ended) (n, h.0) h.1)

    gets_part : (n : ℕ) (part : Part) → HasPart n part w.number w.free w.ended → HasPart n (joined_part part) x.number x.free x.ended
    gets_part n logs h = (w.own, Contains-append_right v.ended ((w.number, w.own) ∷ w.ended) (n, w.own) (0, omega arith, ap (λ (i : ℕ). (i, w.own)) h))
    gets_part n hands_out h = Contains-append_right v.free w.free n h
    gets_part n keeps_ended h =
        (h.0, Contains-append_right v.ended ((w.number, w.own) ∷ w.ended) (n, h.0) (Contains-append_right ((w.number, w.own) ∷ []) w.ended (n, h.0) h.1))

    join_roles : (n : ℕ) → n < CALLERS →
        There (set (set s.views id x) k spent_view) (join_past.role n).0 (λ u. HasPart n (join_past.role n).1 u.number u.free u.ended)
    join_roles n l = let Has : View F E → Type 0 = λ u. HasPart n (r.past.role n).1 u.number u.free u.ended in dite (ℕ_discrete (r.past.role n).0 k)
        (λ e. subst (λ (y : ℕ × Part). There (set (set s.views id x) k spent_view) y.0 (λ u. HasPart n y.1 u.number u.free u.ended))
        (sym (comes n (r.past.role n).1 (λ i. (e i, (r.past.role n).1))))
        (now_at_id s r id k v w x at ne there idle off unserved (λ u. HasPart n (joined_part (r.past.role n).1) u.number u.free u.ended)
        (gets_part n (r.past.role n).1 (at_k s r id k v w x at ne there idle off unserved Has (r.past.role n).0 e (r.roles n l)))))
        (λ other. subst (λ (y : ℕ × Part). There (set (set s.views id x) k spent_view) y.0 (λ u. HasPart n y.1 u.number u.free u.ended))
        (sym (stays n (r.past.role n).0 (r.past.role n).1 other refl))
        (elsewhere s r id k v w x at ne there idle off unserved Has (r.past.role n).0 other (keeps_part n (r.past.role n).1) (r.roles n l)))

    join_keeps : FollowsRule fix story caller fixed record { words = s.words; homes = s.homes; views = set (set s.views id x) k spent_view }
    join_keeps = record {
      past = join_past;
      words = r.words;
      count = r.count;
      whole = joined_whole s r id k v w x at ne there idle off unserved refl;
      roles = join_roles;
      tickets = joined_tickets s r id k v w x at ne there idle off unserved refl refl;
      others = r.others;
      each = two_set (Fits caller fixed join_past) s.views id k x spent_view join_own (spent_fits join_past k) join_other;
      value = joined_value s r id k v w x at ne there idle off unserved refl;
    }

  pub hears : (id : ℕ) (v : View F E) (k : ℕ) (w : View F E) → v.has_turn ≡ false → IsNote {B = B} (w, []) →
      Joins (FollowsRule fix story caller fixed) id v k w (view_told v w) spent_view
  hears id v k w idle told s r at ne there = told_keeps s r id k v w at ne (sym (set_else s.views id k (view_told v w) ne) ∙ there) idle told

  pub absorbs : (id : ℕ) (v : View F E) (k : ℕ) (w : View F E) → v.has_turn ≡ false → w.has_turn ≡ false → w.has_ticket ≡ false → w.number < CALLERS →
      Joins (FollowsRule fix story caller fixed) id v k w (view_joined v w) spent_view
  absorbs id v k w idle off unserved small s r at ne there =
      join_keeps s r id k v w at ne (sym (set_else s.views id k (view_joined v w) ne) ∙ there) idle off unserved small

  pub learns : (slots id : ℕ) (m : Sat B F E) →
      Allows (FollowsRule fix story caller fixed) slots id m 0 (λ n. n) (Learnt fix story caller (step slots 0 0 0 none) m)
  learns slots id m s r _ at _ = let f = r.each id m.0 at in (
    m.0,
    keeps,
    tt,
    unmoved fix story caller fixed s r 0 id m.0 m.1 at,
    (
      refl,
      prefix_of_prefix m.0.told m.0.seen r.past.history f.told f.seen,
      (λ x y e i. i ∙ (ap (λ (z : F). Some z) (f.told_lock y i ∙ sym (f.lock x e)) ∙ sym e)),
      sound_of caller fixed r.past id m.0 f r.others,
    ),
  )

module _ {F E : Type 0} (caller : E → ℕ) where
  turns_within : (v : View F E) (ys : List E) → IsSoundView caller v → All (λ t. t ≤ length (longer v.seen ys)) v.turns
  turns_within v ys z = let m = longer_ge v.seen ys in
      All-weaker (λ t. t ≤ length v.seen) (λ t. t ≤ length (longer v.seen ys)) (λ t l. omega arith) v.turns z.turn_lengths

  pub told_sound : (v w : View F E) →
      (v.number < CALLERS → (f : F) × (v.fixed ≡ Some f) → All (λ t. t ≤ length (longer v.seen w.seen)) v.turns → IsSoundView caller (view_told v w)) →
      IsSoundView caller v → IsSoundView caller (view_told v w)
  told_sound v w h z = h z.numbered z.fixed_part (turns_within v w.seen z)

  pub joined_sound : (v w : View F E) →
      (v.number < CALLERS → (f : F) × (v.fixed ≡ Some f) → All (λ t. t ≤ length (longer v.seen w.seen)) v.turns → IsSoundView caller (view_joined v w)) →
      IsSoundView caller v → IsSoundView caller (view_joined v w)
  joined_sound v w h z = h z.numbered z.fixed_part (turns_within v w.seen z)
