-- A seat at its turn adds its entry to the history.
use Rattle.std.proofs.Common.{
  ◌≡◌,
  ◌≢◌,
  ℕ,
  ◌+◌,
  ◌%◌,
  ◌^◌,
  ◌<◌,
  ◌≤◌,
  true,
  List,
  [],
  ◌∷◌,
  ◌++◌,
  length,
  set,
  get_or,
  Option,
  Some,
  None,
  sym,
  refl,
  ap,
  ◌∙◌,
  subst,
  inl,
  ⊎_elim,
  length-append,
  arith,
}
use mathlib.Core.Option.{some, none}
use lib.ListN.{get_elem?}
use Rattle.std.specs.List.{All}
use Rattle.std.proofs.lemmas.List.Elements.{All-weaker}
use Rattle.atomic_table.specs.Table.{State, keeps, step, stepped, Allows}
use Rattle.bp_types.specs.declared.limits.TheConstants.{CALLERS}
use Rattle.bp_turn.specs.declared.table.View.{View}
use Rattle.bp_turn.specs.Callers.{entries_by}
use Rattle.bp_turn.specs.Plays.{Sat, Logged}
use Rattle.bp_turn.specs.Prefix.{IsPrefix}
use Rattle.bp_turn.specs.Rule.{hands_out, keeps_ended, Past, Fits, IsFree, IsEnded, FollowsRule, HasPart}
use Rattle.bp_turn.specs.Seat.{IsSoundView}
use Rattle.bp_turn.specs.Views.{view_with_entry}
use Rattle.bp_turn.proofs.Changed.{at_there, one_set, still_there, still_out}
use Rattle.bp_turn.proofs.Entries.{one_more, no_more}
use Rattle.bp_turn.proofs.Prefixes.{prefix-push, prefix_self, last_same}
use Rattle.bp_turn.proofs.Uniqueness.{apart, not_logged, no_other_turn, sound_of}

-- the value in the first slot, or the default
abbrev value_in : {B : Type 0} → B → List (ℕ × Option B) → B
value_in d [] = d
value_in d (x ∷ xs) = elim x.1 [ Some b ↦ b | None ↦ d ]

module _ {B F E : Type 0} (fix : B → F) (story : B → List E) (caller : E → ℕ) (fixed : F) where
  module _ (s : State (Option B) (View F E)) (r : FollowsRule fix story caller fixed s) (id : ℕ) (v : View F E) (at : get_elem? s.views id ≡
      some v) (small : v.number < CALLERS) (on : v.has_turn ≡ true)
      (e : E) (mine : caller e ≡ v.number) (fits : length (v.seen ++ e ∷ []) < 2 ^ 64) where
    abbrev w : View F E
    w = view_with_entry v e

    abbrev longer_history : List E
    longer_history = r.past.history ++ e ∷ []

    abbrev log_past : Past E
    log_past = record {
      history = longer_history;
      served = r.past.served;
      drawn = r.past.drawn;
      drawer = r.past.drawer;
      role = r.past.role;
      waits =
          r.past.waits;
    }

    -- the entry is not of a number that is handed out later, nor of an ended one
    log_free : (j : ℕ) (ns : List ℕ) → All (IsFree caller r.past j) ns → All (IsFree caller log_past j) ns
    log_free j = All-weaker (IsFree caller r.past j) (IsFree caller log_past j)
        (λ n o. (
          o.0,
          o.1,
          o.2,
          no_more caller n r.past.history e
              (λ x. not_logged caller fixed r.past id j n hands_out v (r.each id v at) small o.1 (λ i. cc) (sym x ∙ mine)) ∙ o.3,
        ))

    log_away : (j : ℕ) (x : ℕ × List E) → r.past.role x.0 ≡ (j, keeps_ended) → caller e ≢ x.0
    log_away j x role i = not_logged caller fixed r.past id j x.0 keeps_ended v (r.each id v at) small role (λ i. cc) (sym i ∙ mine)

    log_other : (j : ℕ) (u : View F E) → j ≢ id → get_elem? s.views j ≡ some u → Fits caller fixed log_past j u
    log_other j u ne there = let f = r.each id v at in let g = r.each j u there in let h = r.past.history in record {
      lock = g.lock;
      told_lock = g.told_lock;
      seen = prefix-push u.seen h e g.seen;
      told = prefix-push u.told h e g.told;
      own = λ l. let o = g.own l in
          (o.0, o.1, no_more caller u.number h e (λ i. apart caller fixed r.past id j v u f g (λ x. ne (sym x)) small l (sym i ∙ mine)) ∙ o.2, o.3);
      free = log_free j u.free g.free;
      ended = All-weaker (IsEnded caller r.past j u.seen) (IsEnded caller log_past j u.seen) (λ x o. (
        o.0,
        no_more caller x.0 h e (log_away j x o.0) ∙ o.1,
        o.2,
      )) u.ended g.ended;
      ticket = g.ticket;
      turn = λ i. absurd (let n = no_other_turn fix story caller fixed s r id v at on j u ne there in cc);
    }

    -- at its turn the seat had seen the whole history, and has so again
    sees_all : w.seen ≡ longer_history
    sees_all = ap (λ (l : List E). l ++ e ∷ []) ((r.each id v at).turn on).2

    log_own : Fits caller fixed log_past id w
    log_own = let f = r.each id v at in let t = f.turn on in let h = r.past.history in record {
      lock = f.lock;
      told_lock = f.told_lock;
      seen = subst (λ (l : List E). IsPrefix l longer_history) (sym sees_all) (prefix_self longer_history);
      told = prefix-push v.told h e f.told;
      own = λ l. let o = f.own l in (
        o.0,
        o.1,
        one_more caller v.number h e mine ∙ ap (λ (l : List E). l ++ e ∷ []) o.2,
        one_more caller v.number v.seen e mine ∙
            ap (λ (l : List E). l ++ e ∷ []) o.3,
      );
      free = log_free id v.free f.free;
      ended = All-weaker (IsEnded caller r.past id v.seen) (IsEnded caller log_past id w.seen) (λ x o. let away = log_away id x o.0 in
          (o.0, no_more caller x.0 h e away ∙ o.1, no_more caller x.0 v.seen e away ∙ o.2)) v.ended f.ended;
      ticket = f.ticket;
      turn = λ _. (t.0, t.1, sees_all);
    }

    log_others : (n : ℕ) → CALLERS ≤ n → entries_by caller n longer_history ≡ []
    log_others n l = no_more caller n r.past.history e (λ i. omega arith) ∙ r.others n l

    log_length : (length r.past.history + 1) % 2 ^ 64 ≡ length longer_history
    log_length = let t = (r.each id v at).turn on in let k = ap length t.2 in let m = length-append v.seen (e ∷ []) in
        let o = length-append r.past.history (e ∷ []) in omega arith

    log_keeps : (c : List (ℕ × Option B)) → FollowsRule fix story caller fixed (stepped s 0 ((get_or s.words 0 0 + 1) % 2 ^ 64) id c w keeps)
    log_keeps c = record {
      past = log_past;
      words = ap (λ (ws : List ℕ). set ws 0 ((get_or ws 0 0 + 1) % 2 ^ 64)) r.words ∙
          ap (λ (n : ℕ). n ∷ r.past.drawn % 2 ^ 64 ∷ r.past.served % 2 ^ 64 ∷ []) log_length;
      count = r.count;
      whole = (id, (w, at_there s.views id v w at, sees_all));
      roles = λ n l. still_there (λ u. HasPart n (r.past.role n).1 u.number u.free u.ended) s.views id v w at (λ h. h) (r.past.role n).0 (r.roles n l);
      tickets = λ t a b. still_there (λ u. (u.has_ticket ≡ true) × (u.ticket ≡ t)) s.views id v w at (λ h. h) (r.past.drawer t) (r.tickets t a b);
      others = log_others;
      each = one_set (Fits caller fixed log_past) s.views id w log_own log_other;
      value = ⊎_elim (λ x. inl (x.0, still_out s.views id v w at (λ i. i) x.1)) (λ x. absurd (let h = x.4 id v at in cc)) r.value;
    }

    log_sound : IsSoundView caller v → IsSoundView caller w
    log_sound z = let m = length-append v.seen (e ∷ []) in
        sound_of caller fixed log_past id w log_own log_others small z.fixed_part
        (All-weaker (λ t. t ≤ length v.seen) (λ t. t ≤ length w.seen) (λ t l. omega arith) v.turns z.turn_lengths)

  pub logs_entry : (slots id : ℕ) (m : Sat B F E) (b : B) (e : E) → m.1 ≡ (0, Some b) ∷ [] → m.0.number < CALLERS → m.0.has_turn ≡ true →
      story b ≡ m.0.seen ++ e ∷ [] → caller e ≡ m.0.number → length (m.0.seen ++ e ∷ []) < 2 ^ 64
      → Allows (FollowsRule fix story caller fixed) slots id m 0 (λ n. (n + 1) % 2 ^ 64) (Logged fix story caller (step slots 0 1 0 none) m)
  logs_entry slots id m b e out small on is mine fits s r _ at _ = (
    view_with_entry m.0 e,
    keeps,
    tt,
    log_keeps s r id m.0 at small on e mine fits m.1,
    (λ b' e' out' is'. let same : b ≡ b' = ap (value_in b) (sym out ∙ out') in let last : e ≡ e' = last_same m.0.seen e e' (sym is ∙ (ap story same ∙ is')) in
        subst (λ (x : E). (◌≡◌ {A = Sat B F E} (view_with_entry m.0 e, m.1) (view_with_entry m.0 x, m.1)) ×
        (IsSoundView caller m.0 → IsSoundView caller (view_with_entry m.0 x))) last (refl, log_sound s r id m.0 at small on e mine fits)),
  )
