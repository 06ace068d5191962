-- A seat looks which ticket is served, and has the turn and the value at its own.
use Rattle.std.proofs.Common.{
  ◌≡◌,
  ℕ,
  ◌%◌,
  ◌^◌,
  ◌<◌,
  ◌≤◌,
  true,
  false,
  List,
  [],
  ◌∷◌,
  length,
  set,
  get_or,
  Option,
  Some,
  sym,
  refl,
  ap,
  ◌∙◌,
  subst,
  inl,
  append-nil,
  ⊎_elim,
  arith,
}
use mathlib.Core.Option.{some, none, some-injective}
use mathlib.Core.Option as maybe
use mathlib.Core.Logic.{dite}
use native.Mathlib.Decide.{ℕ_discrete}
use lib.ListN.{get_elem?}
use lib.Seq.{set-get_or}
use Rattle.std.proofs.lemmas.List.Elements.{All-weaker, All-push}
use Rattle.atomic_table.specs.Table.{State, keeps, takes, step, stepped, Allows}
use Rattle.atomic_table.proofs.Lists.{one_turn}
use Rattle.bp_types.specs.declared.limits.TheConstants.{CALLERS}
use Rattle.bp_turn.specs.declared.table.View.{View}
use Rattle.bp_turn.specs.Callers.{entries_by}
use Rattle.bp_turn.specs.Plays.{Sat, Took, Called}
use Rattle.bp_turn.specs.Prefix.{IsPrefix}
use Rattle.bp_turn.specs.Rule.{Fits, IsEnded, FollowsRule, HasPart}
use Rattle.bp_turn.specs.Seat.{IsSoundView}
use Rattle.bp_turn.specs.Views.{view_at_turn}
use Rattle.bp_turn.proofs.Changed.{at_there, one_set, still_there}
use Rattle.bp_turn.proofs.Prefixes.{prefix_le}
use Rattle.bp_turn.proofs.Uniqueness.{near, one_turn_only, sound_of, unmoved}

module _ {B F E : Type 0} (fix : B → F) (story : B → List E) (caller : E → ℕ) (fixed : F) where
  module _ (s : State (Option B) (View F E)) (r : FollowsRule fix story caller fixed s) (id : ℕ) (v : View F E) (at : get_elem? s.views id ≡
      some v) (small : v.number < CALLERS) (has : v.has_ticket ≡ true) (off : v.has_turn ≡ false) where
    is_served : get_or s.words 2 0 ≡ v.ticket % 2 ^ 64 → v.ticket ≡ r.past.served
    is_served e = let h = (r.each id v at).ticket has in
        sym (one_turn r.past.served v.ticket (2 ^ 64) h.1 (near fix story caller fixed s r v.ticket h.2) (sym (ap (λ (ws : List ℕ). get_or ws 2 0) r.words) ∙
        e))

    value_there : v.ticket ≡ r.past.served → (b : B) × (s.homes ≡ some (Some b) ∷ []) × (story b ≡ r.past.history) × (fix b ≡ fixed)
    value_there now = ⊎_elim
        (λ x. let j = x.1.0 in let o = x.1.1 in let same = one_turn_only fix story caller fixed s r id v at has now j o.0 o.1 o.2 in
        let u : o.0 ≡ v = some-injective o.0 v (sym o.1 ∙ (ap (get_elem? s.views) same ∙ at)) in
        absurd (let e = ap (λ (y : View F E). y.has_turn) u in let t = o.2 in cc))
        (λ x. (x.0, x.1, x.2, x.3))
        r.value

    module _ (now : v.ticket ≡ r.past.served) (b : B) (lies : s.homes ≡ some (Some b) ∷ []) (is : story b ≡ r.past.history) (locked : fix b ≡ fixed) where
      abbrev w : View F E
      w = view_at_turn v (story b)

      call_own : Fits caller fixed r.past id w
      call_own = let f = r.each id v at in let by = λ (n : ℕ). ap (entries_by caller n) is in record {
        lock = f.lock;
        told_lock = f.told_lock;
        seen = ([], sym is ∙ sym (append-nil (story b)));
        told = f.told;
        own = λ l. let h = f.own l in (h.0, h.1, h.2, by v.number ∙ h.2);
        free = f.free;
        ended = All-weaker (IsEnded caller r.past id v.seen) (IsEnded caller r.past id (story b)) (λ x h. (h.0, h.1, by x.0 ∙ h.1)) v.ended f.ended;
        ticket = f.ticket;
        turn = λ _. (has, now, is);
      }

      call_keeps : FollowsRule fix story caller fixed (stepped s 2 (get_or s.words 2 0) id [] w (takes 0 (Some b)))
      call_keeps = record {
        past = r.past;
        words = set-get_or s.words 2 0 ∙ r.words;
        count = r.count;
        whole = (r.whole.0, still_there (λ u. u.seen ≡ r.past.history) s.views id v w at (λ _. is) r.whole.0 r.whole.1);
        roles = λ n l. still_there (λ u. HasPart n (r.past.role n).1 u.number u.free u.ended) s.views id v w at (λ h. h) (r.past.role n).0 (r.roles n l);
        tickets = λ t a b. still_there (λ u. (u.has_ticket ≡ true) × (u.ticket ≡ t)) s.views id v w at (λ h. h) (r.past.drawer t) (r.tickets t a b);
        others = r.others;
        each = one_set (Fits caller fixed r.past) s.views id w call_own (λ j u _ there. r.each j u there);
        value = inl (ap (λ (hs : List (maybe.Option (Option B))). set hs 0 none) lies, (id, (w, at_there s.views id v w at, refl)));
      }

      call_sound : IsSoundView caller v → IsSoundView caller w
      call_sound z = let f = r.each id v at in let more = prefix_le v.seen r.past.history f.seen in let whole = ap length is in
          sound_of caller fixed r.past id w call_own r.others z.numbered z.fixed_part
          (All-push (λ t. t ≤ length (story b)) v.turns (length (story b))
          (All-weaker (λ t. t ≤ length v.seen) (λ t. t ≤ length (story b)) (λ t l. omega arith) v.turns z.turn_lengths) (omega arith))

      call_took : (c : List (ℕ × Option B)) → Took fix story caller (v, c) (w, (0, Some b) ∷ c)
      call_took c = let f = r.each id v at in (
        b,
        refl,
        (λ x e. e ∙ ap (λ (y : F). Some y) (f.lock x e ∙ sym locked)),
        subst (IsPrefix v.seen) (sym is) f.seen,
        call_sound,
      )

  pub calls : (slots id : ℕ) (m : Sat B F E) → m.0.number < CALLERS → m.0.has_ticket ≡ true → m.0.has_turn ≡ false →
      Allows (FollowsRule fix story caller fixed) slots id m 2 (λ n. n) (Called fix story caller (step slots 2 0 0 none) m)
  calls slots id m small has off s r _ at _ = dite (ℕ_discrete (get_or s.words 2 0) (m.0.ticket % 2 ^ 64))
      (λ e. let now = is_served s r id m.0 at small has off e in let h = value_there s r id m.0 at small has off now in (
        view_at_turn m.0 (story h.0),
        takes 0 (Some h.0),
        ap (λ (hs : List (maybe.Option (Option B))). get_elem? hs 0) h.1,
        call_keeps s r id m.0 at small has off now h.0 h.1 h.2 h.3,
        ((λ _. call_took s r id m.0 at small has off now h.0 h.1 h.2 h.3 m.1), (λ ne. absurd (ne e))),
      ))
      (λ ne. (m.0, keeps, tt, unmoved fix story caller fixed s r 2 id m.0 m.1 at, ((λ e. absurd (ne e)), (λ _. refl))))
