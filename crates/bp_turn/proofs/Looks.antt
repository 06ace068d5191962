-- A seat looks at the length, or notes which number it hands out next. Neither changes what the table shows.
use Rattle.std.proofs.Common.{◌≡◌, ℕ, eqb, true, List, get_or, Option, sym, refl, ap, ◌∙◌, subst, inl, inr, ⊎_elim, arith}
use mathlib.Core.Option.{some, none}
use prog.Atomic.{either}
use lib.ListN.{get_elem?}
use lib.Seq.{set-get_or}
use Rattle.atomic_table.specs.Table.{State, keeps, step, stepped, Allows}
use Rattle.atomic_table.proofs.Lists.{exchanged}
use Rattle.bp_turn.specs.declared.table.View.{View}
use Rattle.bp_turn.specs.Plays.{Sat, Looked, Chose}
use Rattle.bp_turn.specs.Rule.{Fits, FollowsRule, HasPart}
use Rattle.bp_turn.specs.Views.{view_with_look, view_with_choice}
use Rattle.bp_turn.proofs.Changed.{one_set, still_there, still_out, still_in}
use Rattle.bp_turn.proofs.Prefixes.{prefix_le}

module _ {B F E : Type 0} (fix : B → F) (story : B → List E) (caller : E → ℕ) (fixed : F) where
  -- the seat's looks and its choice may change
  only_noted : (s : State (Option B) (View F E)) (r : FollowsRule fix story caller fixed s) (id : ℕ) (v : View F E) (at : get_elem? s.views id ≡
      some v) (looks : List ℕ) (chosen : ℕ) (c : List (ℕ × Option B))
      → FollowsRule fix story caller fixed (stepped s 0 (get_or s.words 0 0) id c (record v { looks = looks; chosen = chosen }) keeps)
  only_noted s r id v at looks chosen c = let w : View F E = record v { looks = looks; chosen = chosen } in record {
    past = r.past;
    words = set-get_or s.words 0 0 ∙ r.words;
    count = r.count;
    whole = (r.whole.0, still_there (λ u. u.seen ≡ r.past.history) s.views id v w at (λ e. e) r.whole.0 r.whole.1);
    roles = λ n l. still_there (λ u. HasPart n (r.past.role n).1 u.number u.free u.ended) s.views id v w at (λ h. h) (r.past.role n).0 (r.roles n l);
    tickets = λ t a b. still_there (λ u. (u.has_ticket ≡ true) × (u.ticket ≡ t)) s.views id v w at (λ h. h) (r.past.drawer t) (r.tickets t a b);
    others = r.others;
    each = one_set (Fits caller fixed r.past) s.views id w
        (let f = r.each id v at in
        record {
          lock = f.lock;
          told_lock = f.told_lock;
          seen = f.seen;
          told = f.told;
          own = f.own;
          free = f.free;
          ended = f.ended;
          ticket = f.ticket;
          turn = f.turn;
        }) (λ j u _ there. r.each j u there);
    value = ⊎_elim
        (λ x. inl (x.0, still_out s.views id v w at (λ i. i) x.1))
        (λ x. inr (x.0, x.1, x.2, x.3, still_in s.views id w (x.4 id v at) x.4))
        r.value;
  }

  pub looks_at_length : (slots id : ℕ) (m : Sat B F E) → Allows (FollowsRule fix story caller fixed) slots id m 0 (λ n. n) (Looked (step slots 0 0 0 none) m)
  looks_at_length slots id m s r _ at _ = let w = view_with_look m.0 (get_or s.words 0 0) in (
    w,
    keeps,
    tt,
    only_noted s r id m.0 at w.looks m.0.chosen m.1,
    (refl, let n = ap (λ (ws : List ℕ). get_or ws 0 0) r.words in let l = prefix_le m.0.seen r.past.history (r.each id m.0 at).seen in omega arith),
  )

  pub chooses : (slots id : ℕ) (m : Sat B F E) (n : ℕ) →
      Allows (FollowsRule fix story caller fixed) slots id m 0 (λ k. either (eqb k n) n k) (Chose (step slots 0 n n none) m)
  chooses slots id m n s r _ at _ =
      let k : ℕ = get_or s.words 0 0 in
      let same : either (eqb k n) n k ≡ k = exchanged k n n (λ x. x ≡ k) (λ e. sym e) (λ _. refl) in (
        view_with_choice m.0 n,
        keeps,
        tt,
        subst (λ (x : ℕ). FollowsRule fix story caller fixed (stepped s 0 x id m.1 (view_with_choice m.0 n) keeps)) (sym same)
            (only_noted s r id m.0 at m.0.looks n m.1),
        refl,
      )
