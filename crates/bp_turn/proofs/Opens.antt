-- The rule holds of a new table.
use Rattle.std.proofs.Common.{◌≡◌, ℕ, zero, suc, ◌+◌, ◌-◌, ◌<◌, ◌≤◌, false, List, [], ◌∷◌, length, Some, sym, refl, ap, subst, inr, arith}
use mathlib.Core.Option.{some, some-injective, some-ne-none}
use mathlib.Core.Logic.{dite}
use native.Mathlib.Decide.{ℕ_discrete}
use lib.ListN.{get_elem?}
use Rattle.std.specs.List.{All}
use Rattle.std.proofs.lemmas.List.Elements.{All-nil, All-weaker}
use Rattle.atomic_table.specs.Table.{opening}
use Rattle.bp_types.specs.declared.limits.TheConstants.{CALLERS}
use Rattle.bp_turn.specs.declared.table.View.{View}
use Rattle.bp_turn.specs.Callers.{numbers_to_hand_out}
use Rattle.bp_turn.specs.Rule.{Part, logs, hands_out, Past, Fits, FollowsRule, IsFree, IsEnded, HasPart, There}
use Rattle.bp_turn.specs.Seat.{IsAtRest}
use Rattle.bp_turn.specs.Views.{first_view}
use Rattle.bp_turn.proofs.Entries.{all_of, none_of}
use Rattle.bp_turn.proofs.Numbers.{but, but_here, but_else, count_none, run_between, run_contains}
use Rattle.bp_turn.proofs.Prefixes.{prefix_self}
use Rattle.bp_turn.proofs.Uniqueness.{sound_of}

module _ {B F E : Type 0} (fix : B → F) (story : B → List E) (caller : E → ℕ) (value : B) (first : All (λ (e : E). caller e ≡ 0) (story value)) where
  abbrev roles : ℕ → ℕ × Part
  roles = but (λ _. (0, hands_out)) 0 (0, logs)

  abbrev opening_past : Past E
  opening_past = record { history = story value; served = 0; drawn = 0; drawer = λ _. 0; role = roles; waits = λ _. false }

  abbrev opener : View F E
  opener = first_view (fix value) (story value)

  opener_fits : Fits caller (fix value) opening_past 0 opener
  opener_fits = record {
    lock = λ f e. cc;
    told_lock = λ f e. absurd (cc);
    seen = prefix_self (story value);
    told = (story value, refl);
    own = λ _. (but_here (λ _. (0, hands_out)) 0 (0, logs) 0 refl, refl, all_of caller 0 (story value) first, all_of caller 0 (story value) first);
    free = All-weaker (λ n. (1 ≤ n) × (n < 1 + (CALLERS - 1))) (IsFree caller opening_past 0) (λ n h. let l = h.0 in let m = h.1 in
        (omega arith, but_else (λ _. (0, hands_out)) 0 (0, logs) n (λ e. omega arith), refl, none_of caller 0 n (story value) (λ e. omega arith) first))
        numbers_to_hand_out (run_between 1 (CALLERS - 1));
    ended = All-nil (IsEnded caller opening_past 0 (story value));
    ticket = λ i. absurd (cc);
    turn = λ i. absurd (cc);
  }

  opener_has : (n : ℕ) → n < CALLERS → There (opener ∷ []) (roles n).0 (λ v. HasPart n (roles n).1 v.number v.free v.ended)
  opener_has n l = dite (ℕ_discrete n 0)
      (λ e. subst (λ (x : ℕ × Part). There (opener ∷ []) x.0 (λ v. HasPart n x.1 v.number v.free v.ended))
      (sym (but_here (λ _. (0, hands_out)) 0 (0, logs) n e)) (opener, refl, sym e))
      (λ ne. subst (λ (x : ℕ × Part). There (opener ∷ []) x.0 (λ v. HasPart n x.1 v.number v.free v.ended))
      (sym (but_else (λ _. (0, hands_out)) 0 (0, logs) n ne)) (opener, refl, run_contains 1 (CALLERS - 1) n (omega arith) (omega arith)))

  pub opens : FollowsRule fix story caller (fix value) (opening (length (story value) ∷ 0 ∷ 0 ∷ []) (Some value ∷ []) opener)
  opens = record {
    past = opening_past;
    words = refl;
    count = let n = count_none CALLERS in omega arith;
    whole = (0, (opener, refl, refl));
    roles = opener_has;
    tickets = λ t a b. absurd (omega arith);
    others = λ n l. none_of caller 0 n (story value) (λ e. omega arith) first;
    each = one;
    value = inr (value, refl, refl, refl, off);
  }
    where
      one : (j : ℕ) (v : View F E) → get_elem? (opener ∷ []) j ≡ some v → Fits caller (fix value) opening_past j v
      one zero v e = subst (Fits caller (fix value) opening_past 0) (some-injective _ _ e) opener_fits
      one (suc j) v e = absurd (some-ne-none v (sym e))

      off : (j : ℕ) (v : View F E) → get_elem? (opener ∷ []) j ≡ some v → v.has_turn ≡ false
      off zero v e = ap (λ (x : View F E). x.has_turn) (sym (some-injective _ _ e))
      off (suc j) v e = absurd (some-ne-none v (sym e))

  pub opener_at_rest : IsAtRest {B = B} caller (opener, [])
  opener_at_rest = record {
    sound = sound_of caller (fix value) opening_past 0 opener opener_fits (λ n l. none_of caller 0 n (story value) (λ e. omega arith) first) (omega arith)
        (fix value, refl) (All-nil (λ t. t ≤ length (story value)));
    ticket = refl;
    slot = refl;
  }
