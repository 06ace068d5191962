-- What the lines between two positions move.
use Rattle.std.proofs.Common.{◌≡◌, ℕ, zero, suc, ◌+◌, ◌-◌, ◌≤◌, ◌<◌, ◌∙◌, sym, subst, ap, arith, ◌++◌, List}
use Rattle.std.specs.List.{flat_map, range_with_len}
use Rattle.std.proofs.lemmas.List.{append-nil, append_assoc}
use Rattle.bp_types.specs.declared.change.Change.{Change}
use Rattle.bp_types.specs.House.{Inn}
use Rattle.bp_types.specs.Program.{Program}
use Rattle.bp_types.specs.Changes.{Leads, changed_by_all}
use Rattle.bp_types.proofs.Appending.{changes_append}
use Rattle.bp_warm.specs.Turns.{units_moved_by_all}
use Rattle.bp_warm.proofs.Joins.{units_append}
use Rattle.bp_core.specs.Changes.{deltas_at, deltas_between}
use Rattle.bp_core.specs.Instance.{instance_at}
use Rattle.bp_core.specs.Lines.{History}
use Rattle.bp_core.proofs.StoredBetween.{flat_map-more}
use Rattle.bp_judge.specs.Searches.{moved_between}

-- the lines up to a later position change what those up to an earlier one change, and then the others
deltas_further : (h : Inn) (H : History) (a b d : ℕ) → a ≤ b → deltas_between h H a (b + d) ≡ deltas_between h H a b ++ deltas_between h H b (b + d)
deltas_further h H a b zero before =
    let same : b + zero ≡ b = omega arith in
    let none : b + zero - b ≡ 0 = omega arith in
    ap (deltas_between h H a) same ∙ sym (append-nil (deltas_between h H a b)) ∙
    sym (ap (λ k. deltas_between h H a b ++ flat_map (deltas_at h H) (range_with_len b k)) none)
deltas_further h H a b (suc d) before =
    let n : ℕ = b + d in
    let next : b + suc d ≡ n + 1 = omega arith in
    let f = deltas_at h H in
    ap (deltas_between h H a) next
    ∙ flat_map-more f a n (omega (arith, before))
    ∙ ap (λ l. l ++ f n) (deltas_further h H a b d before)
    ∙ append_assoc (deltas_between h H a b) (deltas_between h H b n) (f n)
    ∙ ap (λ l. deltas_between h H a b ++ l) (sym (flat_map-more f b n (omega arith)))
    ∙ sym (ap (λ k. deltas_between h H a b ++ deltas_between h H b k) next)

deltas_join : (h : Inn) (H : History) (a b c : ℕ) → a ≤ b → b ≤ c → deltas_between h H a c ≡ deltas_between h H a b ++ deltas_between h H b c
deltas_join h H a b c before within =
    let P : ℕ → Type 0 = λ k. deltas_between h H a k ≡ deltas_between h H a b ++ deltas_between h H b k in
    subst P (let e : b + (c - b) ≡ c = omega (arith, within) in e) (deltas_further h H a b (c - b) before)

-- the lines between two positions lead from the one instance to the other
abbrev pub IsWay : Inn → History → ℕ → ℕ → Type 0
IsWay h H a b = changed_by_all (instance_at h H a) (deltas_between h H a b) ≡ instance_at h H b

pub way_none : (h : Inn) (H : History) (a : ℕ) → IsWay h H a a
way_none h H a =
    let none : a - a ≡ 0 = omega arith in
    ap (λ k. changed_by_all (instance_at h H a) (flat_map (deltas_at h H) (range_with_len a k))) none

pub way_on : (h : Inn) (H : History) (a b c : ℕ) → a ≤ b → b ≤ c → IsWay h H a b → IsWay h H b c → IsWay h H a c
way_on h H a b c before within first second =
    ap (changed_by_all (instance_at h H a)) (deltas_join h H a b c before within)
    ∙ changes_append (instance_at h H a) (deltas_between h H a b) (deltas_between h H b c)
    ∙ ap (λ p. changed_by_all p (deltas_between h H b c)) first
    ∙ second

-- what a step of a course changes and moves
pub way_step : (h : Inn) (H : History) (a b : ℕ) (changes : List Change) (p q : Program) → p ≡ instance_at h H a → changes ≡ deltas_between h H a b →
    Leads p changes q → q ≡ instance_at h H b → IsWay h H a b
way_step h H a b changes p q start are leads end =
    ap (λ (x : Program). changed_by_all x (deltas_between h H a b)) (sym start) ∙ ap (changed_by_all p) (sym are) ∙ leads.gives ∙ end

pub moved_step : (h : Inn) (H : History) (a b moved : ℕ) (changes : List Change) (p : Program) → a < b → p ≡ instance_at h H a →
    changes ≡ deltas_between h H a b → moved ≡ units_moved_by_all p changes → moved + 1 ≤ moved_between h H a b
moved_step h H a b moved changes p further start are is =
    let same = is ∙ ap (units_moved_by_all p) are ∙ ap (λ (x : Program). units_moved_by_all x (deltas_between h H a b)) start in
    omega (arith, further, same)

-- what is moved adds up
pub moved_on : (h : Inn) (H : History) (a b c : ℕ) → a ≤ b → b ≤ c → IsWay h H a b → moved_between h H a c ≡ moved_between h H a b + moved_between h H b c
moved_on h H a b c before within way =
    let p = instance_at h H a in
    let joined = ap (units_moved_by_all p) (deltas_join h H a b c before within) in
    let apart = units_append p (deltas_between h H a b) (deltas_between h H b c) in
    let here = ap (λ q. units_moved_by_all q (deltas_between h H b c)) way in
    omega (arith, before, within, joined, apart, here)

-- and to a later position no less is moved
pub moved_grows : (h : Inn) (H : History) (a b c : ℕ) → a ≤ b → b ≤ c → moved_between h H a b ≤ moved_between h H a c
moved_grows h H a b c before within =
    let p = instance_at h H a in
    let joined = ap (units_moved_by_all p) (deltas_join h H a b c before within) in
    let apart = units_append p (deltas_between h H a b) (deltas_between h H b c) in
    omega (arith, before, within, joined, apart)
