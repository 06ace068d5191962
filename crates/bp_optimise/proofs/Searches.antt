-- Searches of several restarts, added up.
use Rattle.std.proofs.Common.{◌≡◌, ℕ, ◌+◌, ◌-◌, ◌≤◌, [], length, sym, ap, subst, ◌∙◌, arith, length-append}
use Rattle.std.specs.List.{flat_map, range_with_len}
use Rattle.bp_types.specs.House.{Inn}
use Rattle.bp_types.specs.Changes.{changed_by_all}
use Rattle.bp_types.proofs.Appending.{changes_append}
use Rattle.bp_paths.specs.Paths.{Serves}
use Rattle.bp_flow.specs.Solvers.{CountsSearches}
use Rattle.bp_warm.specs.Turns.{units_moved_by_all}
use Rattle.bp_warm.proofs.Joins.{units_append}
use Rattle.bp_turn.specs.Prefix.{IsPrefix}
use Rattle.bp_core.specs.Lines.{History}
use Rattle.bp_core.specs.Instance.{instance_at}
use Rattle.bp_core.specs.Changes.{deltas_at, deltas_between}
use Rattle.bp_core.proofs.Joining.{deltas_append, deltas_last}
use Rattle.bp_core.proofs.Growing.{instance_stays}
use Rattle.bp_desk.specs.Passes.{PassState}
use Rattle.bp_optimise.specs.Following.{Optimising, HasLooked}
use Rattle.bp_optimise.specs.Searching.{most_searches, LeadOn, CountsCatchingUp}

serves_on : (a b c m n : ℕ) → Serves a b m → Serves b c n → Serves a c (m + n)
serves_on a b c m n first second = grind (arith)

-- from a position to itself nothing changes
none_between : (h : Inn) (G : History) (a : ℕ) → deltas_between h G a a ≡ []
none_between h G a = ap (λ n. flat_map (deltas_at h G) (range_with_len a n)) (let e : a - a ≡ 0 = omega arith in e)

pub lead_still : (h : Inn) (G : History) (a : ℕ) → LeadOn h G a a
lead_still h G a = ap (changed_by_all (instance_at h G a)) (none_between h G a)

-- one stretch after another, of which the second was seen later
pub lead_further : (old mid : PassState) (a b c : ℕ) → HasLooked old mid → a ≤ b → b ≤ c → c ≤ length old.seen → LeadOn old.house old.seen a b →
    LeadOn mid.house mid.seen b c → LeadOn old.house old.seen a c
lead_further old mid a b c l ab bc within first second =
    let h = old.house in
    let G = old.seen in
    let here : LeadOn h mid.seen b c = subst (λ i. LeadOn i mid.seen b c) l.house second in
    let start = instance_stays h G mid.seen b l.begins (omega (arith, bc, within)) in
    let deltas = deltas_last h G mid.seen b c l.begins bc within in
    let end = instance_stays h G mid.seen c l.begins within in
    let on : LeadOn h G b c = ap (λ p. changed_by_all p (deltas_between h G b c)) (sym start) ∙ ap (changed_by_all (instance_at h mid.seen b)) (sym deltas) ∙
    here ∙ end in
    ap (changed_by_all (instance_at h G a)) (sym (deltas_append h G a b c ab bc)) ∙
    changes_append (instance_at h G a) (deltas_between h G a b) (deltas_between h G b c)
    ∙ ap (λ p. changed_by_all p (deltas_between h G b c)) first ∙ on

-- two stretches of searches are one
pub counts_on : (s t u a b c m n : ℕ) → CountsSearches s t a b m → CountsSearches t u b c n → CountsSearches s u a c (m + n)
counts_on s t u a b c m n (one, serves) (two, more) =
    ((omega (arith, one, two), omega (arith, one, two)), subst (Serves a c) (omega (arith, one, two)) (serves_on a b c (t - s) (u - t) serves more))

-- no search at all
pub counts_none : (s a n : ℕ) → CountsSearches s s a a n
counts_none s a n = ((omega arith, omega arith), serves_none)
  where
    serves_none : Serves a a (s - s)
    serves_none = let e : s - s ≡ 0 = omega arith in subst (Serves a a) (sym e) (grind (arith))

-- what two stretches of a history need is what both need together; the second is counted in a longer history
pub most_on : (h : Inn) (G H : History) (a b c : ℕ) → IsPrefix G H → a ≤ b → b ≤ c → c ≤ length G → LeadOn h G a b
    → most_searches h G a b + most_searches h H b c ≡ most_searches h G a c
most_on h G H a b c grows ab bc within leads =
    let first = deltas_between h G a b in
    let second = deltas_between h G b c in
    let later : most_searches h H b c ≡ most_searches h G b c =
    ap (λ p. units_moved_by_all p (deltas_between h H b c) + length (deltas_between h H b c)) (instance_stays h G H b grows (omega (arith, bc, within)))
    ∙ ap (λ ds. units_moved_by_all (instance_at h G b) ds + length ds) (deltas_last h G H b c grows bc within) in
    let both = deltas_append h G a b c ab bc in
    let units : units_moved_by_all (instance_at h G a) (deltas_between h G a c) ≡
    units_moved_by_all (instance_at h G a) first + units_moved_by_all (instance_at h G b) second =
    ap (units_moved_by_all (instance_at h G a)) (sym both) ∙ units_append (instance_at h G a) first second ∙
    ap (λ p. units_moved_by_all (instance_at h G a) first + units_moved_by_all p second) leads in
    let many = ap length both in
    omega (arith, later, units, many, length-append first second)

-- the same of a longer history
pub most_later : (h : Inn) (G H : History) (a b : ℕ) → IsPrefix G H → a ≤ b → b ≤ length G → most_searches h H a b ≡ most_searches h G a b
most_later h G H a b grows ab within =
    ap (λ p. units_moved_by_all p (deltas_between h H a b) + length (deltas_between h H a b)) (instance_stays h G H a grows (omega (arith, ab, within)))
    ∙ ap (λ ds. units_moved_by_all (instance_at h G a) ds + length ds) (deltas_last h G H a b grows ab within)

-- an optimiser that has not moved
pub counts_still : (h : Inn) (seen : History) (steps : ℕ) (o : Optimising) → CountsCatchingUp h seen steps steps o o
counts_still h seen steps o = counts_none steps o.solver.served (most_searches h seen o.position o.position)

-- one stretch more, of which a pass has seen as much before
pub counts_further : (old mid : PassState) (s t u : ℕ) (a b c : Optimising) → LeadOn old.house old.seen a.position b.position → HasLooked old mid →
    a.position ≤ b.position → b.position ≤ c.position → c.position ≤ length old.seen
    → CountsCatchingUp old.house old.seen s t a b → CountsCatchingUp mid.house mid.seen t u b c → CountsCatchingUp old.house old.seen s u a c
counts_further old mid s t u a b c leads l ab bc within first second =
    let house : CountsCatchingUp old.house mid.seen t u b c = subst (λ h. CountsCatchingUp h mid.seen t u b c) l.house second in
    let m = most_searches old.house old.seen a.position b.position in
    let n = most_searches old.house mid.seen b.position c.position in
    subst (λ most. CountsSearches s u a.solver.served c.solver.served most)
    (most_on old.house old.seen mid.seen a.position b.position c.position l.begins ab bc within leads)
    (counts_on s t u a.solver.served b.solver.served c.solver.served m n first house)

-- the same of a longer history
pub counts_later : (h k : Inn) (G H : History) (s t : ℕ) (a b : Optimising) → k ≡ h → IsPrefix G H → a.position ≤ b.position → b.position ≤ length G →
    CountsCatchingUp h G s t a b → CountsCatchingUp k H s t a b
counts_later h k G H s t a b same grows ab within counts =
    let most : most_searches k H a.position b.position ≡ most_searches h G a.position b.position =
    ap (λ i. most_searches i H a.position b.position) same ∙ most_later h G H a.position b.position grows ab within in
    subst (λ n. CountsSearches s t a.solver.served b.solver.served n) (sym most) counts
