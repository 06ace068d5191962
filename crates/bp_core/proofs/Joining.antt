-- What stands between three positions, and in a longer history.
use Rattle.std.proofs.Common.{◌≡◌, ℕ, zero, suc, ◌+◌, ◌-◌, ◌<◌, ◌≤◌, [], ◌++◌, length, take, sym, ap, subst, ◌∙◌, arith, append-nil, append_assoc}
use Rattle.std.specs.List.{flat_map, range_with_len}
use Rattle.std.proofs.Math.ListN.{get_or-append}
use Rattle.bp_types.specs.House.{Inn}
use Rattle.bp_core.specs.Lines.{History, no_line, line_at}
use Rattle.bp_core.specs.Changes.{deltas_of, deltas_at, deltas_between}
use Rattle.bp_core.specs.Staying.{IsPrefix, DeltasAppend, DeltasLast}
use Rattle.bp_core.proofs.Growing.{take-prefix}
use Rattle.bp_core.proofs.StoredBetween.{flat_map-more}

none_between : (h : Inn) (H : History) (a : ℕ) → deltas_between h H a a ≡ []
none_between h H a = ap (λ k. flat_map (deltas_at h H) (range_with_len a k)) (let e : a - a ≡ 0 = omega arith in e)

join_on : (h : Inn) (H : History) (a b k : ℕ) → a ≤ b → deltas_between h H a b ++ deltas_between h H b (b + k) ≡ deltas_between h H a (b + k)
join_on h H a b zero le =
    let e : b + 0 ≡ b = omega arith in
    ap (λ n. deltas_between h H a b ++ deltas_between h H b n) e ∙ ap (λ l. deltas_between h H a b ++ l) (none_between h H b) ∙
    append-nil (deltas_between h H a b) ∙ ap (deltas_between h H a) (sym e)
join_on h H a b (suc k) le =
    let f = deltas_at h H in
    let e : b + suc k ≡ b + k + 1 = omega arith in
    ap (λ n. deltas_between h H a b ++ deltas_between h H b n) e
    ∙ ap (λ l. deltas_between h H a b ++ l) (flat_map-more f b (b + k) (omega arith))
    ∙ sym (append_assoc (deltas_between h H a b) (deltas_between h H b (b + k)) (f (b + k)))
    ∙ ap (λ l. l ++ f (b + k)) (join_on h H a b k le)
    ∙ sym (flat_map-more f a (b + k) (omega (arith, le)))
    ∙ ap (deltas_between h H a) (sym e)

pub deltas_append : DeltasAppend
deltas_append h H a b c le on =
    let e : b + (c - b) ≡ c = omega (arith, on) in
    subst (λ n. deltas_between h H a b ++ deltas_between h H b n ≡ deltas_between h H a n) e (join_on h H a b (c - b) le)

-- a line of the shorter history
pub line_at-prefix : (G H : History) (i : ℕ) → IsPrefix G H → i < length G → line_at H i ≡ line_at G i
line_at-prefix G H i (rest, is) lt = ap (λ K. line_at K i) is ∙ get_or-append G rest no_line i lt

-- what a line changes, its own place and the lines before it tell
at_same : (h : Inn) (G H : History) (i : ℕ) → IsPrefix G H → i < length G → deltas_at h H i ≡ deltas_at h G i
at_same h G H i begins lt =
    ap (λ K. deltas_of h K (line_at H i)) (take-prefix G H i begins (omega (arith, lt))) ∙ ap (deltas_of h (take i G)) (line_at-prefix G H i begins lt)

last_on : (h : Inn) (G H : History) (a k : ℕ) → IsPrefix G H → a + k ≤ length G → deltas_between h H a (a + k) ≡ deltas_between h G a (a + k)
last_on h G H a zero begins le =
    let e : a + 0 ≡ a = omega arith in
    ap (deltas_between h H a) e ∙ none_between h H a ∙ sym (none_between h G a) ∙ ap (deltas_between h G a) (sym e)
last_on h G H a (suc k) begins le =
    let e : a + suc k ≡ a + k + 1 = omega arith in
    ap (deltas_between h H a) e ∙ flat_map-more (deltas_at h H) a (a + k) (omega arith)
    ∙ ap (λ l. l ++ deltas_at h H (a + k)) (last_on h G H a k begins (omega (arith, le)))
    ∙ ap (λ l. deltas_between h G a (a + k) ++ l) (at_same h G H (a + k) begins (omega (arith, le)))
    ∙ sym (flat_map-more (deltas_at h G) a (a + k) (omega arith)) ∙ ap (deltas_between h G a) (sym e)

pub deltas_last : DeltasLast
deltas_last h G H a b begins le within =
    let e : a + (b - a) ≡ b = omega (arith, le) in
    subst (λ n. deltas_between h H a n ≡ deltas_between h G a n) e (last_on h G H a (b - a) begins (omega (arith, le, within)))
