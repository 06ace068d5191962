-- An amount that is pushed to both children of its node, and units that are taken off one leaf after another.
use Rattle.std.proofs.Common.{
  ◌≡◌,
  ◌≢◌,
  ℕ,
  zero,
  ◌+◌,
  ◌-◌,
  ◌*◌,
  ◌/◌,
  ◌%◌,
  ◌^◌,
  ◌<◌,
  ◌≤◌,
  ◌∙◌,
  suc,
  min,
  ap,
  sym,
  subst,
  refl,
  arith,
  List,
  length,
  slice_index,
  set,
  length-set,
  inl,
  inr,
}
use Rattle.std.proofs.lemmas.Bool.{cases_lt, cases_eq}
use Rattle.bp_ledger.specs.Tree.{width, above, IsOnLevel, on_way, over, kept_at, IsInner, IsTaken, SameWays, IsPushed}
use Rattle.bp_ledger.proofs.NodeLemmas.{at_same, at_other}
use Rattle.bp_ledger.proofs.LevelLemmas.{above_half, on_level_half, width_some, way_same, way_change, way_has}
use Rattle.bp_ledger.proofs.LookLemmas.{over_child}

-- writes that push
pub pushes : (a : List ℕ) (p : ℕ) → 0 < p → 2 * p + 1 < length a →
    let left : List ℕ = set a (2 * p) (slice_index a (2 * p) + slice_index a p) in
    let right : List ℕ = set left (2 * p + 1) (slice_index left (2 * p + 1) + slice_index a p) in
    IsPushed p a (set right p 0)
pushes a p some len =
    let x : ℕ = slice_index a (2 * p) + slice_index a p in
    let left : List ℕ = set a (2 * p) x in
    let y : ℕ = slice_index left (2 * p + 1) + slice_index a p in
    let right : List ℕ = set left (2 * p + 1) y in
    let l1 = length-set a (2 * p) x in
    let l2 = length-set left (2 * p + 1) y in
    let l3 = length-set right p 0 in
    record {
      len = omega arith;
      here = at_same right p p 0 refl (omega arith);
      left = at_other right (2 * p) p 0 (omega arith) ∙ at_other left (2 * p) (2 * p + 1) y (omega arith) ∙ at_same a (2 * p) (2 * p) x refl (omega arith);
      right =
          let e = at_other right (2 * p + 1) p 0 (omega arith) in
          let f = at_same left (2 * p + 1) (2 * p + 1) y refl (omega arith) in
          let g = at_other a (2 * p + 1) (2 * p) x (omega arith) in
          omega arith;
      others = λ k n0 n1 n2. at_other right k p 0 n0 ∙ at_other left k (2 * p + 1) y n2 ∙ at_other a k (2 * p) x n1;
    }

-- a leaf below a node, so many levels down
abbrev pub leftmost : ℕ → ℕ → ℕ
leftmost zero p = p
leftmost (suc i) p = leftmost i (2 * p)

pub above_leftmost : (i p : ℕ) → above i (leftmost i p) ≡ p
above_leftmost zero p = refl
above_leftmost (suc i) p = let e = above_leftmost i (2 * p) in omega arith

pub leftmost_on : (i j h p : ℕ) → j + i ≡ h → IsOnLevel j p → IsOnLevel h (leftmost i p)
leftmost_on zero j h p sum on = let e : j ≡ h = omega arith in let P : ℕ → Type 0 = λ k. IsOnLevel k p in subst P e on
leftmost_on (suc i) j h p sum on = leftmost_on i (suc j) h (2 * p) (omega arith) (omega arith, omega arith)

pub pair_has : (i h : ℕ) (a : List ℕ) (m : ℕ) → suc i ≤ h → slice_index a (above i m) + slice_index a (above (suc i) m) ≤ on_way h a m
pair_has i zero a m lower = absurd (omega arith)
pair_has zero (suc h) a m lower = let e = way_has 0 h a (m / 2) (omega arith) in omega arith
pair_has (suc i) (suc h) a m lower =
    let P : ℕ → Type 0 = λ k. slice_index a k + slice_index a (k / 2) ≤ on_way h a (m / 2) in
    let e = subst P (above_half i m) (pair_has i h a (m / 2) (omega arith)) in
    omega arith

-- what is pushed fits at a child
pub push_fits : (h j p c : ℕ) (a : List ℕ) → suc j ≤ h → IsOnLevel j p → c / 2 ≡ p → ((m : ℕ) → IsOnLevel h m → on_way h a m < 18446744073709551616) →
    slice_index a c + slice_index a p < 18446744073709551616
push_fits h j p c a lower on half fits =
    let i : ℕ = h - suc j in
    let m : ℕ = leftmost i c in
    let child : IsOnLevel (suc j) c = (omega arith, omega arith) in
    let fit = fits m (leftmost_on i (suc j) h c (omega arith) child) in
    let at = above_leftmost i c in
    let up : above (suc i) m ≡ p = ap (λ k. k / 2) at ∙ half in
    let both = pair_has i h a m (omega arith) in
    let e : slice_index a (above i m) ≡ slice_index a c = ap (λ k. slice_index a k) at in
    let f : slice_index a (above (suc i) m) ≡ slice_index a p = ap (λ k. slice_index a k) up in
    omega arith

-- the node on a leaf's way, so many levels up
pub above_on : (i j h m : ℕ) → j + i ≡ h → IsOnLevel h m → IsOnLevel j (above i m)
above_on zero j h m sum on = let e : h ≡ j = omega arith in let P : ℕ → Type 0 = λ k. IsOnLevel k m in subst P e on
above_on (suc i) j h m sum on = on_level_half j (above i m) (above_on i (suc j) h m (omega arith) on)

module _ (p : ℕ) (a b : List ℕ) (is : IsPushed p a b) where
  child_gain : (c : ℕ) → c / 2 ≡ p → slice_index b c ≡ slice_index a c + slice_index a p
  child_gain c half = elim (cases_eq c (2 * p)) [
    | inl left ↦ rw left is.left
    | inr not_left ↦ let right : c ≡ 2 * p + 1 = omega arith in rw right is.right
  ]

  -- but for the children, all is as if the amount were taken away
  rest_same : p < length a → (k : ℕ) → k ≢ 2 * p → k ≢ 2 * p + 1 → slice_index b k ≡ slice_index (set a p 0) k
  rest_same len k n1 n2 = elim (cases_eq k p) [
    | inl same ↦ let e : slice_index b k ≡ 0 = ap (λ j. slice_index b j) same ∙ is.here in let f = at_same a k p 0 same len in omega arith
    | inr other ↦ is.others k other n1 n2 ∙ sym (at_other a k p 0 other)
  ]

-- each way keeps its sum through a push
pub push_ways : (h j p : ℕ) (a b : List ℕ) → suc j ≤ h → IsOnLevel j p → p < length a → IsPushed p a b → SameWays h a b
push_ways h j p a b lower on len is =
    let i : ℕ = h - suc j in
    let c : List ℕ = set a p 0 in
    let here = at_same a p p 0 refl len in
    let some = width_some j in
    record {
      len = is.len;
      ways = λ m lm.
          let none = way_change j (suc i) h a c m (omega arith) lm (λ k g. at_other a k p 0 (omega arith)) (λ k g. at_other a k p 0 (omega arith)) in
          let more = way_change (suc j) i h c b m (omega arith) lm (λ k g. rest_same p a b is len k (omega arith) (omega arith))
          (λ k g. rest_same p a b is len k (omega arith) (omega arith)) in
          let low = above_on i (suc j) h m (omega arith) lm in
          let child = at_other a (above i m) p 0 (omega arith) in
          elim (cases_eq (above i m / 2) p) [
            | inl below ↦
                let f : slice_index a (above (suc i) m) ≡ slice_index a p = ap (λ k. slice_index a k) below in
                let g : slice_index c (above (suc i) m) ≡ slice_index c p = ap (λ k. slice_index c k) below in
                let gain = child_gain p a b is (above i m) below in
                omega arith
            | inr beside ↦
                let f = at_other a (above (suc i) m) p 0 beside in
                let at = rest_same p a b is len (above i m) (λ e. beside (omega arith)) (λ e. beside (omega arith)) in
                omega arith
          ];
    }

-- what is left below a node once its amount is taken stays through a push, but at the children
kept_same : (leasts a b : List ℕ) (p k : ℕ) → p < length leasts → IsPushed p a b → k ≢ 2 * p → k ≢ 2 * p + 1 →
    kept_at (set leasts p (kept_at leasts a p)) b k ≡ kept_at leasts a k
kept_same leasts a b p k len is n1 n2 = elim (cases_eq k p) [
  | inl same ↦
      let here = at_same leasts k p (kept_at leasts a p) same len in
      let e : slice_index b k ≡ 0 = ap (λ j. slice_index b j) same ∙ is.here in
      let f : kept_at leasts a k ≡ kept_at leasts a p = ap (λ j. kept_at leasts a j) same in
      omega arith
  | inr other ↦
      let here = at_other leasts k p (kept_at leasts a p) other in
      let e = is.others k other n1 n2 in
      omega arith
]

-- what was right stays right through a push
pub push_inner : (h : ℕ) (leasts a b : List ℕ) (p : ℕ) → 1 ≤ p → p < width h → p < length leasts → IsPushed p a b → IsInner h leasts a 0 0 →
    IsInner h (set leasts p (kept_at leasts a p)) b 0 0
push_inner h leasts a b p some small_ len is inner = λ q one lower nx ny.
    let x : ℕ = kept_at leasts a p in
    let was = inner q one lower nx ny in
    elim (cases_eq q p) [
      | inl same ↦
          let here = at_same leasts q p x same len in
          let left = at_other leasts (2 * q) p x (omega arith) in
          let right = at_other leasts (2 * q + 1) p x (omega arith) in
          let gain_left = child_gain p a b is (2 * q) (omega arith) in
          let gain_right = child_gain p a b is (2 * q + 1) (omega arith) in
          let e : slice_index leasts q ≡ slice_index leasts p = ap (λ k. slice_index leasts k) same in
          let f : slice_index a q ≡ slice_index a p = ap (λ k. slice_index a k) same in
          omega arith
      | inr other ↦
          let here = at_other leasts q p x other in
          let left = kept_same leasts a b p (2 * q) len is (omega arith) (omega arith) in
          let right = kept_same leasts a b p (2 * q + 1) len is (omega arith) (omega arith) in
          rw (here, left, right) was
    ]

over_same : (j : ℕ) (a b : List ℕ) (p : ℕ) → ((k : ℕ) → k < p → slice_index b k ≡ slice_index a k) → 1 ≤ p → over j b p ≡ over j a p
over_same zero a b p same some = refl
over_same (suc j) a b p same some = way_same j a b (p / 2) (λ k g. same k (omega arith))

-- once the amounts over a parent are gone, a push of its own leaves none over its child
pub push_clears : (level j p node : ℕ) (a b : List ℕ) → level ≡ suc j → node / 2 ≡ p → 1 ≤ p → IsPushed p a b → over j a p ≡ 0 → over level b node ≡ 0
push_clears level j p node a b e half some is none =
    let child = over_child j level b p node e half in
    let here = is.here in
    let same : over j b p ≡ over j a p = over_same j a b p (λ k g. is.others k (omega arith) (omega arith) (omega arith)) some in
    omega arith

pub same_ways : (h : ℕ) (a b c : List ℕ) → SameWays h a b → SameWays h b c → SameWays h a c
same_ways h a b c one two = record { len = two.len ∙ one.len; ways = λ m on. two.ways m on ∙ one.ways m on }

pub fits_still : (h : ℕ) (a b : List ℕ) → SameWays h a b → ((m : ℕ) → IsOnLevel h m → on_way h a m < 18446744073709551616) → (m : ℕ) → IsOnLevel h m →
    on_way h b m < 18446744073709551616
fits_still h a b same fits = λ m on. let e = same.ways m on in let f = fits m on in omega arith

-- units taken off a leaf
pub leaf_taken : (h : ℕ) (was a : List ℕ) (leaf units : ℕ) → IsOnLevel h leaf → leaf < length a → SameWays h was a → units ≤ slice_index a leaf →
    IsTaken h (leaf - 1) (leaf + 1) units (set a leaf (slice_index a leaf - units)) was
leaf_taken h was a leaf units on len same enough =
    let x : ℕ = slice_index a leaf - units in
    let b : List ℕ = set a leaf x in
    let some = width_some h in
    let here = at_same a leaf leaf x refl len in
    let change = λ (m : ℕ) (lm : IsOnLevel h m). way_change h 0 h a b m (omega arith) lm (λ k g. at_other a k leaf x (omega arith))
    (λ k g. at_other a k leaf x (omega arith)) in
    let long = length-set a leaf x in
    let len_same = same.len in
    record {
      len = omega arith;
      between = λ m f t.
          let e : m ≡ leaf = omega arith in
          let P : ℕ → Type 0 = λ k. on_way h was k ≡ on_way h b k + units in
          subst P (sym e) (let c = change leaf on in let s = same.ways leaf on in omega arith);
      before = λ m lm g. let c = change m lm in let s = same.ways m lm in let o = at_other a m leaf x (omega arith) in omega arith;
      past = λ m lm g. let c = change m lm in let s = same.ways m lm in let o = at_other a m leaf x (omega arith) in omega arith;
    }

-- the leaves before one, and that one too
pub taken_next : (h low at units : ℕ) (was a b : List ℕ) → IsOnLevel h low → IsOnLevel h at → low < at → IsTaken h low at units a was →
    IsTaken h (at - 1) (at + 1) units b a → IsTaken h low (at + 1) units b was
taken_next h low at units was a b on_low on lt done next = record {
  len = done.len ∙ next.len;
  between = λ m f t. elim (cases_eq m at) [
    | inl same ↦
        let P : ℕ → Type 0 = λ k. on_way h was k ≡ on_way h b k + units in
        subst P (sym same) (let d = done.past at on (omega arith) in let n = next.between at (omega arith) (omega arith) in omega arith)
    | inr other ↦ let d = done.between m f (omega arith) in let n = next.before m (omega arith, omega arith) (omega arith) in omega arith
  ];
  before = λ m lm g. let d = done.before m lm g in let n = next.before m lm (omega arith) in omega arith;
  past = λ m lm g. let d = done.past m lm (omega arith) in let n = next.past m lm g in omega arith;
}

pub taken_none : (h low units : ℕ) (a : List ℕ) → IsTaken h low (low + 1) units a a
taken_none h low units a = record { len = refl; between = λ m f t. absurd (omega arith); before = λ m lm g. refl; past = λ m lm g. refl }

-- what was taken off leaves each way no greater
pub taken_fits : (h low high units : ℕ) (was a : List ℕ) → IsTaken h low high units a was →
    ((m : ℕ) → IsOnLevel h m → on_way h was m < 18446744073709551616) → (m : ℕ) → IsOnLevel h m → on_way h a m < 18446744073709551616
taken_fits h low high units was a is fits = λ m on.
    let f = fits m on in
    elim (cases_lt low m) [
      | inl after ↦ elim (cases_lt m high) [
        | inl inside ↦ let e = is.between m after inside in omega arith
        | inr past ↦ let e = is.past m on past in omega arith
      ]
      | inr before ↦ let e = is.before m on before in omega arith
    ]

-- another amount at a leaf leaves what was right so, but for its parent
pub leaf_inner : (h : ℕ) (leasts a : List ℕ) (leaf x v : ℕ) → 2 * x ≤ leaf → leaf ≤ 2 * x + 1 → IsInner h leasts a 0 0 → IsInner h leasts (set a leaf v) x x
leaf_inner h leasts a leaf x v low high inner = λ p some lower nx ny.
    let left = at_other a (2 * p) leaf v (λ e. nx (omega arith)) in
    let right = at_other a (2 * p + 1) leaf v (λ e. nx (omega arith)) in
    rw (left, right) (inner p some lower (omega arith) (omega arith))
