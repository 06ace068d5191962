-- What a write at one node does to what the nodes keep.
use Rattle.std.proofs.Common.{
  ◌≡◌,
  ◌≢◌,
  ℕ,
  ◌+◌,
  ◌-◌,
  ◌*◌,
  ◌/◌,
  ◌<◌,
  ◌≤◌,
  ◌∙◌,
  refl,
  arith,
  List,
  length,
  length-set,
  slice_index,
  set,
  get_or-set_same,
  get_or-set_other,
  inl,
  inr,
}
use Rattle.std.proofs.lemmas.Bool.{cases_eq}
use Rattle.bp_ledger.specs.Tree.{width, least_at, IsLeastAt, IsInner, SameLeaves}

pub at_other : (a : List ℕ) (k c x : ℕ) → k ≢ c → slice_index (set a c x) k ≡ slice_index a k
at_other a k c x ne = rw get_or-set_other refl

pub at_same : (a : List ℕ) (k c x : ℕ) → k ≡ c → c < length a → slice_index (set a c x) k ≡ x
at_same a k c x e len = rw e (rw get_or-set_same refl)

-- the least numbers with that of one node brought up
abbrev pub brought : List ℕ → List ℕ → ℕ → List ℕ
brought leasts amounts c = set leasts c (least_at leasts amounts c)

-- a node that is brought up is right, and what was right stays so, but for its parent
pub refreshed : (leasts amounts : List ℕ) (c p : ℕ) → 2 * c + 1 < length leasts → 1 ≤ p → 2 * p ≢ c → 2 * p + 1 ≢ c →
    (p ≢ c → IsLeastAt leasts amounts p) → IsLeastAt (brought leasts amounts c) amounts p
refreshed leasts amounts c p len some no_left no_right was =
    let x : ℕ = least_at leasts amounts c in
    let left = at_other leasts (2 * p) c x no_left in
    let right = at_other leasts (2 * p + 1) c x no_right in
    elim (cases_eq p c) [
      | inl same ↦ let here = at_same leasts p c x same (omega arith) in
          rw (here, left, right, same) refl
      | inr other ↦ let here = at_other leasts p c x other in
          rw (here, left, right) (was other)
    ]

-- a turn: amounts change below two parents alone, and both are brought up
pub turn_inner : (h : ℕ) (leasts a b : List ℕ) (left right : ℕ) → length leasts ≡ width h + width h → left < right → right < width h + width h →
    ((k : ℕ) → k / 2 ≢ left / 2 → k / 2 ≢ right / 2 → slice_index b k ≡ slice_index a k) → IsInner h leasts a (left / 2) (right / 2) →
    IsInner h (brought (brought leasts b (left / 2)) b (right / 2)) b (left / 2 / 2) (right / 2 / 2)
turn_inner h leasts a b left right len lr small_ same inner = λ p some small nx ny.
    let up : List ℕ = brought leasts b (left / 2) in
    let len_up : length up ≡ length leasts = length-set leasts (left / 2) (least_at leasts b (left / 2)) in
    refreshed up b (right / 2) p (omega arith) some (λ e. ny (omega arith)) (λ e. ny (omega arith)) (λ not_right.
    refreshed leasts b (left / 2) p (omega arith) some (λ e. nx (omega arith)) (λ e. nx (omega arith)) (λ not_left.
    let one = same (2 * p) (omega arith) (omega arith) in
    let two = same (2 * p + 1) (omega arith) (omega arith) in
    rw (one, two) (inner p some small not_left not_right)))

-- the leaves are not brought up
pub turn_leaves : (h : ℕ) (was leasts b : List ℕ) (left right : ℕ) → left < right → right < width h + width h → SameLeaves h was leasts →
    SameLeaves h was (brought (brought leasts b (left / 2)) b (right / 2))
turn_leaves h was leasts b left right lr small_ same = λ m g.
    let up : List ℕ = brought leasts b (left / 2) in
    at_other up m (right / 2) (least_at up b (right / 2)) (omega arith) ∙ at_other leasts m (left / 2) (least_at leasts b (left / 2)) (omega arith) ∙ same m g

pub turn_length : (leasts b : List ℕ) (left right : ℕ) → length (brought (brought leasts b (left / 2)) b (right / 2)) ≡ length leasts
turn_length leasts b left right =
    let up : List ℕ = brought leasts b (left / 2) in
    length-set up (right / 2) (least_at up b (right / 2)) ∙ length-set leasts (left / 2) (least_at leasts b (left / 2))

-- what is right at every node is so but for two
pub inner_but : (h : ℕ) (leasts a : List ℕ) (x y : ℕ) → IsInner h leasts a 0 0 → IsInner h leasts a x y
inner_but h leasts a x y inner = λ p some small nx ny. inner p some small (omega arith) (omega arith)

-- where both parents are one, one node is brought up
pub inner_met : (h : ℕ) (leasts a : List ℕ) (left right x : ℕ) → left / 2 ≡ right / 2 → 2 * x ≤ left → left ≤ 2 * x + 1 →
    IsInner h leasts a (left / 2) (right / 2) → IsInner h leasts a x x
inner_met h leasts a left right x met low high inner = λ p some small nx ny. inner p some small (λ e. nx (omega arith)) (λ e. nx (omega arith))
