-- Amounts that are added or taken off between two leaves, level by level.
use Rattle.std.proofs.Common.{
  ◌≡◌,
  ◌≢◌,
  ℕ,
  zero,
  ◌+◌,
  ◌-◌,
  ◌*◌,
  ◌/◌,
  ◌%◌,
  ◌<◌,
  ◌≤◌,
  ◌∙◌,
  ◌⊎◌,
  suc,
  ap,
  sym,
  subst,
  refl,
  arith,
  List,
  length,
  slice_index,
  set,
  length-set,
  inl,
  inr,
}
use Rattle.std.proofs.lemmas.Bool.{cases_lt, cases_eq, cond-true, cond-false, eq-eqb, ne_eqb}
use Rattle.bp_ledger.specs.Tree.{width, above, IsOnLevel, on_way, IsTaken, share_left, share_right, IsShare, IsShared, IsAmple}
use Rattle.bp_ledger.proofs.NodeLemmas.{at_same, at_other}
use Rattle.bp_ledger.proofs.LevelLemmas.{above_mono, leaf_between, way_has, way_change, width_half, level_step}
use Rattle.bp_ledger.proofs.WalkLemmas.{IsAcross, across_start, across_step, not_root}

pub share_left_is : (node units : ℕ) → ((2 * (node / 2) ≡ node) × (share_left node units ≡ units)) ⊎ ((2 * (node / 2) + 1 ≡ node) × (share_left node units ≡ 0))
unfolding share_left
share_left_is node units = elim (cases_eq (node % 2) 0) [
  | inl even ↦ inl ((omega arith), cond-true _ _ _ (eq-eqb _ _ even))
  | inr odd ↦ inr ((omega arith), cond-false _ _ _ (ne_eqb _ _ odd))
]

pub share_right_is : (node units : ℕ) →
    ((2 * (node / 2) ≡ node) × (share_right node units ≡ 0)) ⊎ ((2 * (node / 2) + 1 ≡ node) × (share_right node units ≡ units))
unfolding share_right
share_right_is node units = elim (cases_eq (node % 2) 0) [
  | inl even ↦ inl ((omega arith), cond-true _ _ _ (eq-eqb _ _ even))
  | inr odd ↦ inr ((omega arith), cond-false _ _ _ (ne_eqb _ _ odd))
]

-- where both neighbours are one node, one of the two gives it nothing
one_gives : (left right units : ℕ) → left < right → left / 2 ≢ right / 2 → left + 1 ≡ right - 1 → (share_left left units ≡ 0) ⊎ (share_right right units ≡ 0)
one_gives left right units lr apart same = elim (share_left_is left units) [
  | inl even ↦ elim (share_right_is right units) [
    | inl none ↦ inr none.1
    | inr odd ↦ let e = even.0 in let o = odd.0 in absurd (omega arith)
  ]
  | inr none ↦ inl none.1
]

none_at : (left right units p : ℕ) → (p ≡ left + 1 → 2 * (left / 2) + 1 ≡ left) → (p ≡ right - 1 → 2 * (right / 2) ≡ right) → IsShare left right units p 0
none_at left right units p no_left no_right = inr (inr (no_left, no_right, refl))

-- two writes that add the shares of both neighbours
module _ (left right units : ℕ) (less mid more : List ℕ) (lr : left < right) (apart : left / 2 ≢ right / 2) where
  at_left : (p : ℕ) → p ≡ left + 1 → p ≢ right - 1 → slice_index more p ≡ slice_index less p + share_left left units →
      (gain : ℕ) × ((slice_index more p ≡ slice_index less p + gain) × IsShare left right units p gain)
  at_left p here other sum = elim (share_left_is left units) [
    | inl even ↦ (units, ((let e = even.1 in omega arith), inl (here, even.0, refl)))
    | inr odd ↦ (0, ((let e = odd.1 in omega arith), none_at left right units p (λ e. odd.0) (λ e. absurd (other e))))
  ]

  at_right : (p : ℕ) → p ≢ left + 1 → p ≡ right - 1 → slice_index more p ≡ slice_index less p + share_right right units →
      (gain : ℕ) × ((slice_index more p ≡ slice_index less p + gain) × IsShare left right units p gain)
  at_right p other here sum = elim (share_right_is right units) [
    | inl even ↦ (0, ((let e = even.1 in omega arith), none_at left right units p (λ e. absurd (other e)) (λ e. even.0)))
    | inr odd ↦ (units, ((let e = odd.1 in omega arith), inr (inl (here, odd.0, refl))))
  ]

  at_both : (p : ℕ) → p ≡ left + 1 → p ≡ right - 1 → slice_index more p ≡ slice_index less p + share_left left units + share_right right units →
      (gain : ℕ) × ((slice_index more p ≡ slice_index less p + gain) × IsShare left right units p gain)
  at_both p one two sum = elim (share_left_is left units) [
    | inl even ↦ elim (share_right_is right units) [
      | inl none ↦ (units, ((let e = even.1 in let f = none.1 in omega arith), inl (one, even.0, refl)))
      | inr odd ↦ let e = even.0 in let f = odd.0 in absurd (omega arith)
    ]
    | inr odd ↦ elim (share_right_is right units) [
      | inl none ↦ (0, ((let e = odd.1 in let f = none.1 in omega arith), none_at left right units p (λ e. odd.0) (λ e. none.0)))
      | inr some ↦ (units, ((let e = odd.1 in let f = some.1 in omega arith), inr (inl (two, some.0, refl))))
    ]
  ]

  pub shared : length more ≡ length less → slice_index mid (left + 1) ≡ slice_index less (left + 1) + share_left left units →
      ((p : ℕ) → p ≢ left + 1 → slice_index mid p ≡ slice_index less p) →
      slice_index more (right - 1) ≡ slice_index mid (right - 1) + share_right right units →
      ((p : ℕ) → p ≢ right - 1 → slice_index more p ≡ slice_index mid p) → IsShared left right units less more
  shared len at_one off_one at_two off_two = record {
    len = len;
    shares = λ p. elim (cases_eq p (left + 1)) [
      | inl one ↦
          let m : slice_index mid p ≡ slice_index less p + share_left left units = rw one at_one in
          elim (cases_eq p (right - 1)) [
            | inl two ↦ let n : slice_index more p ≡ slice_index mid p + share_right right units = rw two at_two in at_both p one two (omega arith)
            | inr not_two ↦ let n = off_two p not_two in at_left p one not_two (omega arith)
          ]
      | inr not_one ↦
          let m = off_one p not_one in
          elim (cases_eq p (right - 1)) [
            | inl two ↦ let n : slice_index more p ≡ slice_index mid p + share_right right units = rw two at_two in at_right p not_one two (omega arith)
            | inr not_two ↦ let n = off_two p not_two in (0, ((omega arith), none_at left right units p (λ e. absurd (not_one e)) (λ e. absurd (not_two e))))
          ]
    ];
  }

-- the first write leaves the node of the second, where that one is given anything
pub mid_right : (a : List ℕ) (left right units : ℕ) → left < right → left + 1 < length a → 2 * (right / 2) + 1 ≡ right →
    slice_index (set a (left + 1) (slice_index a (left + 1) + share_left left units)) (right - 1) ≡ slice_index a (right - 1)
mid_right a left right units lr len odd =
    let x : ℕ = slice_index a (left + 1) + share_left left units in
    elim (cases_eq (right - 1) (left + 1)) [
      | inl same ↦ elim (share_left_is left units) [
        | inl even ↦ let e = even.0 in absurd (omega arith)
        | inr none ↦
            let e = none.1 in
            let here = at_same a (right - 1) (left + 1) x same len in
            let f : slice_index a (right - 1) ≡ slice_index a (left + 1) = ap (λ k. slice_index a k) same in
            omega arith
      ]
      | inr other ↦ at_other a (right - 1) (left + 1) x other
    ]

mid_left : (a : List ℕ) (left right units : ℕ) → left < right → right - 1 < length a → 2 * (left / 2) ≡ left →
    slice_index (set a (right - 1) (slice_index a (right - 1) - share_right right units)) (left + 1) ≡ slice_index a (left + 1)
mid_left a left right units lr len even =
    let x : ℕ = slice_index a (right - 1) - share_right right units in
    elim (cases_eq (left + 1) (right - 1)) [
      | inl same ↦ elim (share_right_is right units) [
        | inl none ↦
            let e = none.1 in
            let here = at_same a (left + 1) (right - 1) x same len in
            let f : slice_index a (left + 1) ≡ slice_index a (right - 1) = ap (λ k. slice_index a k) same in
            omega arith
        | inr odd ↦ let e = odd.0 in absurd (omega arith)
      ]
      | inr other ↦ at_other a (left + 1) (right - 1) x other
    ]

pub left_enough : (a : List ℕ) (left right units : ℕ) → left < right → right - 1 < length a → share_left left units ≤ slice_index a (left + 1) →
    share_left left units ≤ slice_index (set a (right - 1) (slice_index a (right - 1) - share_right right units)) (left + 1)
left_enough a left right units lr len enough = elim (share_left_is left units) [
  | inl even ↦ let m = mid_left a left right units lr len even.0 in omega arith
  | inr odd ↦ let e = odd.1 in omega arith
]

-- adding the shares of both neighbours
pub added : (a : List ℕ) (left right units : ℕ) → left < right → right < length a → left / 2 ≢ right / 2 →
    let mid : List ℕ = set a (left + 1) (slice_index a (left + 1) + share_left left units) in
    IsShared left right units a (set mid (right - 1) (slice_index mid (right - 1) + share_right right units))
added a left right units lr len apart =
    let x : ℕ = slice_index a (left + 1) + share_left left units in
    let mid : List ℕ = set a (left + 1) x in
    let y : ℕ = slice_index mid (right - 1) + share_right right units in
    let long = length-set a (left + 1) x in
    shared left right units a mid (set mid (right - 1) y) lr apart (simp length-set refl) (at_same a (left + 1) (left + 1) x refl (omega arith))
    (λ p ne. at_other a p (left + 1) x ne)
    (at_same mid (right - 1) (right - 1) y refl (omega arith)) (λ p ne. at_other mid p (right - 1) y ne)

-- taking both off again
pub taken_off : (a : List ℕ) (left right units : ℕ) → left < right → right < length a → left / 2 ≢ right / 2 →
    share_left left units ≤ slice_index a (left + 1) → share_right right units ≤ slice_index a (right - 1) →
    let mid : List ℕ = set a (right - 1) (slice_index a (right - 1) - share_right right units) in
    IsShared left right units (set mid (left + 1) (slice_index mid (left + 1) - share_left left units)) a
taken_off a left right units lr len apart one two =
    let y : ℕ = slice_index a (right - 1) - share_right right units in
    let mid : List ℕ = set a (right - 1) y in
    let x : ℕ = slice_index mid (left + 1) - share_left left units in
    let long = length-set a (right - 1) y in
    let enough = left_enough a left right units lr (omega arith) one in
    let here = at_same mid (left + 1) (left + 1) x refl (omega arith) in
    let there = at_same a (right - 1) (right - 1) y refl (omega arith) in
    shared left right units (set mid (left + 1) x) mid a lr apart (simp length-set refl) (omega arith) (λ p ne. sym (at_other mid p (left + 1) x ne))
    (omega arith) (λ p ne. sym (at_other a p (right - 1) y ne))

-- what changes in a turn has its parent on one of the two ways
pub shared_apart : (left right units : ℕ) (less more : List ℕ) → IsShared left right units less more → left < right → (k : ℕ) → k / 2 ≢ left / 2 →
    k / 2 ≢ right / 2 → slice_index more k ≡ slice_index less k
shared_apart left right units less more is lr k not_left not_right =
    let at = is.shares k in
    let sum = at.1.0 in
    elim at.1.1 [
      | inl one ↦ let e = one.0 in let f = one.1 in absurd (not_left (omega arith))
      | inr rest ↦ elim rest [
        | inl two ↦ let e = two.0 in let f = two.1 in absurd (not_right (omega arith))
        | inr none ↦ let e = none.2 in omega arith
      ]
    ]

-- what changes in a turn lies between the two
pub shared_between : (left right units : ℕ) (less more : List ℕ) → IsShared left right units less more → left < right → left / 2 ≢ right / 2 → (k : ℕ) →
    ((left < k) × (k < right) → ⊥) → slice_index more k ≡ slice_index less k
shared_between left right units less more is lr apart k outside =
    let at = is.shares k in
    let sum = at.1.0 in
    elim at.1.1 [
      | inl one ↦ let e = one.0 in let f = one.1 in absurd (outside (omega arith, omega arith))
      | inr rest ↦ elim rest [
        | inl two ↦ let e = two.0 in let f = two.1 in absurd (outside (omega arith, omega arith))
        | inr none ↦ let e = none.2 in omega arith
      ]
    ]

-- so many levels up, the ways below the nodes that were passed differ by the units, and no others
pub record IsTaking (h low high left right units : ℕ) (less more : List ℕ) : Type 0 where
  pub across : IsAcross h low high left right
  pub len : length more ≡ length less
  pub on_left : (m : ℕ) → low < m → m < high → above across.risen m ≡ left → on_way h more m ≡ on_way h less m + units
  pub on_right : (m : ℕ) → low < m → m < high → above across.risen m ≡ right → on_way h more m ≡ on_way h less m + units
  pub ahead : (m : ℕ) → low < m → m < high → left < above across.risen m → above across.risen m < right → on_way h more m ≡ on_way h less m
  pub before : (m : ℕ) → IsOnLevel h m → m ≤ low → on_way h more m ≡ on_way h less m
  pub past : (m : ℕ) → IsOnLevel h m → high ≤ m → on_way h more m ≡ on_way h less m

pub take_start : (h low high units : ℕ) (a : List ℕ) → low < high → IsOnLevel h low → IsOnLevel h high → IsTaking h low high low high units a a
take_start h low high units a lt on_low on_high = record {
  across = across_start h low high lt on_low on_high;
  len = refl;
  on_left = λ m f t e. absurd (omega arith);
  on_right = λ m f t e. absurd (omega arith);
  ahead = λ m f t p q. refl;
  before = λ m lm t. refl;
  past = λ m lm t. refl;
}

-- a node that is no neighbour between the two is given nothing
low_share : (left right units p gain : ℕ) → left < right → left / 2 ≢ right / 2 → IsShare left right units p gain → p ≤ left → gain ≡ 0
low_share left right units p gain lr apart share low = elim share [
  | inl one ↦ let e = one.0 in absurd (omega arith)
  | inr rest ↦ elim rest [ inl two ↦ let e = two.0 in let f = two.1 in absurd (apart (omega arith)) | inr none ↦ none.2 ]
]

high_share : (left right units p gain : ℕ) → left < right → left / 2 ≢ right / 2 → IsShare left right units p gain → right ≤ p → gain ≡ 0
high_share left right units p gain lr apart share high = elim share [
  | inl one ↦ let e = one.0 in let f = one.1 in absurd (apart (omega arith))
  | inr rest ↦ elim rest [ inl two ↦ let e = two.0 in absurd (omega arith) | inr none ↦ none.2 ]
]

far_share : (left right units p gain : ℕ) → left < right → IsShare left right units p gain → left / 2 < p / 2 → p / 2 < right / 2 → gain ≡ 0
far_share left right units p gain lr share low high = elim share [
  | inl one ↦ let e = one.0 in let f = one.1 in absurd (omega arith)
  | inr rest ↦ elim rest [ inl two ↦ let e = two.0 in let f = two.1 in absurd (omega arith) | inr none ↦ none.2 ]
]

-- and a neighbour between the two is given the units
left_share : (left right units p gain : ℕ) → IsShare left right units p gain → left < p → p / 2 ≡ left / 2 → gain ≡ units
left_share left right units p gain share after parent = elim share [
  | inl one ↦ one.2
  | inr rest ↦ elim rest [ inl two ↦ two.2 | inr none ↦ let odd = none.0 (omega arith) in absurd (omega arith) ]
]

right_share : (left right units p gain : ℕ) → IsShare left right units p gain → p < right → p / 2 ≡ right / 2 → gain ≡ units
right_share left right units p gain share before parent = elim share [
  | inl one ↦ one.2
  | inr rest ↦ elim rest [ inl two ↦ two.2 | inr none ↦ let even = none.1 (omega arith) in absurd (omega arith) ]
]

-- what a turn gives each way: the share of its node
pub way_shared : (h low high left right units : ℕ) (a b : List ℕ) (across : IsAcross h low high left right) → left / 2 ≢ right / 2 →
    IsShared left right units a b →
    (m : ℕ) → IsOnLevel h m → (gain : ℕ) × ((on_way h b m ≡ on_way h a m + gain) × IsShare left right units (above across.risen m) gain)
way_shared h low high left right units a b across apart is m on =
    let lr = across.ordered in
    let on_left = across.on_left in
    let on_right = across.on_right in
    let change = way_change across.level across.risen h a b m across.sum on
    (λ k g. shared_between left right units a b is lr apart k (λ (x, y). omega arith))
    (λ k g. shared_between left right units a b is lr apart k (λ (x, y). omega arith)) in
    let at = is.shares (above across.risen m) in
    let sum = at.1.0 in
    (at.0, (omega arith, at.1.1))

-- how much further apart two lists are than two others, on each way
abbrev pub HasGained : ℕ → ℕ → ℕ → ℕ → ℕ → List ℕ → List ℕ → List ℕ → List ℕ → Type 0
HasGained h risen left right units less more less2 more2 = (m : ℕ) → IsOnLevel h m →
    (gain : ℕ) × ((on_way h more2 m + on_way h less m ≡ on_way h less2 m + on_way h more m + gain) × IsShare left right units (above risen m) gain)

pub turn_step : (h low high left right units : ℕ) (less more less2 more2 : List ℕ) (is : IsTaking h low high left right units less more) → IsOnLevel h low →
    IsOnLevel h high → left / 2 ≢ right / 2 →
    length more2 ≡ length less2 → HasGained h is.across.risen left right units less more less2 more2 →
    IsTaking h low high (left / 2) (right / 2) units less2 more2
turn_step h low high left right units less more less2 more2 is on_low on_high apart len gains =
    let i : ℕ = is.across.risen in
    let li = is.across.left_is in
    let ri = is.across.right_is in
    let lr = is.across.ordered in
    let on = λ (m : ℕ) (f : low < m) (t : m < high). let r : IsOnLevel h m = (omega arith, omega arith) in r in
    record {
      across = across_step h low high left right is.across apart;
      len = len;
      on_left = λ m f t e.
          let n = gains m (on m f t) in
          let sum = n.1.0 in
          let lo = above_mono i low m (omega arith) in
          elim (cases_eq (above i m) left) [
            | inl same ↦ let done = is.on_left m f t same in let g = low_share left right units (above i m) n.0 lr apart n.1.1 (omega arith) in omega arith
            | inr other ↦ let done = is.ahead m f t (omega arith) (omega arith) in
                let g = left_share left right units (above i m) n.0 n.1.1 (omega arith) e in omega arith
          ];
      on_right = λ m f t e.
          let n = gains m (on m f t) in
          let sum = n.1.0 in
          let hi = above_mono i m high (omega arith) in
          elim (cases_eq (above i m) right) [
            | inl same ↦ let done = is.on_right m f t same in let g = high_share left right units (above i m) n.0 lr apart n.1.1 (omega arith) in omega arith
            | inr other ↦ let done = is.ahead m f t (omega arith) (omega arith) in
                let g = right_share left right units (above i m) n.0 n.1.1 (omega arith) e in omega arith
          ];
      ahead = λ m f t p q.
          let n = gains m (on m f t) in
          let sum = n.1.0 in
          let done = is.ahead m f t (omega arith) (omega arith) in
          let g = far_share left right units (above i m) n.0 lr n.1.1 p q in
          omega arith;
      before = λ m lm t.
          let n = gains m lm in
          let sum = n.1.0 in
          let lo = above_mono i m low t in
          let done = is.before m lm t in
          let g = low_share left right units (above i m) n.0 lr apart n.1.1 (omega arith) in
          omega arith;
      past = λ m lm t.
          let n = gains m lm in
          let sum = n.1.0 in
          let hi = above_mono i high m t in
          let done = is.past m lm t in
          let g = high_share left right units (above i m) n.0 lr apart n.1.1 (omega arith) in
          omega arith;
    }

pub take_step : (h low high left right units : ℕ) (was a b : List ℕ) → IsTaking h low high left right units was a → IsOnLevel h low → IsOnLevel h high →
    left / 2 ≢ right / 2 → IsShared left right units a b →
    IsTaking h low high (left / 2) (right / 2) units was b
take_step h low high left right units was a b is on_low on_high apart share =
    turn_step h low high left right units was a was b is on_low on_high apart (share.len ∙ is.len)
    (λ m on. let n = way_shared h low high left right units a b is.across apart share m on in (n.0, ((let e = n.1.0 in omega arith), n.1.1)))

pub release_step : (h low high left right units : ℕ) (was a b : List ℕ) → IsTaking h low high left right units a was → IsOnLevel h low → IsOnLevel h high →
    left / 2 ≢ right / 2 → IsShared left right units b a →
    IsTaking h low high (left / 2) (right / 2) units b was
release_step h low high left right units was a b is on_low on_high apart share =
    turn_step h low high left right units a was b was is on_low on_high apart (is.len ∙ share.len)
    (λ m on. let n = way_shared h low high left right units b a is.across apart share m on in (n.0, ((let e = n.1.0 in omega arith), n.1.1)))

-- where the two have met, all is taken
pub take_done : (h low high left right units : ℕ) (less more : List ℕ) → IsTaking h low high left right units less more → left / 2 ≡ right / 2 →
    IsTaken h low high units less more
take_done h low high left right units less more is met =
    let li = is.across.left_is in
    let ri = is.across.right_is in
    let lr = is.across.ordered in
    record {
      len = is.len;
      between = λ m f t.
          let lo = above_mono is.across.risen low m (omega arith) in
          let hi = above_mono is.across.risen m high (omega arith) in
          elim (cases_eq (above is.across.risen m) left) [
            | inl same ↦ is.on_left m f t same
            | inr other ↦ is.on_right m f t (omega arith)
          ];
      before = is.before;
      past = is.past;
    }

-- what more at a node between two fits, where it fits on each leaf
pub between_fits : (h low high left right units p bound : ℕ) (was a : List ℕ) → IsTaking h low high left right units was a → left < p → p < right →
    ((m : ℕ) → low < m → m < high → on_way h was m + units < bound) → slice_index a p + units < bound
between_fits h low high left right units p bound was a is f t fits =
    let li = is.across.left_is in
    let ri = is.across.right_is in
    let sum = is.across.sum in
    let e = leaf_between is.across.risen low high p (omega arith) (omega arith) in
    let e1 = e.1.0 in
    let e2 = e.1.1.0 in
    let e3 = e.1.1.1 in
    let not_high : e.0 ≢ high = λ s. (let r = ap (λ k. above is.across.risen k) s in omega arith) in
    let same = is.ahead e.0 e1 (omega arith) (omega arith) (omega arith) in
    let P : ℕ → Type 0 = λ k. slice_index a k ≤ on_way h a e.0 in
    let here = subst P e3 (way_has is.across.risen h a e.0 (omega arith)) in
    let fit = fits e.0 e1 (omega arith) in
    omega arith

-- the nodes further up have what they had
pub record IsReleasing (h low high left right units : ℕ) (was a : List ℕ) : Type 0 where
  pub taking : IsTaking h low high left right units a was
  pub level : ℕ
  pub on_left : IsOnLevel level left
  pub on_right : IsOnLevel level right
  pub same : (p : ℕ) → p < width level + width level → slice_index a p ≡ slice_index was p

pub releasing_start : (h low high units : ℕ) (a : List ℕ) → low < high → IsOnLevel h low → IsOnLevel h high → IsReleasing h low high low high units a a
releasing_start h low high units a lt on_low on_high = record {
  taking = take_start h low high units a lt on_low on_high;
  level = h;
  on_left = on_low;
  on_right = on_high;
  same = λ p g. refl;
}

pub releasing_step : (h low high left right units : ℕ) (was a b : List ℕ) → IsReleasing h low high left right units was a → IsOnLevel h low →
    IsOnLevel h high → left / 2 ≢ right / 2 → IsShared left right units b a →
    IsReleasing h low high (left / 2) (right / 2) units was b
releasing_step h low high left right units was a b is on_low on_high apart share =
    let lr = is.taking.across.ordered in
    let some = not_root is.level left right is.on_left is.on_right lr in
    let e : is.level ≡ suc (is.level - 1) = omega arith in
    let on = is.on_left in
    let half : width is.level ≡ width (is.level - 1) + width (is.level - 1) = width_half (is.level - 1) is.level e in
    record {
      taking = release_step h low high left right units was a b is.taking on_low on_high apart share;
      level = is.level - 1;
      on_left = level_step (is.level - 1) is.level left e is.on_left;
      on_right = level_step (is.level - 1) is.level right e is.on_right;
      same = λ p g. let s = shared_between left right units b a share lr apart p (λ (x, y). omega arith) in let t = is.same p (omega arith) in omega arith;
    }

-- the shares of a turn are there
pub ample_turn : (h low high left right units : ℕ) (was a : List ℕ) → IsReleasing h low high left right units was a → IsAmple low high units was →
    left / 2 ≢ right / 2 →
    (share_left left units ≤ slice_index a (left + 1)) × (share_right right units ≤ slice_index a (right - 1))
ample_turn h low high left right units was a is ample apart =
    let across = is.taking.across in
    let lr = across.ordered in
    let on_left = is.on_left in
    let on_right = is.on_right in
    let one = is.same (left + 1) (omega arith) in
    let two = is.same (right - 1) (omega arith) in
    let P : ℕ → ℕ → Type 0 = λ x y. x / 2 ≢ y / 2 → (share_left x units ≤ slice_index was (x + 1)) × (share_right y units ≤ slice_index was (y - 1)) in
    let Q : ℕ → Type 0 = λ x. P x (above across.risen high) in
    let R : ℕ → Type 0 = λ y. P left y in
    let there = subst R (sym across.right_is) (subst Q (sym across.left_is) (ample across.risen)) apart in
    let f = there.0 in
    let g = there.1 in
    (omega arith, omega arith)

-- the levels that were passed have enough
pub record IsChecked (low high units : ℕ) (h left right : ℕ) (amounts : List ℕ) : Type 0 where
  pub across : IsAcross h low high left right
  pub below : (i : ℕ) → i < across.risen → (share_left (above i low) units ≤ slice_index amounts (above i low + 1)) ×
      (share_right (above i high) units ≤ slice_index amounts (above i high - 1))

pub checked_start : (low high units h : ℕ) (amounts : List ℕ) → low < high → IsOnLevel h low → IsOnLevel h high → IsChecked low high units h low high amounts
checked_start low high units h amounts lt on_low on_high = record { across = across_start h low high lt on_low on_high; below = λ i g. absurd (omega arith) }

pub checked_step : (low high units h left right : ℕ) (amounts : List ℕ) → IsChecked low high units h left right amounts → left / 2 ≢ right / 2 →
    share_left left units ≤ slice_index amounts (left + 1) → share_right right units ≤ slice_index amounts (right - 1) →
    IsChecked low high units h (left / 2) (right / 2) amounts
checked_step low high units h left right amounts is apart one two = record {
  across = across_step h low high left right is.across apart;
  below = λ i g. elim (cases_eq i is.across.risen) [
    | inl same ↦
        let P : ℕ → Type 0 = λ x. share_left x units ≤ slice_index amounts (x + 1) in
        let Q : ℕ → Type 0 = λ y. share_right y units ≤ slice_index amounts (y - 1) in
        (subst P (is.across.left_is ∙ sym (ap (λ k. above k low) same)) one, subst Q (is.across.right_is ∙ sym (ap (λ k. above k high) same)) two)
    | inr other ↦ is.below i (omega arith)
  ];
}

met_stays : (r i low high : ℕ) → above r low / 2 ≡ above r high / 2 → r ≤ i → above i low / 2 ≡ above i high / 2
met_stays r zero low high met g = let e : r ≡ 0 = omega arith in let P : ℕ → Type 0 = λ k. above k low / 2 ≡ above k high / 2 in subst P e met
met_stays r (suc i) low high met g = elim (cases_eq r (suc i)) [
  | inl same ↦ let P : ℕ → Type 0 = λ k. above k low / 2 ≡ above k high / 2 in subst P same met
  | inr other ↦ ap (λ k. k / 2) (met_stays r i low high met (omega arith))
]

pub checked_done : (low high units h left right : ℕ) (amounts : List ℕ) → IsChecked low high units h left right amounts → left / 2 ≡ right / 2 →
    IsAmple low high units amounts
checked_done low high units h left right amounts is met i apart = elim (cases_lt i is.across.risen) [
  | inl below ↦ is.below i below
  | inr above_ ↦
      let l = is.across.left_is in
      let r = is.across.right_is in
      absurd (apart (met_stays is.across.risen i low high (omega arith) above_))
]
