-- The two lists that contracts see, and the tree behind them.
use Rattle.std.proofs.Common.{
  ◌≡◌,
  ◌≢◌,
  ℕ,
  zero,
  ◌+◌,
  ◌-◌,
  ◌*◌,
  ◌/◌,
  ◌^◌,
  ◌<◌,
  ◌≤◌,
  ◌∙◌,
  ◌⊎◌,
  suc,
  ap,
  sym,
  subst,
  refl,
  arith,
  Bool,
  true,
  false,
  nat_lt,
  None,
  Some,
  List,
  length,
  slice_index,
  set,
  length-set,
  replicate,
  inl,
  inr,
}
use Rattle.std.proofs.lemmas.Bool.{cases_lt, cases_eq, lt-ltb, le-ltb}
use Rattle.std.proofs.lemmas.List.FromFn.{length-map-range_with_len, get_or-map-range_with_len}
use Rattle.std.proofs.lemmas.List.{get_or_past, ext_get_or, get_or-replicate, length-replicate}
use Rattle.bp_types.specs.declared.stay.Span.{Span}
use Rattle.bp_types.specs.Rooms.{rooms_moved}
use Rattle.bp_types.specs.Spans.{IsSpanWithin, first_short}
use Rattle.bp_types.proofs.Firsts.{find-range_none, find-range_some}
use Rattle.bp_types.proofs.RoomLemmas.{moved_by_all, room_moved-inside, room_moved-before}
use Rattle.bp_ledger.specs.Inventory.{Inventory, IsInventory, HasLeft, HasSold, taken, released, rooms_left_on}
use Rattle.bp_ledger.specs.Tree.{width, IsOnLevel, on_way, leaf, sold_in, left_on, IsTree, IsInner, IsTaken, SameLeaves}
use Rattle.bp_ledger.proofs.LevelLemmas.{way_same, way_over}
use Rattle.bp_ledger.proofs.NodeLemmas.{at_same, at_other}
use Rattle.bp_ledger.proofs.PushLemmas.{taken_fits}

-- the two lists
abbrev pub seen : ℕ → List ℕ → List ℕ → Inventory
seen h rooms amounts = record { rooms = rooms; sold = sold_in h amounts (length rooms) }

pub length-sold_in : (h : ℕ) (amounts : List ℕ) (nights : ℕ) → length (sold_in h amounts nights) ≡ nights
length-sold_in h amounts nights = length-map-range_with_len (λ n. on_way h amounts (leaf h n)) 0 nights

pub sold_at : (h : ℕ) (amounts : List ℕ) (nights n : ℕ) → n < nights → slice_index (sold_in h amounts nights) n ≡ on_way h amounts (leaf h n)
sold_at h amounts nights n g = get_or-map-range_with_len (λ k. on_way h amounts (leaf h k)) 0 nights n n 0 g (omega arith)

-- one of the two ways of a night is so much more than the other where the night is in the span, and otherwise the same
pub taken_way : (h nights : ℕ) (less more : List ℕ) (s : Span) (units n : ℕ) → nights + 2 ≤ width h → s.to ≤ nights →
    IsTaken h (width h + s.from) (width h + s.to + 1) units less more → n < nights →
    ((s.from ≤ n) × ((n < s.to) × (on_way h more (leaf h n) ≡ on_way h less (leaf h n) + units))) ⊎
    (((n < s.from) ⊎ (s.to ≤ n)) × (on_way h more (leaf h n) ≡ on_way h less (leaf h n)))
taken_way h nights less more s units n roomy to took g =
    let on : IsOnLevel h (leaf h n) = (omega arith, omega arith) in
    elim (cases_lt n s.from) [
      | inl before ↦ inr (inl before, took.before (leaf h n) on (omega arith))
      | inr above ↦ elim (cases_lt n s.to) [
        | inl inside ↦ inl (above, (inside, took.between (leaf h n) (omega arith) (omega arith)))
        | inr past ↦ inr (inr past, took.past (leaf h n) on (omega arith))
      ]
    ]

-- the sold rooms follow
pub taken_sold : (h nights : ℕ) (less more : List ℕ) (s : Span) (units : ℕ) → nights + 2 ≤ width h → s.to ≤ nights →
    IsTaken h (width h + s.from) (width h + s.to + 1) units less more →
    sold_in h more nights ≡ rooms_moved (sold_in h less nights) s true units
taken_sold h nights less more s units roomy to took =
    let one = length-sold_in h less nights in
    let two = length-sold_in h more nights in
    moved_by_all (sold_in h less nights) (sold_in h more nights) s true units (omega arith)
    (λ k g.
    let a = sold_at h less nights k (omega arith) in
    let b = sold_at h more nights k (omega arith) in
    elim (taken_way h nights less more s units k roomy to took (omega arith)) [
      | inl moved ↦ let m = moved.1.1 in let i = room_moved-inside (sold_in h less nights) s true units k moved.0 moved.1.0 in omega arith
      | inr same ↦ let m = same.1 in elim same.0 [
        | inl before ↦ let i = room_moved-before (sold_in h less nights) s true units k before in omega arith
        | inr past ↦ absurd (omega arith)
      ]
    ])
    (λ k g. elim (cases_lt k nights) [
      | inl inside ↦
          let a = sold_at h less nights k inside in
          let b = sold_at h more nights k inside in
          elim (taken_way h nights less more s units k roomy to took inside) [
            | inl moved ↦ let q = moved.1.0 in absurd (omega arith)
            | inr same ↦ let m = same.1 in omega arith
          ]
      | inr outside ↦ get_or_past (sold_in h more nights) k 0 (omega arith) ∙ sym (get_or_past (sold_in h less nights) k 0 (omega arith))
    ])

pub released_sold : (h nights : ℕ) (less more : List ℕ) (s : Span) (units : ℕ) → nights + 2 ≤ width h → s.to ≤ nights →
    IsTaken h (width h + s.from) (width h + s.to + 1) units less more →
    sold_in h less nights ≡ rooms_moved (sold_in h more nights) s false units
released_sold h nights less more s units roomy to took =
    let one = length-sold_in h less nights in
    let two = length-sold_in h more nights in
    moved_by_all (sold_in h more nights) (sold_in h less nights) s false units (omega arith)
    (λ k g.
    let a = sold_at h less nights k (omega arith) in
    let b = sold_at h more nights k (omega arith) in
    elim (taken_way h nights less more s units k roomy to took (omega arith)) [
      | inl moved ↦ let m = moved.1.1 in let i = room_moved-inside (sold_in h more nights) s false units k moved.0 moved.1.0 in omega arith
      | inr same ↦ let m = same.1 in elim same.0 [
        | inl before ↦ let i = room_moved-before (sold_in h more nights) s false units k before in omega arith
        | inr past ↦ absurd (omega arith)
      ]
    ])
    (λ k g. elim (cases_lt k nights) [
      | inl inside ↦
          let a = sold_at h less nights k inside in
          let b = sold_at h more nights k inside in
          elim (taken_way h nights less more s units k roomy to took inside) [
            | inl moved ↦ let q = moved.1.0 in absurd (omega arith)
            | inr same ↦ let m = same.1 in omega arith
          ]
      | inr outside ↦ get_or_past (sold_in h less nights) k 0 (omega arith) ∙ sym (get_or_past (sold_in h more nights) k 0 (omega arith))
    ])

module _ (h w : ℕ) (rooms leasts amounts : List ℕ) (is : IsTree h w rooms leasts amounts) where
  pub seen_is_inventory : IsInventory (seen h rooms amounts)
  seen_is_inventory = record {
    one_each = length-sold_in h amounts (length rooms);
    within = λ n g. let e = sold_at h amounts (length rooms) n g in let f = is.within n g in omega arith;
  }

  -- the leaf of a night is on the lowest level, and the leaves on both sides of a span are
  pub leaf_on : (n : ℕ) → n < length rooms → IsOnLevel h (w + n + 1)
  leaf_on n g = let e = is.roomy in let from = is.from_is in (omega arith, omega arith)

  pub low_on : (s : Span) → IsSpanWithin (length rooms) s → IsOnLevel h (w + s.from)
  low_on s span = let e = is.roomy in let from = is.from_is in let f = span.0 in let t = span.1 in (omega arith, omega arith)

  pub high_on : (s : Span) → IsSpanWithin (length rooms) s → IsOnLevel h (w + s.to + 1)
  high_on s span = let e = is.roomy in let from = is.from_is in let f = span.0 in let t = span.1 in (omega arith, omega arith)

  pub sold_on : (n : ℕ) → n < length rooms → on_way h amounts (w + n + 1) ≡ slice_index (sold_in h amounts (length rooms)) n
  sold_on n g =
      let from = is.from_is in
      let at : leaf h n ≡ w + n + 1 = omega arith in
      let e = sold_at h amounts (length rooms) n g in
      let f = ap (λ k. on_way h amounts k) at in
      omega arith

  -- what is left at the leaf of a night
  pub left_at : (n : ℕ) → n < length rooms → left_on h leasts amounts (w + n + 1) ≡ rooms_left_on (seen h rooms amounts) n
  left_at n g =
      let from = is.from_is in
      let at : leaf h n ≡ w + n + 1 = omega arith in
      let e = sold_on n g in
      let keeps = is.leaves n g in
      let f = ap (λ k. slice_index leasts k) at in
      omega arith

  -- what a span has left can be taken from each of its leaves
  pub take_fits : (s : Span) (units : ℕ) → IsSpanWithin (length rooms) s → HasLeft (seen h rooms amounts) s units →
      (m : ℕ) → w + s.from < m → m < w + s.to + 1 → on_way h amounts m + units < 18446744073709551616
  take_fits s units span left = λ m f t.
      let to = span.1 in
      let n : ℕ = m - w - 1 in
      let at : w + n + 1 ≡ m = omega arith in
      let e = sold_on n (omega arith) in
      let more = left n (omega arith) (omega arith) in
      let bound = seen_is_inventory.within n (omega arith) in
      let fit = is.small n (omega arith) in
      let P : ℕ → Type 0 = λ k. on_way h amounts k + units < 18446744073709551616 in
      subst P at (omega arith)

  -- what a span has sold is on the way of each of its leaves
  pub release_has : (s : Span) (units : ℕ) → IsSpanWithin (length rooms) s → HasSold (seen h rooms amounts) s units →
      (m : ℕ) → w + s.from < m → m < w + s.to + 1 → units ≤ on_way h amounts m
  release_has s units span sold = λ m f t.
      let to = span.1 in
      let n : ℕ = m - w - 1 in
      let at : w + n + 1 ≡ m = omega arith in
      let e = sold_on n (omega arith) in
      let more = sold n (omega arith) (omega arith) in
      let P : ℕ → Type 0 = λ k. units ≤ on_way h amounts k in
      subst P at (omega arith)

  -- other amounts, with the least numbers brought up
  pub changed_tree : (leasts2 now : List ℕ) → length leasts2 ≡ length leasts → length now ≡ length amounts →
      ((m : ℕ) → IsOnLevel h m → on_way h now m < 18446744073709551616) →
      ((n : ℕ) → n < length rooms → on_way h now (leaf h n) ≤ slice_index rooms n) → SameLeaves h leasts leasts2 → IsInner h leasts2 now 0 0 →
      IsTree h w rooms leasts2 now
  changed_tree leasts2 now len len_now fits within leaves inner = record {
    from_is = is.from_is;
    roomy = is.roomy;
    leasts_len = len ∙ is.leasts_len;
    amounts_len = len_now ∙ is.amounts_len;
    small = is.small;
    fits = fits;
    within = within;
    leaves = λ n g. leaves (leaf h n) (omega arith) ∙ is.leaves n g;
    inner = inner;
  }

  pub taken_tree : (leasts2 now : List ℕ) (s : Span) (units : ℕ) → IsSpanWithin (length rooms) s → HasLeft (seen h rooms amounts) s units →
      IsTaken h (w + s.from) (w + s.to + 1) units amounts now → length leasts2 ≡ length leasts → SameLeaves h leasts leasts2 → IsInner h leasts2 now 0 0 →
      IsTree h w rooms leasts2 now
  taken_tree leasts2 now s units span left took len leaves inner =
      let from = is.from_is in
      let T : ℕ → Type 0 = λ k. IsTaken h (k + s.from) (k + s.to + 1) units amounts now in
      let moved = subst T from took in
      changed_tree leasts2 now len took.len
      (λ m on.
      let f = is.fits m on in
      elim (cases_lt (w + s.from) m) [
        | inl after ↦ elim (cases_lt m (w + s.to + 1)) [
          | inl inside ↦ let e = took.between m after inside in let g = take_fits s units span left m after inside in omega arith
          | inr past ↦ let e = took.past m on past in omega arith
        ]
        | inr before ↦ let e = took.before m on before in omega arith
      ])
      (λ n g.
      let was = is.within n g in
      let e = sold_at h amounts (length rooms) n g in
      elim (taken_way h (length rooms) amounts now s units n is.roomy span.1 moved g) [
        | inl more ↦ let m = more.1.1 in let l = left n more.0 more.1.0 in omega arith
        | inr same ↦ let m = same.1 in omega arith
      ]) leaves inner

  pub released_tree : (leasts2 now : List ℕ) (s : Span) (units : ℕ) → IsSpanWithin (length rooms) s →
      IsTaken h (w + s.from) (w + s.to + 1) units now amounts → length leasts2 ≡ length leasts → SameLeaves h leasts leasts2 → IsInner h leasts2 now 0 0 →
      IsTree h w rooms leasts2 now
  released_tree leasts2 now s units span took len leaves inner =
      let from = is.from_is in
      let T : ℕ → Type 0 = λ k. IsTaken h (k + s.from) (k + s.to + 1) units now amounts in
      let moved = subst T from took in
      changed_tree leasts2 now len (sym took.len) (taken_fits h (w + s.from) (w + s.to + 1) units amounts now took is.fits)
      (λ n g.
      let was = is.within n g in
      elim (taken_way h (length rooms) now amounts s units n is.roomy span.1 moved g) [
        | inl more ↦ let m = more.1.1 in omega arith
        | inr same ↦ let m = same.1 in omega arith
      ]) leaves inner

  pub taken_seen : (now : List ℕ) (s : Span) (units : ℕ) → IsSpanWithin (length rooms) s → IsTaken h (w + s.from) (w + s.to + 1) units amounts now →
      seen h rooms now ≡ taken (seen h rooms amounts) s units
  taken_seen now s units span took =
      let T : ℕ → Type 0 = λ k. IsTaken h (k + s.from) (k + s.to + 1) units amounts now in
      ap (λ l. let v : Inventory = record { rooms = rooms; sold = l } in
      v) (taken_sold h (length rooms) amounts now s units is.roomy span.1 (subst T is.from_is took))

  pub released_seen : (now : List ℕ) (s : Span) (units : ℕ) → IsSpanWithin (length rooms) s → IsTaken h (w + s.from) (w + s.to + 1) units now amounts →
      seen h rooms now ≡ released (seen h rooms amounts) s units
  released_seen now s units span took =
      let T : ℕ → Type 0 = λ k. IsTaken h (k + s.from) (k + s.to + 1) units now amounts in
      ap (λ l. let v : Inventory = record { rooms = rooms; sold = l } in
      v) (released_sold h (length rooms) now amounts s units is.roomy span.1 (subst T is.from_is took))

  -- a night's rooms and those of its leaf are changed together
  pub resized_tree : (leasts2 : List ℕ) (n r : ℕ) → n < length rooms → on_way h amounts (leaf h n) ≤ r → r < 18446744073709551616 →
      length leasts2 ≡ length leasts → SameLeaves h (set leasts (w + n + 1) r) leasts2 → IsInner h leasts2 amounts 0 0 →
      IsTree h w (set rooms n r) leasts2 amounts
  resized_tree leasts2 n r g enough low_ len lowest inner =
      let same_len = length-set rooms n r in
      let from = is.from_is in
      let roomy = is.roomy in
      let long = is.leasts_len in
      record {
        from_is = is.from_is;
        roomy = omega arith;
        leasts_len = len ∙ is.leasts_len;
        amounts_len = is.amounts_len;
        small = λ k f. elim (cases_eq k n) [
          | inl same ↦ let e = at_same rooms k n r same g in omega arith
          | inr other ↦ let e = at_other rooms k n r other in let was = is.small k (omega arith) in omega arith
        ];
        fits = is.fits;
        within = λ k f. elim (cases_eq k n) [
          | inl same ↦ let e = at_same rooms k n r same g in let l = ap (λ j. on_way h amounts (leaf h j)) same in omega arith
          | inr other ↦ let e = at_other rooms k n r other in let was = is.within k (omega arith) in omega arith
        ];
        leaves = λ k f.
            let a = lowest (leaf h k) (omega arith) in
            elim (cases_eq k n) [
              | inl same ↦ let e = at_same rooms k n r same g in let b = at_same leasts (leaf h k) (w + n + 1) r (omega arith) (omega arith) in omega arith
              | inr other ↦ let e = at_other rooms k n r other in let b = at_other leasts (leaf h k) (w + n + 1) r (omega arith) in
                  let was = is.leaves k (omega arith) in omega arith
            ];
        inner = inner;
      }

  -- the first night of a span that is short, by its leaves
  pub none_short : (s : Span) (units : ℕ) → IsSpanWithin (length rooms) s → ((m : ℕ) → w + s.from < m → m < w + s.to + 1 → units ≤ left_on h leasts amounts m) →
      first_short (rooms_left_on (seen h rooms amounts)) s units ≡ None
  none_short s units span has =
      let from = span.0 in
      let to = span.1 in
      find-range_none (λ n. nat_lt (rooms_left_on (seen h rooms amounts) n) units) s.from (s.to - s.from)
      (λ k above_ below. le-ltb _ _ (let e = has (w + k + 1) (omega arith) (omega arith) in let f = left_at k (omega arith) in omega arith))

  pub first_is_short : (s : Span) (units m : ℕ) → IsSpanWithin (length rooms) s → w + s.from < m → m < w + s.to + 1 →
      ((k : ℕ) → w + s.from < k → k < w + s.to + 1 → k < m → units ≤ left_on h leasts amounts k) →
      left_on h leasts amounts m < units → first_short (rooms_left_on (seen h rooms amounts)) s units ≡ Some (m - w - 1)
  first_is_short s units m span after inside before short =
      let from = span.0 in
      let to = span.1 in
      let n : ℕ = m - w - 1 in
      let at : w + n + 1 ≡ m = omega arith in
      let here : left_on h leasts amounts (w + n + 1) ≡ left_on h leasts amounts m = ap (λ k. left_on h leasts amounts k) at in
      let f = left_at n (omega arith) in
      find-range_some (λ k. nat_lt (rooms_left_on (seen h rooms amounts) k) units) s.from (s.to - s.from) n (omega arith) (omega arith)
      (λ k above_ below. le-ltb _ _ (let e = before (w + k + 1) (omega arith) (omega arith) (omega arith) in let g = left_at k (omega arith) in omega arith))
      (lt-ltb _ _ (omega arith))

way_zero : (h : ℕ) (a : List ℕ) (m : ℕ) → ((k : ℕ) → k ≤ m → slice_index a k ≡ 0) → on_way h a m ≡ 0
way_zero zero a m none = none m (omega arith)
way_zero (suc h) a m none = let e = none m (omega arith) in let f = way_zero h a (m / 2) (λ k g. none k (omega arith)) in omega arith

-- where the inner nodes have no amounts, a way is its leaf
way_leaf : (h : ℕ) (a : List ℕ) (m : ℕ) → IsOnLevel h m → ((k : ℕ) → k < width h → slice_index a k ≡ 0) → on_way h a m ≡ slice_index a m
way_leaf zero a m on none = refl
way_leaf (suc h) a m on none = let e = way_zero h a (m / 2) (λ k g. none k (omega arith)) in omega arith

-- a new tree: the rooms and the sold rooms stand at the leaves, and the inner nodes have no amounts
pub record IsLaid (w : ℕ) (values numbers : List ℕ) : Type 0 where
  pub laid : (n : ℕ) → n < length values → slice_index numbers (w + 1 + n) ≡ slice_index values n
  pub before : (k : ℕ) → k < w + 1 → slice_index numbers k ≡ 0
  pub past : (k : ℕ) → w + 1 + length values ≤ k → slice_index numbers k ≡ 0

none_at : (n k z : ℕ) → z ≡ 0 → slice_index (replicate n z) k ≡ 0
none_at n k z none = elim (cases_lt k n) [
  | inl inside ↦ get_or-replicate n k z 0 inside ∙ none
  | inr past ↦ get_or_past (replicate n z) k 0 (let l = length-replicate n z in omega arith)
]

pub laid_out : (w n : ℕ) (values was now : List ℕ) → was ≡ replicate n 0 → ((k : ℕ) → k < length values → slice_index now (w + 1 + k) ≡ slice_index values k) →
    ((k : ℕ) → k < w + 1 → slice_index now k ≡ slice_index was k) → ((k : ℕ) → w + 1 + length values ≤ k → slice_index now k ≡ slice_index was k) →
    IsLaid w values now
laid_out w n values was now none laid before past =
    let zero_at = λ (k : ℕ). ap (λ (l : List ℕ). slice_index l k) none ∙ none_at n k 0 refl in
    record {
      laid = laid;
      before = λ k g. before k g ∙ zero_at k;
      past = λ k g. past k g ∙ zero_at k;
    }

module _ (h w : ℕ) (rooms sold leasts amounts : List ℕ) (from : w ≡ width h) (roomy : length rooms + 2 ≤ w) (each : length sold ≡
    length rooms) (sells : IsLaid w sold amounts) where
  new_way : (n : ℕ) → n < length rooms → on_way h amounts (leaf h n) ≡ slice_index sold n
  new_way n g =
      let at : leaf h n ≡ w + 1 + n = omega arith in
      let e = way_leaf h amounts (leaf h n) (omega arith, omega arith) (λ k l. sells.before k (omega arith)) in
      let f = ap (λ k. slice_index amounts k) at in
      let s = sells.laid n (omega arith) in
      omega arith

  pub new_sold : sold_in h amounts (length rooms) ≡ sold
  new_sold =
      let len = length-sold_in h amounts (length rooms) in
      ext_get_or 0 (sold_in h amounts (length rooms)) sold (omega arith) (λ n g. sold_at h amounts (length rooms) n (omega arith) ∙ new_way n (omega arith))

  pub new_tree : (leasts2 : List ℕ) → length leasts ≡ w + w → length amounts ≡ w + w → length leasts2 ≡ length leasts → IsLaid w rooms leasts →
      SameLeaves h leasts leasts2 → IsInner h leasts2 amounts 0 0 →
      ((n : ℕ) → slice_index rooms n < 18446744073709551616) → ((n : ℕ) → slice_index sold n < 18446744073709551616) →
      ((n : ℕ) → n < length rooms → slice_index sold n ≤ slice_index rooms n) →
      IsTree h w rooms leasts2 amounts
  new_tree leasts2 len len_amounts len2 has leaves inner small_ small_sold within = record {
    from_is = from;
    roomy = omega arith;
    leasts_len = omega arith;
    amounts_len = omega arith;
    small = λ n g. small_ n;
    fits = λ m on.
        let e = way_leaf h amounts m on (λ k l. sells.before k (omega arith)) in
        elim (cases_lt m (w + 1)) [
          | inl first ↦ let f = sells.before m first in omega arith
          | inr after ↦ elim (cases_lt m (w + 1 + length sold)) [
            | inl inside ↦
                let n : ℕ = m - (w + 1) in
                let at : w + 1 + n ≡ m = omega arith in
                let f = ap (λ k. slice_index amounts k) at in
                let s = sells.laid n (omega arith) in
                let t = small_sold n in
                omega arith
            | inr past ↦ let f = sells.past m past in omega arith
          ]
        ];
    within = λ n g. let e = new_way n g in let f = within n g in omega arith;
    leaves = λ n g.
        let at : leaf h n ≡ w + 1 + n = omega arith in
        let e = leaves (leaf h n) (omega arith) in
        let f = ap (λ k. slice_index leasts k) at in
        let s = has.laid n g in
        omega arith;
    inner = inner;
  }
