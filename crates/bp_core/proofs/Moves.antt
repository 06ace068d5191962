-- The rooms left as a line moves the stock.
use Rattle.std.proofs.Common.{
  ◌≡◌,
  ℕ,
  ◌+◌,
  ◌-◌,
  ◌<◌,
  ◌≤◌,
  refl,
  ap,
  sym,
  ◌∙◌,
  arith,
  Bool,
  true,
  false,
  cond,
  length,
  slice_index,
  get_or-set_same,
  get_or-set_other,
  inl,
  inr,
}
use Rattle.std.proofs.lemmas.Bool.{cases_eq, cases_lt, cond-true, cond-false}
use Rattle.std.proofs.lemmas.List.FromFn.{length-map-range_with_len}
use Rattle.bp_types.specs.declared.stay.Span.{Span}
use Rattle.bp_types.specs.Displacement.{night_span}
use Rattle.bp_types.specs.Program.{covers}
use Rattle.bp_types.specs.Rooms.{moved, rooms_moved}
use Rattle.bp_types.specs.House.{Inn}
use Rattle.bp_types.proofs.RoomLemmas.{rooms_moved-at}
use Rattle.bp_types.proofs.Spans.{covers_inside, covers_before, covers_past}
use Rattle.bp_ledger.specs.Inventory.{Inventory, taken, released, resized}
use Rattle.bp_core.specs.Lines.{History}
use Rattle.bp_core.specs.Instance.{rooms_at, sold_at, rooms_left_at}
use Rattle.bp_core.specs.Keeping.{inventory_of}
use Rattle.bp_core.proofs.Stocking.{rooms_of_stock, sold_of_stock}

rooms_read : (h : Inn) (H G : History) (v : Inventory) → v ≡ inventory_of h G → (n : ℕ) → n < length h.rooms → rooms_at h G n ≡ slice_index v.rooms n
rooms_read h H G v is n g = sym (rooms_of_stock h G n g) ∙ ap (λ (w : Inventory). slice_index w.rooms n) (sym is)

sold_read : (h : Inn) (H G : History) (v : Inventory) → v ≡ inventory_of h G → (n : ℕ) → n < length h.rooms → sold_at h G n ≡ slice_index v.sold n
sold_read h H G v is n g = sym (sold_of_stock h G n g) ∙ ap (λ (w : Inventory). slice_index w.sold n) (sym is)

-- sold rooms that move on a span
sold_there : (h : Inn) (H : History) (span : Span) (up : Bool) (k n : ℕ) → n < length h.rooms →
    slice_index (rooms_moved (inventory_of h H).sold span up k) n ≡ cond (covers span n) (moved (sold_at h H n) up k) (sold_at h H n)
sold_there h H span up k n g =
    let sold = (inventory_of h H).sold in
    let each : length sold ≡ length h.rooms = length-map-range_with_len (sold_at h H) 0 (length h.rooms) in
    rooms_moved-at sold span up k n 0 (omega (arith, each)) ∙ ap (λ s. cond (covers span n) (moved s up k) s) (sold_of_stock h H n g)

-- the stock stays, and so does what is left
pub left_stays : (h : Inn) (H G : History) → inventory_of h H ≡ inventory_of h G → (n : ℕ) → n < length h.rooms → rooms_left_at h G n ≡ rooms_left_at h H n
left_stays h H G is n g =
    let rooms = rooms_read h H G (inventory_of h H) is n g ∙ rooms_of_stock h H n g in
    let sold = sold_read h H G (inventory_of h H) is n g ∙ sold_of_stock h H n g in
    ap (λ r. r - sold_at h G n) rooms ∙ ap (λ s. rooms_at h H n - s) sold

-- rooms taken are left no more
pub left_taken : (h : Inn) (H G : History) (span : Span) (k : ℕ) → taken (inventory_of h H) span k ≡ inventory_of h G → (n : ℕ) → n < length h.rooms →
    rooms_left_at h G n ≡ cond (covers span n) (rooms_left_at h H n - k) (rooms_left_at h H n)
left_taken h H G span k is n g =
    let rooms = rooms_read h H G (taken (inventory_of h H) span k) is n g ∙ rooms_of_stock h H n g in
    let sold = sold_read h H G (taken (inventory_of h H) span k) is n g ∙ sold_there h H span true k n g in
    ap (λ r. r - sold_at h G n) rooms ∙ ap (λ s. rooms_at h H n - s) sold ∙ fewer (rooms_at h H n) (sold_at h H n) (covers span n)
  where
    fewer : (r s : ℕ) (b : Bool) → r - cond b (s + k) s ≡ cond b (r - s - k) (r - s)
    fewer r s true = omega arith
    fewer r s false = refl

-- rooms given up are left again
pub left_released : (h : Inn) (H G : History) (span : Span) → released (inventory_of h H) span 1 ≡ inventory_of h G → (n : ℕ) → n < length h.rooms →
    sold_at h H n ≤ rooms_at h H n → (covers span n ≡ true → 1 ≤ sold_at h H n) →
    rooms_left_at h G n ≡ cond (covers span n) (rooms_left_at h H n + 1) (rooms_left_at h H n)
left_released h H G span is n g below some =
    let rooms = rooms_read h H G (released (inventory_of h H) span 1) is n g ∙ rooms_of_stock h H n g in
    let sold = sold_read h H G (released (inventory_of h H) span 1) is n g ∙ sold_there h H span false 1 n g in
    ap (λ r. r - sold_at h G n) rooms ∙ ap (λ s. rooms_at h H n - s) sold ∙ more (rooms_at h H n) (sold_at h H n) (covers span n) below some
  where
    more : (r s : ℕ) (b : Bool) → s ≤ r → (b ≡ true → 1 ≤ s) → r - cond b (s - 1) s ≡ cond b (r - s + 1) (r - s)
    more r s true h one = let o = one refl in omega arith
    more r s false h one = refl

night_alone : (night n : ℕ) → (n ≡ night → ⊥) → covers (night_span night) n ≡ false
night_alone night n other =
    elim (cases_lt n night) [
      | inl before ↦ covers_before night (night + 1) n before
      | inr above ↦ covers_past night (night + 1) n (omega arith)
    ]

-- rooms of a night set, up or down
pub left_resized : (h : Inn) (H G : History) (night new : ℕ) (up : Bool) (k : ℕ) → night < length h.rooms →
    resized (inventory_of h H) night new ≡ inventory_of h G → sold_at h H night ≤ rooms_at h H night → sold_at h H night ≤ new →
    new ≡ moved (rooms_at h H night) up k → (up ≡ false → k ≤ rooms_at h H night) →
    (n : ℕ) → n < length h.rooms → rooms_left_at h G n ≡ cond (covers (night_span night) n) (moved (rooms_left_at h H n) up k) (rooms_left_at h H n)
left_resized h H G night new up k within is below above moves small n g =
    let each : length (inventory_of h H).rooms ≡ length h.rooms = length-map-range_with_len (rooms_at h H) 0 (length h.rooms) in
    let v = resized (inventory_of h H) night new in
    let sold = sold_read h H G v is n g ∙ sold_of_stock h H n g in
    elim (cases_eq n night) [
      | inl here ↦
          let rooms : rooms_at h G n ≡ new = rooms_read h H G v is n g ∙ ap (λ m. slice_index v.rooms m) here ∙
          get_or-set_same (inventory_of h H).rooms night new 0 (omega (arith, each)) in
          let there : covers (night_span night) n ≡ true = ap (covers (night_span night)) here ∙
          covers_inside night (night + 1) night (omega arith) (omega arith) in
          let left : rooms_left_at h G n ≡ moved (rooms_left_at h H n) up k = ap (λ r. r - sold_at h G n) (rooms ∙ moves) ∙
          ap (λ s. moved (rooms_at h H night) up k - s) sold ∙ ap (λ m. moved (rooms_at h H m) up k - sold_at h H n) (sym here) ∙
          set_to up (rooms_at h H n) (sold_at h H n) (omega (arith, below, ap (sold_at h H) here, ap (rooms_at h H) here))
          (λ down. omega (arith, small down, ap (rooms_at h H) here)) in
          left ∙ sym (cond-true _ _ _ there)
      | inr other ↦
          let rooms : rooms_at h G n ≡ rooms_at h H n = rooms_read h H G v is n g ∙ get_or-set_other (inventory_of h H).rooms night n new 0 other ∙
          rooms_of_stock h H n g in
          let left : rooms_left_at h G n ≡ rooms_left_at h H n = ap (λ r. r - sold_at h G n) rooms ∙ ap (λ s. rooms_at h H n - s) sold in
          left ∙ sym (cond-false _ _ _ (night_alone night n other))
    ]
  where
    set_to : (up : Bool) (r s : ℕ) → s ≤ r → (up ≡ false → k ≤ r) → moved r up k - s ≡ moved (r - s) up k
    set_to true r s h small = omega arith
    set_to false r s h small = omega arith
