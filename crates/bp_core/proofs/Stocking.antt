-- The stock of rooms as a line moves it.
use Rattle.std.proofs.Common.{
  ◌≡◌,
  ℕ,
  zero,
  suc,
  ◌+◌,
  ◌-◌,
  ◌<◌,
  ◌≤◌,
  refl,
  ap,
  sym,
  ◌∙◌,
  arith,
  Bool,
  cond,
  nat_lt,
  [],
  ◌∷◌,
  ◌++◌,
  length,
  slice_index,
  Some,
  None,
  unwrap_or,
}
use Rattle.std.specs.List.{find, range_with_len}
use Rattle.std.proofs.lemmas.Bool.{ltb-false}
use Rattle.std.proofs.lemmas.List.FromFn.{fill_by_all, length-map-range_with_len, get_or-map-range_with_len}
use Rattle.bp_types.specs.declared.stay.Span.{Span}
use Rattle.bp_types.specs.Program.{covers}
use Rattle.bp_types.specs.Rooms.{moved, rooms_moved}
use Rattle.bp_types.specs.House.{Inn}
use Rattle.bp_types.proofs.Firsts.{none_passes}
use Rattle.bp_types.proofs.RoomLemmas.{length-rooms_moved, rooms_moved-at}
use Rattle.bp_types.specs.Spans.{first_short}
use Rattle.bp_ledger.specs.Inventory.{rooms_left_on, HasLeft}
use Rattle.bp_core.specs.declared.line.Line.{Line}
use Rattle.bp_core.specs.Lines.{History}
use Rattle.bp_core.specs.Instance.{rooms_at, sold_at, rooms_left_at, resized_rooms}
use Rattle.bp_core.specs.Keeping.{inventory_of}
use Rattle.bp_core.proofs.Pushes.{last_value-push}
use Rattle.bp_core.proofs.Effects.{numbers_same}

pub rooms_of_stock : (h : Inn) (H : History) (n : ℕ) → n < length h.rooms → slice_index (inventory_of h H).rooms n ≡ rooms_at h H n
rooms_of_stock h H n within = get_or-map-range_with_len (rooms_at h H) 0 (length h.rooms) n n 0 within (omega arith)

pub sold_of_stock : (h : Inn) (H : History) (n : ℕ) → n < length h.rooms → slice_index (inventory_of h H).sold n ≡ sold_at h H n
sold_of_stock h H n within = get_or-map-range_with_len (sold_at h H) 0 (length h.rooms) n n 0 within (omega arith)

-- the sold rooms move on the nights of a span
pub sold_moves : (h : Inn) (H G : History) (span : Span) (up : Bool) (units : ℕ) →
    ((n : ℕ) → n < length h.rooms → sold_at h G n ≡ cond (covers span n) (moved (sold_at h H n) up units) (sold_at h H n)) →
    rooms_moved (inventory_of h H).sold span up units ≡ (inventory_of h G).sold
sold_moves h H G span up units is =
    let sold = (inventory_of h H).sold in
    let each : length sold ≡ length h.rooms = length-map-range_with_len (sold_at h H) 0 (length h.rooms) in
    fill_by_all (sold_at h G) (rooms_moved sold span up units) (length h.rooms) 0 (length-rooms_moved sold span up units ∙ each) (λ n within.
    rooms_moved-at sold span up units n 0 (omega (arith, each)) ∙ ap (λ s. cond (covers span n) (moved s up units) s) (sold_of_stock h H n within) ∙
    sym (is n within))

-- rooms stay where no line sets them
pub rooms_stay : (h : Inn) (H : History) (x : Line) → ((n : ℕ) → resized_rooms n x ≡ None) → (inventory_of h H).rooms ≡ (inventory_of h (H ++ x ∷ [])).rooms
rooms_stay h H x none = numbers_same (rooms_at h H) (rooms_at h (H ++ x ∷ [])) (length h.rooms)
    (λ n g. sym (last_value-push (resized_rooms n) (slice_index h.rooms n) H x ∙ ap (λ o. unwrap_or o (rooms_at h H n)) (none n)))

-- the first number of a run that passes is that of a test that says the same
pub find-same : (p q : ℕ → Bool) (a n : ℕ) → ((k : ℕ) → a ≤ k → k < a + n → p k ≡ q k) → find p (range_with_len a n) ≡ find q (range_with_len a n)
find-same p q a zero same = refl
find-same p q a (suc n) same =
    ap (λ b. cond b (Some a) (find p (range_with_len (a + 1) n))) (same a (omega arith) (omega arith)) ∙
    ap (λ o. cond (q a) (Some a) o) (find-same p q (a + 1) n (λ k above below. same k (omega arith) (omega arith)))

pub left_of_stock : (h : Inn) (H : History) (n : ℕ) → n < length h.rooms → rooms_left_on (inventory_of h H) n ≡ rooms_left_at h H n
left_of_stock h H n within = ap (λ r. r - slice_index (inventory_of h H).sold n) (rooms_of_stock h H n within) ∙
    ap (λ s. rooms_at h H n - s) (sold_of_stock h H n within)

-- the ledger finds the first night without rooms
pub first_of_stock : (h : Inn) (H : History) (span : Span) (units : ℕ) → span.from < span.to → span.to ≤ length h.rooms →
    first_short (rooms_left_on (inventory_of h H)) span units ≡ first_short (rooms_left_at h H) span units
first_of_stock h H span units ordered within =
    find-same (λ n. nat_lt (rooms_left_on (inventory_of h H) n) units) (λ n. nat_lt (rooms_left_at h H n) units) span.from (span.to - span.from)
    (λ n above below. ap (λ l. nat_lt l units) (left_of_stock h H n (omega arith)))

-- where no night is without rooms, the ledger has them
pub stock_has_left : (h : Inn) (H : History) (span : Span) (units : ℕ) → span.to ≤ length h.rooms → first_short (rooms_left_at h H) span units ≡ None →
    HasLeft (inventory_of h H) span units
stock_has_left h H span units within none n above below =
    let enough : units ≤ rooms_left_at h H n =
    ltb-false _ _ (none_passes (λ k. nat_lt (rooms_left_at h H k) units) span.from (span.to - span.from) none n above (omega arith)) in
    omega (arith, enough, left_of_stock h H n (omega arith))
