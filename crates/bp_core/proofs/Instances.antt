-- Instances of two histories that differ in rooms, or in one stay.
use Rattle.std.proofs.Common.{
  ◌≡◌,
  ℕ,
  ◌+◌,
  ◌*◌,
  ◌<◌,
  ◌≤◌,
  refl,
  ap,
  sym,
  ◌∙◌,
  arith,
  Bool,
  true,
  false,
  cond,
  List,
  [],
  ◌∷◌,
  length,
  set,
  get_or,
  slice_index,
  length-set,
  get_or-set_same,
  get_or-set_other,
  inl,
  inr,
}
use Rattle.std.proofs.Math.Nat.{mul-add, mul-sub, mul-le-mul_left}
use Rattle.std.proofs.lemmas.Bool.{cases_eq}
use Rattle.std.proofs.lemmas.List.FromFn.{fill_by_all, length-map-range_with_len, get_or-map-range_with_len}
use Rattle.bp_types.specs.declared.stay.Span.{Span}
use Rattle.bp_types.specs.declared.stay.Stay.{Stay}
use Rattle.bp_types.specs.declared.change.Change.TheVariants.{Rooms, Demand, Rate}
use Rattle.bp_types.specs.Program.{Program, no_stay, stay_at, covers}
use Rattle.bp_types.specs.Rooms.{moved, rooms_moved}
use Rattle.bp_types.specs.Changes.{with_forecast, with_rate, Fits, Leads}
use Rattle.bp_types.specs.House.{Inn}
use Rattle.bp_types.proofs.RoomLemmas.{length-rooms_moved, rooms_moved-at}
use Rattle.bp_types.proofs.Spans.{covers_inside}
use Rattle.bp_types.specs.declared.limits.TheConstants.{MOST_FORECAST, MOST_UNITS}
use Rattle.bp_core.specs.Lines.{History}
use Rattle.bp_core.specs.Instance.{span_of, rooms_left_at, units_left_at, rate_of, forecast_of, stay_now, instance_of}
use Rattle.bp_core.proofs.Effects.{numbers_same}
use Rattle.bp_core.proofs.Ranges.{IsRate}
use Rattle.bp_core.proofs.Turns.{leads_one}

pub nights_now : (h : Inn) (H : History) → length (instance_of h H).rooms ≡ length h.rooms
nights_now h H = length-map-range_with_len (units_left_at h H) 0 (length h.rooms)

pub stays_now : (h : Inn) (H : History) → length (instance_of h H).stays ≡ length h.stays
stays_now h H = length-map-range_with_len (stay_now h H) 0 (length h.stays)

pub units_now : (h : Inn) (H : History) (n : ℕ) → n < length h.rooms → slice_index (instance_of h H).rooms n ≡ units_left_at h H n
units_now h H n within = get_or-map-range_with_len (units_left_at h H) 0 (length h.rooms) n n 0 within (omega arith)

stay_is_now : (h : Inn) (H : History) (j : ℕ) → j < length h.stays → get_or (instance_of h H).stays j no_stay ≡ stay_now h H j
stay_is_now h H j within = get_or-map-range_with_len (stay_now h H) 0 (length h.stays) j j no_stay within (omega arith)

-- the same rooms left
pub rooms_as_before : (h : Inn) (H G : History) → ((n : ℕ) → n < length h.rooms → rooms_left_at h G n ≡ rooms_left_at h H n) →
    (instance_of h H).rooms ≡ (instance_of h G).rooms
rooms_as_before h H G same = numbers_same (units_left_at h H) (units_left_at h G) (length h.rooms) (λ n g. ap (λ l. h.limits.unit * l) (sym (same n g)))

same_stay : (h : Inn) (H G : History) (j : ℕ) → rate_of h H j ≡ rate_of h G j → forecast_of h H j ≡ forecast_of h G j → stay_now h H j ≡ stay_now h G j
same_stay h H G j rate forecast =
    ap (λ r. record { span = span_of h j; rate = r; forecast = forecast_of h H j }) rate ∙
    ap (λ f. record { span = span_of h j; rate = rate_of h G j; forecast = f }) forecast

-- the same stays
pub stays_as_before : (h : Inn) (H G : History) → ((j : ℕ) → rate_of h H j ≡ rate_of h G j) → ((j : ℕ) → forecast_of h H j ≡ forecast_of h G j) →
    (instance_of h H).stays ≡ (instance_of h G).stays
stays_as_before h H G rates forecasts =
    fill_by_all (stay_now h G) (instance_of h H).stays (length h.stays) no_stay (stays_now h H) (λ j g. stay_is_now h H j g ∙
    same_stay h H G j (rates j) (forecasts j))

-- one stay set
stay_set : (h : Inn) (H G : History) (stay : ℕ) (s : Stay) → stay < length h.stays → s ≡ stay_now h G stay →
    ((j : ℕ) → (j ≡ stay → ⊥) → stay_now h H j ≡ stay_now h G j) → set (instance_of h H).stays stay s ≡ (instance_of h G).stays
stay_set h H G stay s within is others =
    let stays = (instance_of h H).stays in
    let each = stays_now h H in
    fill_by_all (stay_now h G) (set stays stay s) (length h.stays) no_stay (length-set _ _ _ ∙ each) (λ j g.
    elim (cases_eq j stay) [
      | inl here ↦ ap (λ m. get_or (set stays stay s) m no_stay) here ∙ get_or-set_same stays stay s no_stay (omega (arith, each)) ∙ is ∙
          ap (stay_now h G) (sym here)
      | inr other ↦ get_or-set_other stays stay j s no_stay other ∙ stay_is_now h H j g ∙ others j other
    ])

both_lists : (h : Inn) (G : History) (rooms : List ℕ) (stays : List Stay) → rooms ≡ (instance_of h G).rooms → stays ≡ (instance_of h G).stays →
    record { rooms = rooms; stays = stays } ≡ instance_of h G
both_lists h G rooms stays r s =
    ap (λ (l : List ℕ). record { rooms = l; stays = stays }) r ∙ ap (λ (l : List Stay). record { rooms = (instance_of h G).rooms; stays = l }) s

-- nothing left moves, and no stay
pub instance_as_before : (h : Inn) (H G : History) → (instance_of h H).rooms ≡ (instance_of h G).rooms → (instance_of h H).stays ≡ (instance_of h G).stays →
    instance_of h H ≡ instance_of h G
instance_as_before h H G rooms stays = both_lists h G (instance_of h H).rooms (instance_of h H).stays rooms stays

-- a forecast leads there
pub demand_leads : (h : Inn) (H G : History) (rooms : List ℕ) (stay value : ℕ) → rooms ≡ (instance_of h G).rooms → stay < length h.stays →
    value ≡ forecast_of h G stay → value ≤ MOST_FORECAST →
    ((j : ℕ) → rate_of h H j ≡ rate_of h G j) → ((j : ℕ) → (j ≡ stay → ⊥) → forecast_of h H j ≡ forecast_of h G j) →
    Leads (record { rooms = rooms; stays = (instance_of h H).stays }) (Demand stay value ∷ []) (instance_of h G)
demand_leads h H G rooms stay value same within is small rates others =
    let p : Program = record { rooms = rooms; stays = (instance_of h H).stays } in
    let s : with_forecast (stay_at p stay) value ≡ stay_now h G stay = ap (λ t. with_forecast t value) (stay_is_now h H stay within) ∙
    ap (λ r. record { span = span_of h stay; rate = r; forecast = value }) (rates stay) ∙
    ap (λ f. record { span = span_of h stay; rate = rate_of h G stay; forecast = f }) is in
    leads_one p (instance_of h G) (Demand stay value) (
      omega (arith, stays_now h H),
      small,
    ) (both_lists h G rooms _ same
    (stay_set h H G stay (with_forecast (stay_at p stay) value) within s (λ j ne. same_stay h H G j (rates j) (others j ne))))

-- a rate leads there
pub rate_leads : (h : Inn) (H G : History) (stay value : ℕ) → (instance_of h H).rooms ≡ (instance_of h G).rooms → stay < length h.stays →
    value ≡ rate_of h G stay → IsRate value →
    ((j : ℕ) → (j ≡ stay → ⊥) → rate_of h H j ≡ rate_of h G j) → ((j : ℕ) → forecast_of h H j ≡ forecast_of h G j) →
    Leads (instance_of h H) (Rate stay value ∷ []) (instance_of h G)
rate_leads h H G stay value same within is rate others forecasts =
    let p : Program = instance_of h H in
    let s : with_rate (stay_at p stay) value ≡ stay_now h G stay = ap (λ t. with_rate t value) (stay_is_now h H stay within) ∙
    ap (λ r. record { span = span_of h stay; rate = r; forecast = forecast_of h H stay }) is ∙
    ap (λ f. record { span = span_of h stay; rate = rate_of h G stay; forecast = f }) (forecasts stay) in
    leads_one p (instance_of h G) (Rate stay value) (
      omega (arith, stays_now h H),
      rate.0,
      rate.1,
    ) (both_lists h G p.rooms _ same
    (stay_set h H G stay (with_rate (stay_at p stay) value) within s (λ j ne. same_stay h H G j (others j ne) (forecasts j))))

units_times : (u left k : ℕ) (up inside : Bool) → cond inside (moved (u * left) up (u * k)) (u * left) ≡ u * cond inside (moved left up k) left
units_times u left k true true = sym (mul-add u left k)
units_times u left k false true = sym (mul-sub u left k)
units_times u left k true false = refl
units_times u left k false false = refl

-- so many rooms more are left on each night of a span, or fewer
pub record MovesRooms (h : Inn) (H G : History) (span : Span) (up : Bool) (k : ℕ) : Type 0 where
  pub ordered : span.from < span.to
  pub within : span.to ≤ length h.rooms
  pub moves : (n : ℕ) → n < length h.rooms → rooms_left_at h G n ≡ cond (covers span n) (moved (rooms_left_at h H n) up k) (rooms_left_at h H n)
  pub enough : up ≡ false → (n : ℕ) → span.from ≤ n → n < span.to → k ≤ rooms_left_at h H n
  pub small : (n : ℕ) → n < length h.rooms → units_left_at h G n ≤ MOST_UNITS

units_move : (h : Inn) (H G : History) (span : Span) (up : Bool) (k : ℕ) → MovesRooms h H G span up k →
    rooms_moved (instance_of h H).rooms span up (h.limits.unit * k) ≡ (instance_of h G).rooms
units_move h H G span up k is =
    let rooms = (instance_of h H).rooms in
    let units : ℕ = h.limits.unit * k in
    let each = nights_now h H in
    fill_by_all (units_left_at h G) (rooms_moved rooms span up units) (length h.rooms) 0 (length-rooms_moved rooms span up units ∙ each) (λ n g.
    rooms_moved-at rooms span up units n 0 (omega (arith, each)) ∙ ap (λ s. cond (covers span n) (moved s up units) s) (units_now h H n g) ∙
    units_times h.limits.unit (rooms_left_at h H n) k up (covers span n) ∙ ap (λ l. h.limits.unit * l) (sym (is.moves n g)))

units_fit : (h : Inn) (H G : History) (span : Span) (up : Bool) (k : ℕ) → MovesRooms h H G span up k →
    Fits (instance_of h H) (Rooms span up (h.limits.unit * k))
units_fit h H G span true k is = (
  (is.ordered, omega (arith, is.within, nights_now h H)),
  λ n above below.
      let g : n < length h.rooms = omega (arith, is.within) in
      let more : rooms_left_at h G n ≡ rooms_left_at h H n + k = is.moves n g ∙
      ap (λ b. cond b (rooms_left_at h H n + k) (rooms_left_at h H n)) (covers_inside span.from span.to n above below) in
      let sum : units_left_at h G n ≡ units_left_at h H n + h.limits.unit * k = ap (λ l. h.limits.unit * l) more ∙
      mul-add h.limits.unit (rooms_left_at h H n) k in
      omega (arith, sum, units_now h H n g, is.small n g),
)
units_fit h H G span false k is = (
  (is.ordered, omega (arith, is.within, nights_now h H)),
  λ n above below.
      let g : n < length h.rooms = omega (arith, is.within) in
      let fewer : h.limits.unit * k ≤ units_left_at h H n = mul-le-mul_left h.limits.unit (is.enough refl n above below) in
      omega (arith, fewer, units_now h H n g),
)

-- rooms lead to the program with the stays as they were
pub rooms_lead : (h : Inn) (H G : History) (span : Span) (up : Bool) (k : ℕ) → MovesRooms h H G span up k →
    Leads (instance_of h H) (Rooms span up (h.limits.unit * k) ∷ []) (record { rooms = (instance_of h G).rooms; stays = (instance_of h H).stays })
rooms_lead h H G span up k is =
    leads_one (instance_of h H) _ (Rooms span up (h.limits.unit * k)) (units_fit h H G span up k is)
    (ap (λ (l : List ℕ). record { rooms = l; stays = (instance_of h H).stays }) (units_move h H G span up k is))

-- and where no stay changes, to the instance
pub rooms_lead_there : (h : Inn) (H G : History) (span : Span) (up : Bool) (k : ℕ) → MovesRooms h H G span up k →
    (instance_of h H).stays ≡ (instance_of h G).stays →
    Leads (instance_of h H) (Rooms span up (h.limits.unit * k) ∷ []) (instance_of h G)
rooms_lead_there h H G span up k is stays =
    leads_one (instance_of h H) _ (Rooms span up (h.limits.unit * k)) (units_fit h H G span up k is) (both_lists h G _ _ (units_move h H G span up k is) stays)
