-- The book of a house that opens.
use Rattle.std.proofs.Common.{
  ◌≡◌,
  ℕ,
  zero,
  suc,
  ◌+◌,
  ◌*◌,
  ◌-◌,
  ◌<◌,
  ◌≤◌,
  refl,
  ap,
  sym,
  subst,
  ◌∙◌,
  arith,
  Bool,
  cond,
  ◌==◌,
  List,
  [],
  ◌∷◌,
  length,
  map,
  take,
  get_or,
  slice_index,
  replicate,
}
use Rattle.std.proofs.lemmas.Bool.{eq-eqb, and_parts, leb-true, lt-ltb}
use Rattle.std.proofs.lemmas.List.{get_or-map, get_or-replicate, length-map, length-replicate}
use Rattle.std.proofs.lemmas.List.FromFn.{fill_by_all}
use Rattle.bp_types.specs.declared.stay.Stay.{Stay}
use Rattle.bp_types.specs.Program.{Program, no_stay}
use Rattle.bp_types.specs.House.{Inn, IsHouse, opening, units_left}
use Rattle.bp_types.specs.Claim.{IsCertificateOf}
use Rattle.bp_types.specs.declared.limits.TheConstants.{CALLERS}
use Rattle.bp_board.specs.Posted.{Posted}
use Rattle.bp_ledger.specs.Inventory.{Inventory}
use Rattle.bp_core.specs.declared.line.Line.{Line}
use Rattle.bp_core.specs.declared.roll.Standing.TheVariants.{New}
use Rattle.bp_core.specs.declared.roll.Booking.{Booking}
use Rattle.bp_core.specs.Acting.{opening_line}
use Rattle.bp_core.specs.Lines.{no_line}
use Rattle.bp_core.specs.Instance.{rooms_at, sold_at, forecast_of, rate_of, stay_now, units_left_at, instance_of}
use Rattle.bp_core.specs.Legal.{IsLegal, IsLegalLine}
use Rattle.bp_core.specs.Log.{LogView}
use Rattle.bp_core.specs.Roll.{RollView}
use Rattle.bp_core.specs.Keeping.{AreInStep, numbers, inventory_of, entry_room, AreBookingsOf}
use Rattle.bp_core.proofs.Counts.{and_false}
use Rattle.bp_core.proofs.Effects.{numbers_same}
use Rattle.bp_core.proofs.Quiet.{IsQuiet, quiet_stock, quiet_forecasts, quiet_rates}

stay_at_start : (h : Inn) (j : ℕ) → stay_now h [] j ≡ get_or h.stays j no_stay
stay_at_start h j =
    let s : Stay = get_or h.stays j no_stay in
    let e : s.forecast - h.limits.unit * 0 ≡ s.forecast = omega arith in
    ap (λ f. record { span = s.span; rate = s.rate; forecast = f }) e

-- the instance before any line is that of the house
pub instance_at_start : (h : Inn) → instance_of h [] ≡ opening h
instance_at_start h =
    let rooms = numbers_same (units_left_at h []) (units_left h) (length h.rooms)
    (λ n g. ap (λ s. h.limits.unit * (slice_index h.rooms n - s)) (let e : slice_index h.sold n + 0 + 0 ≡ slice_index h.sold n = omega arith in e)) in
    let stays = sym (fill_by_all (stay_now h []) h.stays (length h.stays) no_stay refl (λ j g. sym (stay_at_start h j))) in
    ap (λ (r : List ℕ). record { rooms = r; stays = (instance_of h []).stays }) rooms ∙
    ap (λ (t : List Stay). record { rooms = (opening h).rooms; stays = t }) stays

opening_is_legal : (h : Inn) (board : Posted) → IsHouse h → board.position ≡ 0 → IsCertificateOf (opening h) board.certificate →
    IsLegalLine h [] (opening_line board)
opening_is_legal h board is at certifies =
    let empty : take board.position [] ≡ [] = ap (λ p. take p []) at in
    let P : Program → Type 0 = λ p. IsCertificateOf p board.certificate in
    record {
      opening = eq-eqb board.position 0 at;
      caller = refl;
      range = refl;
      limit = let some : 1 ≤ h.limits.publications = leb-true _ _ (and_parts _ _ is.publications).0 in lt-ltb 0 h.limits.publications (omega arith);
      behind = refl;
      position = refl;
      certificate = (board.certificate, refl, subst P (sym (ap (instance_of h) empty ∙ instance_at_start h)) certifies);
      reply = refl;
    }

pub opening_history_is_legal : (h : Inn) (board : Posted) → IsHouse h → board.position ≡ 0 → IsCertificateOf (opening h) board.certificate →
    IsLegal h (opening_line board ∷ [])
opening_history_is_legal h board is at certifies = record {
  some_line = omega arith;
  lines = λ i within. first i within;
}
  where
    first : (i : ℕ) → i < 1 → IsLegalLine h (take i (opening_line board ∷ [])) (get_or (opening_line board ∷ []) i no_line)
    first zero within = opening_is_legal h board is at certifies
    first (suc i) within = absurd (omega arith)

opening_is_quiet : (board : Posted) → IsQuiet (opening_line board)
opening_is_quiet board = record { no_book = refl; no_resize = λ n. refl; no_cancel = λ k nth. and_false (0 == k); no_group = λ n. refl }

stock_at_start : (h : Inn) → IsHouse h → record { rooms = h.rooms; sold = h.sold } ≡ inventory_of h []
stock_at_start h is =
    let rooms = fill_by_all (rooms_at h []) h.rooms (length h.rooms) 0 refl (λ k g. refl) in
    let sold = fill_by_all (sold_at h []) h.sold (length h.rooms) 0 is.one_each (λ k g. let e : slice_index h.sold k ≡ slice_index h.sold k + 0 + 0 =
    omega arith in e) in
    ap (λ (r : List ℕ). record { rooms = r; sold = h.sold }) rooms ∙ ap (λ (s : List ℕ). record { rooms = (inventory_of h []).rooms; sold = s }) sold

forecasts_at_start : (h : Inn) → map (λ (s : Stay). s.forecast) h.stays ≡ map (forecast_of h []) (numbers (length h.stays))
forecasts_at_start h = fill_by_all (forecast_of h []) (map (λ (s : Stay). s.forecast) h.stays) (length h.stays) 0 (length-map _ _)
    (λ j g. get_or-map (λ (s : Stay). s.forecast) h.stays j no_stay 0 g ∙
    (let s : Stay = get_or h.stays j no_stay in let e : s.forecast ≡ s.forecast - h.limits.unit * 0 = omega arith in e))

rates_at_start : (h : Inn) → map (λ (s : Stay). s.rate) h.stays ≡ map (rate_of h []) (numbers (length h.stays))
rates_at_start h = fill_by_all (rate_of h []) (map (λ (s : Stay). s.rate) h.stays) (length h.stays) 0 (length-map _ _)
    (λ j g. get_or-map (λ (s : Stay). s.rate) h.stays j no_stay 0 g)

no_bookings : (board : Posted) (k : ℕ) → AreBookingsOf (opening_line board ∷ []) k []
no_bookings board k = record {
  as_many = (let z = ap (λ (b : Bool). cond {A = ℕ} b 1 0) (and_false (0 == k)) in omega (arith, z));
  each = λ i b is. absurd (cc);
}

-- each part of the book as it opens
pub opening_in_step : (h : Inn) (log : LogView) (roll : RollView) (inventory : Inventory) (forecasts rates : List ℕ) (board : Posted) → IsHouse h →
    board.position ≡ 0 → IsCertificateOf (opening h) board.certificate →
    log ≡ record { lines = opening_line board ∷ []; deltas = [] ∷ []; line_room = entry_room h; board_room = h.limits.publications } →
    roll ≡ record { standings = replicate CALLERS New; bookings = replicate CALLERS []; room = h.limits.entries } →
    inventory ≡ record { rooms = h.rooms; sold = h.sold } → forecasts ≡ map (λ (s : Stay). s.forecast) h.stays → rates ≡ map (λ (s : Stay). s.rate) h.stays →
    AreInStep h log roll inventory forecasts rates
opening_in_step h log roll inventory forecasts rates board is at certifies log_is roll_is inventory_is forecasts_are rates_are =
    let x : Line = opening_line board in
    let quiet = opening_is_quiet board in
    let P : LogView → Type 0 = λ l. AreInStep h l roll inventory forecasts rates in
    let Q : RollView → Type 0 =
    λ k. AreInStep h (record { lines = x ∷ []; deltas = [] ∷ []; line_room = entry_room h; board_room = h.limits.publications })
    k inventory forecasts rates in
    subst P (sym log_is) (subst Q (sym roll_is) (record {
      house = is;
      legal = opening_history_is_legal h board is at certifies;
      fed = refl;
      line_room = refl;
      board_room = refl;
      roll_room = refl;
      each_standing = length-replicate CALLERS New;
      each_caller = length-replicate {A = List Booking} CALLERS [];
      standings = λ k small. get_or-replicate CALLERS k New New small ∙ sym (rw (and_false (0 == k)) refl);
      bookings = λ k small. let R : List Booking → Type 0 = λ l. AreBookingsOf (x ∷ []) k l in
          subst R (sym (get_or-replicate CALLERS k [] [] small)) (no_bookings board k);
      stock = inventory_is ∙ stock_at_start h is ∙ quiet_stock h [] x quiet;
      forecasts_are = forecasts_are ∙ forecasts_at_start h ∙ quiet_forecasts h [] x quiet (λ j. refl);
      rates_are = rates_are ∙ rates_at_start h ∙ quiet_rates h [] x (λ j. refl);
    }))
