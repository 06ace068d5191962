-- Lines that sell, set and give up no rooms.
use Rattle.std.proofs.Common.{◌≡◌, ℕ, refl, ◌∙◌, false, ◌==◌, List, [], ◌∷◌, ◌++◌, length, map, None}
use Rattle.bp_types.specs.House.{Inn}
use Rattle.bp_ledger.specs.Inventory.{Inventory}
use Rattle.bp_core.specs.declared.line.Line.{Line}
use Rattle.bp_core.specs.Lines.{History, is_book, is_cancellation}
use Rattle.bp_core.specs.Callers.{is_enrol, is_leave}
use Rattle.bp_core.specs.Instance.{resized_rooms, rooms_of_group, forecast_of, rate_of, reforecast_count, reprice_rate}
use Rattle.bp_core.specs.Log.{LogView}
use Rattle.bp_core.specs.Roll.{RollView, bookings_of}
use Rattle.bp_core.specs.Keeping.{AreInStep, numbers, inventory_of, AreBookingsOf}
use Rattle.bp_core.proofs.Counts.{and_false}
use Rattle.bp_core.proofs.Effects.{forecast_kept, rate_kept, numbers_same, stock_kept, standing_kept, bookings_kept}
use Rattle.bp_core.proofs.InStepMore.{Follows}

-- the line is no booking, and sells, sets and gives up no rooms
pub record IsQuiet (x : Line) : Type 0 where
  pub no_book : is_book x ≡ false
  pub no_resize : (n : ℕ) → resized_rooms n x ≡ None
  pub no_cancel : (caller nth : ℕ) → is_cancellation caller nth x ≡ false
  pub no_group : (n : ℕ) → rooms_of_group n x ≡ 0

pub quiet_stock : (h : Inn) (H : History) (x : Line) → IsQuiet x → inventory_of h H ≡ inventory_of h (H ++ x ∷ [])
quiet_stock h H x quiet = stock_kept h H x quiet.no_resize quiet.no_cancel (λ n. rw quiet.no_book refl) quiet.no_group

pub quiet_bookings : (h : Inn) (H : History) (x : Line) (log : LogView) (roll : RollView) (caller : ℕ) → IsQuiet x →
    AreBookingsOf H caller (bookings_of roll caller) → AreBookingsOf (H ++ x ∷ []) caller (bookings_of roll caller)
quiet_bookings h H x log roll caller quiet were =
    bookings_kept H x caller (bookings_of roll caller) (rw quiet.no_book (and_false (x.entry.caller == caller))) (quiet.no_cancel caller) were

pub quiet_forecast : (h : Inn) (H : History) (x : Line) (j : ℕ) → IsQuiet x → reforecast_count j x.entry.act ≡ None →
    forecast_of h H j ≡ forecast_of h (H ++ x ∷ []) j
quiet_forecast h H x j quiet none = forecast_kept h H x j none (rw quiet.no_book refl)

pub quiet_forecasts : (h : Inn) (H : History) (x : Line) → IsQuiet x → ((j : ℕ) → reforecast_count j x.entry.act ≡ None) →
    map (forecast_of h H) (numbers (length h.stays)) ≡ map (forecast_of h (H ++ x ∷ [])) (numbers (length h.stays))
quiet_forecasts h H x quiet none = numbers_same (forecast_of h H) (forecast_of h (H ++ x ∷ [])) (length h.stays) (λ j g. quiet_forecast h H x j quiet (none j))

pub quiet_rates : (h : Inn) (H : History) (x : Line) → ((j : ℕ) → reprice_rate j x.entry.act ≡ None) →
    map (rate_of h H) (numbers (length h.stays)) ≡ map (rate_of h (H ++ x ∷ [])) (numbers (length h.stays))
quiet_rates h H x none = numbers_same (rate_of h H) (rate_of h (H ++ x ∷ [])) (length h.stays) (λ j g. rate_kept h H x j (none j))

-- a quiet line by which nobody enrols or leaves leaves the roll and the stock
pub follows_quiet : (h : Inn) (log : LogView) (roll : RollView) (inventory : Inventory) (forecasts forecasts' rates rates' : List ℕ) (x : Line) →
    AreInStep h log roll inventory forecasts rates → IsQuiet x →
    is_enrol x.entry.act ≡ false → is_leave x.entry.act ≡ false →
    forecasts' ≡ map (forecast_of h (log.lines ++ x ∷ [])) (numbers (length h.stays)) →
    rates' ≡ map (rate_of h (log.lines ++ x ∷ [])) (numbers (length h.stays)) →
    Follows h log.lines roll roll inventory forecasts' rates' x
follows_quiet h log roll inventory forecasts forecasts' rates rates' x kept quiet no_enrol no_leave forecasts_are rates_are = record {
  roll_room = refl;
  each_standing = kept.each_standing;
  each_caller = kept.each_caller;
  standings = λ caller small. kept.standings caller small ∙ standing_kept log.lines x caller no_enrol no_leave;
  bookings = λ caller small. quiet_bookings h log.lines x log roll caller quiet (kept.bookings caller small);
  stock = kept.stock ∙ quiet_stock h log.lines x quiet;
  forecasts_are = forecasts_are;
  rates_are = rates_are;
}
