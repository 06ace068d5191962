-- A book with one line more, where each part follows the line.
use Rattle.std.proofs.Common.{◌≡◌, ℕ, ◌<◌, refl, ap, sym, subst, ◌∙◌, arith, List, [], ◌∷◌, ◌++◌, length, map, take, inl, inr}
use Rattle.std.proofs.Math.Seq.{take-append_seam}
use Rattle.std.proofs.lemmas.Bool.{cases_lt}
use Rattle.std.proofs.lemmas.List.{take-append-le}
use Rattle.std.proofs.lemmas.List.FromFn.{map-range_with_len_more, fill_by_all, length-map-range_with_len, get_or-map-range_with_len}
use Rattle.bp_types.specs.declared.change.Change.{Change}
use Rattle.bp_types.specs.House.{Inn}
use Rattle.bp_types.specs.declared.limits.TheConstants.{CALLERS}
use Rattle.bp_ledger.specs.Inventory.{Inventory}
use Rattle.bp_core.specs.declared.line.Line.{Line}
use Rattle.bp_core.specs.Lines.{History, line_at}
use Rattle.bp_core.specs.Callers.{has_enrolled, has_left}
use Rattle.bp_core.specs.Instance.{forecast_of, rate_of}
use Rattle.bp_core.specs.Changes.{deltas_at, deltas_of}
use Rattle.bp_core.specs.Legal.{IsLegal, IsLegalLine}
use Rattle.bp_core.specs.Log.{LogView}
use Rattle.bp_core.specs.Roll.{RollView, standing_of, bookings_of}
use Rattle.bp_core.specs.Keeping.{AreInStep, numbers, inventory_of, standing_by, AreBookingsOf}
use Rattle.bp_core.proofs.Pushes.{length-push, line_at-old, line_at-new}

-- a legal history, with a line more that may stand after it
pub legal_more : (h : Inn) (H : History) (x : Line) → IsLegal h H → IsLegalLine h H x → IsLegal h (H ++ x ∷ [])
legal_more h H x legal line = record {
  some_line = omega (arith, length-push H x);
  lines = λ i within. elim (cases_lt i (length H)) [
    | inl old ↦
        let P : History → Type 0 = λ G. IsLegalLine h G (line_at (H ++ x ∷ []) i) in
        let Q : Line → Type 0 = λ y. IsLegalLine h (take i H) y in
        subst P (sym (take-append-le i H (x ∷ []) (omega arith))) (subst Q (sym (line_at-old H x i old)) (legal.lines i old))
    | inr new ↦
        let at : length H ≡ i = omega (arith, length-push H x) in
        let R : ℕ → Type 0 = λ k. IsLegalLine h (take k (H ++ x ∷ [])) (line_at (H ++ x ∷ []) k) in
        let P : History → Type 0 = λ G. IsLegalLine h G (line_at (H ++ x ∷ []) (length H)) in
        let Q : Line → Type 0 = λ y. IsLegalLine h H y in
        subst R at (subst P (sym (take-append_seam H (x ∷ []))) (subst Q (sym (line_at-new H x)) line))
  ];
}

pub deltas_at-old : (h : Inn) (H : History) (x : Line) (i : ℕ) → i < length H → deltas_at h (H ++ x ∷ []) i ≡ deltas_at h H i
deltas_at-old h H x i old = rw (take-append-le i H (x ∷ []) (omega arith), line_at-old H x i old) refl

pub deltas_at-new : (h : Inn) (H : History) (x : Line) → deltas_at h (H ++ x ∷ []) (length H) ≡ deltas_of h H x
deltas_at-new h H x = rw (take-append_seam H (x ∷ []), line_at-new H x) refl

-- what each line changes, with one line more
pub fed_more : (h : Inn) (H : History) (x : Line) (feed : List (List Change)) → feed ≡ map (deltas_at h H) (numbers (length H)) →
    feed ++ deltas_of h H x ∷ [] ≡ map (deltas_at h (H ++ x ∷ [])) (numbers (length (H ++ x ∷ [])))
fed_more h H x feed fed =
    let old : map (deltas_at h H) (numbers (length H)) ≡ map (deltas_at h (H ++ x ∷ [])) (numbers (length H)) =
    fill_by_all (deltas_at h (H ++ x ∷ [])) (map (deltas_at h H) (numbers (length H))) (length H) []
    (length-map-range_with_len (deltas_at h H) 0 (length H)) (λ k g. get_or-map-range_with_len (deltas_at h H) 0 (length H) k k [] g (omega arith) ∙
    sym (deltas_at-old h H x k g)) in
    let more = map-range_with_len_more (deltas_at h (H ++ x ∷ [])) 0 (length H) (length H) (omega arith) in
    ap (λ l. l ++ deltas_of h H x ∷ []) (fed ∙ old) ∙ ap (λ d. map (deltas_at h (H ++ x ∷ [])) (numbers (length H)) ++ d ∷ []) (sym (deltas_at-new h H x)) ∙
    sym more ∙ ap (λ n. map (deltas_at h (H ++ x ∷ [])) (numbers n)) (sym (length-push H x))

-- the parts that follow a line
pub record Follows (h : Inn) (H : History) (roll roll' : RollView) (inventory' : Inventory) (forecasts' rates' : List ℕ) (x : Line) : Type 0 where
  pub roll_room : roll'.room ≡ roll.room
  pub each_standing : length roll'.standings ≡ CALLERS
  pub each_caller : length roll'.bookings ≡ CALLERS
  pub standings : (caller : ℕ) → caller < CALLERS → standing_of roll' caller ≡ standing_by (has_enrolled (H ++ x ∷ []) caller) (has_left (H ++ x ∷ []) caller)
  pub bookings : (caller : ℕ) → caller < CALLERS → AreBookingsOf (H ++ x ∷ []) caller (bookings_of roll' caller)
  pub stock : inventory' ≡ inventory_of h (H ++ x ∷ [])
  pub forecasts_are : forecasts' ≡ map (forecast_of h (H ++ x ∷ [])) (numbers (length h.stays))
  pub rates_are : rates' ≡ map (rate_of h (H ++ x ∷ [])) (numbers (length h.stays))

pub in_step_more : (h : Inn) (log log' : LogView) (roll roll' : RollView) (inventory inventory' : Inventory) (forecasts forecasts' rates rates' : List ℕ)
    (x : Line) →
    AreInStep h log roll inventory forecasts rates → IsLegalLine h log.lines x →
    log' ≡ record { lines = log.lines ++ x ∷ []; deltas = log.deltas ++ deltas_of h log.lines x ∷ []; line_room = log.line_room; board_room = log.board_room } →
    Follows h log.lines roll roll' inventory' forecasts' rates' x → AreInStep h log' roll' inventory' forecasts' rates'
in_step_more h log log' roll roll' inventory inventory' forecasts forecasts' rates rates' x kept line logged follows =
    let after : LogView = record {
      lines = log.lines ++ x ∷ [];
      deltas = log.deltas ++ deltas_of h log.lines x ∷ [];
      line_room = log.line_room;
      board_room =
          log.board_room;
    } in
    let P : LogView → Type 0 = λ l. AreInStep h l roll' inventory' forecasts' rates' in
    let now : AreInStep h after roll' inventory' forecasts' rates' = record {
      house = kept.house;
      legal = legal_more h log.lines x kept.legal line;
      fed = fed_more h log.lines x log.deltas kept.fed;
      line_room = kept.line_room;
      board_room = kept.board_room;
      roll_room = follows.roll_room ∙ kept.roll_room;
      each_standing = follows.each_standing;
      each_caller = follows.each_caller;
      standings = follows.standings;
      bookings = follows.bookings;
      stock = follows.stock;
      forecasts_are = follows.forecasts_are;
      rates_are = follows.rates_are;
    } in
    subst P (sym logged) now
