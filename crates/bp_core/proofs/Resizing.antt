-- The rooms of a night are set, or are not.
use Rattle.std.proofs.Common.{
  ◌≡◌,
  ℕ,
  ◌<◌,
  ◌≤◌,
  refl,
  ap,
  sym,
  ◌∙◌,
  arith,
  true,
  false,
  ◌==◌,
  nat_lt,
  IsTrue,
  List,
  [],
  ◌∷◌,
  ◌++◌,
  length,
  slice_index,
  Some,
  None,
  unwrap_or,
  inl,
  inr,
}
use Rattle.std.proofs.lemmas.Bool.{cond-true, cond-false, lt-ltb, le-ltb, cases_lt}
use Rattle.std.proofs.lemmas.List.FromFn.{length-map-range_with_len}
use Rattle.bp_types.specs.House.{Inn}
use Rattle.bp_types.specs.declared.command.Command.TheVariants.{Resize}
use Rattle.bp_ledger.specs.Inventory.{Inventory, resized}
use Rattle.bp_core.specs.declared.line.Act.TheVariants.{Do}
use Rattle.bp_core.specs.declared.line.Reply.{Reply}
use Rattle.bp_core.specs.declared.line.Reply.TheVariants.{Done, BelowSold}
use Rattle.bp_core.specs.declared.line.Line.{Line}
use Rattle.bp_core.specs.Acting.{plain_line}
use Rattle.bp_core.specs.Lines.{History, commands}
use Rattle.bp_core.specs.Callers.{may_log}
use Rattle.bp_core.specs.Instance.{resized_rooms, rooms_at, sold_at}
use Rattle.bp_core.specs.Answer.{resize_reply}
use Rattle.bp_core.specs.Legal.{IsLegal, IsLegalLine, is_in_range}
use Rattle.bp_core.specs.Log.{LogView}
use Rattle.bp_core.specs.Roll.{RollView}
use Rattle.bp_core.specs.Keeping.{AreInStep, inventory_of}
use Rattle.bp_core.proofs.Counts.{and_false, own_number, other_number}
use Rattle.bp_core.proofs.Pushes.{last_value-push}
use Rattle.bp_core.proofs.Sold.{sold_at-push}
use Rattle.bp_core.proofs.Setting.{not_full_allowed}
use Rattle.bp_core.proofs.Effects.{numbers_same, numbers_set, opened, bookings_kept, standing_kept, forecast_kept}
use Rattle.bp_core.proofs.InStepMore.{Follows}
use Rattle.bp_core.proofs.Quiet.{IsQuiet, follows_quiet, quiet_forecasts, quiet_rates}

pub resize_is_legal : (h : Inn) (H : History) (caller night rooms : ℕ) (reply : Reply) → IsLegal h H → IsTrue (may_log H caller (Do (Resize night rooms))) →
    IsTrue (is_in_range h (Do (Resize night rooms))) → ((commands H ≡ h.limits.entries) → ⊥) →
    reply ≡ resize_reply h H night rooms → IsLegalLine h H (plain_line caller (Do (Resize night rooms)) reply)
resize_is_legal h H caller night rooms reply legal may range not_full is = record {
  opening = opened h H (plain_line caller (Do (Resize night rooms)) reply) legal;
  caller = may;
  range = range;
  limit = not_full_allowed h H legal not_full;
  behind = refl;
  position = refl;
  certificate = refl;
  reply = is;
}

pub below_sold_reply : (h : Inn) (H : History) (night rooms sold : ℕ) → sold ≡ sold_at h H night → rooms < sold → BelowSold sold ≡ resize_reply h H night rooms
below_sold_reply h H night rooms sold is below =
    let e : nat_lt rooms (sold_at h H night) ≡ true = lt-ltb _ _ (omega (arith, is)) in
    ap {B = Reply} BelowSold is ∙ sym (cond-true _ _ _ e)

pub done_reply : (h : Inn) (H : History) (night rooms : ℕ) → sold_at h H night ≤ rooms → Done ≡ resize_reply h H night rooms
done_reply h H night rooms above = sym (cond-false _ _ _ (le-ltb _ _ above))

refused_is_quiet : (caller night rooms sold : ℕ) → IsQuiet (plain_line caller (Do (Resize night rooms)) (BelowSold sold))
refused_is_quiet caller night rooms sold = record { no_book = refl; no_resize = λ n. refl; no_cancel = λ k nth. and_false (caller == k); no_group = λ n. refl }

pub below_sold_follows : (h : Inn) (log : LogView) (roll : RollView) (inventory : Inventory) (forecasts rates : List ℕ) (caller night rooms sold : ℕ) →
    AreInStep h log roll inventory forecasts rates →
    Follows h log.lines roll roll inventory forecasts rates (plain_line caller (Do (Resize night rooms)) (BelowSold sold))
below_sold_follows h log roll inventory forecasts rates caller night rooms sold kept =
    let x : Line = plain_line caller (Do (Resize night rooms)) (BelowSold sold) in
    let quiet = refused_is_quiet caller night rooms sold in
    follows_quiet h log roll inventory forecasts forecasts rates rates x kept quiet refl refl
    (kept.forecasts_are ∙ quiet_forecasts h log.lines x quiet (λ j. refl))
    (kept.rates_are ∙ quiet_rates h log.lines x (λ j. refl))

-- the stock with the rooms of a night set
pub stock_resized : (h : Inn) (H : History) (caller night rooms : ℕ) → night < length h.rooms →
    resized (inventory_of h H) night rooms ≡ inventory_of h (H ++ plain_line caller (Do (Resize night rooms)) Done ∷ [])
stock_resized h H caller night rooms within =
    let x : Line = plain_line caller (Do (Resize night rooms)) Done in
    let G : History = H ++ x ∷ [] in
    let here : rooms ≡ rooms_at h G night =
    sym (last_value-push (resized_rooms night) (slice_index h.rooms night) H x ∙
    ap (λ o. unwrap_or o (rooms_at h H night)) (cond-true _ (Some rooms) None (own_number night))) in
    let others : (n : ℕ) → n < length h.rooms → (n ≡ night → ⊥) →
    rooms_at h H n ≡ rooms_at h G n =
    λ n g ne. sym (last_value-push (resized_rooms n) (slice_index h.rooms n) H x ∙
    ap (λ o. unwrap_or o (rooms_at h H n)) (cond-false _ (Some rooms) None (other_number night n ne))) in
    let rooms_are = numbers_set (rooms_at h H) (rooms_at h G) (length h.rooms) night rooms within here others in
    let sold_are = numbers_same (sold_at h H) (sold_at h G) (length h.rooms) (λ n g. omega (arith, sold_at-push h H x n (λ k nth. and_false (caller == k)))) in
    ap (λ (r : List ℕ). record { rooms = r; sold = (inventory_of h H).sold }) rooms_are ∙
    ap (λ (s : List ℕ). record { rooms = (inventory_of h G).rooms; sold = s }) sold_are

pub resized_follows : (h : Inn) (log : LogView) (roll : RollView) (inventory inventory' : Inventory) (forecasts rates : List ℕ) (caller night rooms : ℕ) →
    AreInStep h log roll inventory forecasts rates → night < length h.rooms → inventory' ≡ resized inventory night rooms →
    Follows h log.lines roll roll inventory' forecasts rates (plain_line caller (Do (Resize night rooms)) Done)
resized_follows h log roll inventory inventory' forecasts rates caller night rooms kept within is =
    let H : History = log.lines in
    let x : Line = plain_line caller (Do (Resize night rooms)) Done in
    record {
      roll_room = refl;
      each_standing = kept.each_standing;
      each_caller = kept.each_caller;
      standings = λ k small. kept.standings k small ∙ standing_kept H x k refl refl;
      bookings = λ k small. bookings_kept H x k _ (and_false (caller == k)) (λ nth. and_false (caller == k)) (kept.bookings k small);
      stock = is ∙ ap (λ v. resized v night rooms) kept.stock ∙ stock_resized h H caller night rooms within;
      forecasts_are = kept.forecasts_are ∙ numbers_same _ _ (length h.stays) (λ j g. forecast_kept h H x j refl refl);
      rates_are = kept.rates_are ∙ quiet_rates h H x (λ j. refl);
    }

pub nights_of_stock : (h : Inn) (H : History) (v : Inventory) → v ≡ inventory_of h H → length v.rooms ≡ length h.rooms
nights_of_stock h H v is = ap (λ (w : Inventory). length w.rooms) is ∙ length-map-range_with_len (rooms_at h H) 0 (length h.rooms)

-- what is not below is above
pub above_sold : (rooms sold : ℕ) → (rooms < sold → false ≡ true) → sold ≤ rooms
above_sold rooms sold never =
    elim (cases_lt rooms sold) [ inl below ↦ absurd (let e = never below in (cc)) | inr above ↦ above ]
