-- Each line of a legal history leads from the instance before it to the one after it.
use Rattle.std.proofs.Common.{
  ◌≡◌,
  ℕ,
  ◌+◌,
  ◌*◌,
  ◌-◌,
  ◌<◌,
  ◌≤◌,
  refl,
  ap,
  sym,
  subst,
  ◌∙◌,
  arith,
  Bool,
  true,
  false,
  cond,
  nat_le,
  List,
  [],
  ◌∷◌,
  ◌++◌,
  length,
  Option,
  None,
  inl,
  inr,
}
use Rattle.std.proofs.lemmas.Bool.{cases_Bool, and_parts, cond-false, leb-true, leb-false, ltb-true}
use Rattle.bp_types.specs.declared.stay.Span.{Span}
use Rattle.bp_types.specs.declared.change.Change.{Change}
use Rattle.bp_types.specs.declared.change.Change.TheVariants.{Rooms, Demand}
use Rattle.bp_types.specs.declared.command.Command.{Command}
use Rattle.bp_types.specs.declared.command.Command.TheVariants.{Book, Cancel, Reforecast, Reprice, Resize, Group}
use Rattle.bp_types.specs.Claim.{Claim}
use Rattle.bp_types.specs.Displacement.{night_span}
use Rattle.bp_types.specs.Program.{no_stay}
use Rattle.bp_types.specs.House.{Inn, IsHouse}
use Rattle.bp_types.proofs.Spans.{covers_inside}
use Rattle.bp_types.specs.Spans.{first_short}
use Rattle.bp_types.specs.Changes.{Leads}
use Rattle.bp_types.specs.declared.limits.TheConstants.{MOST_FORECAST}
use Rattle.bp_ledger.specs.Inventory.{taken}
use Rattle.bp_core.specs.declared.line.Act.{Act}
use Rattle.bp_core.specs.declared.line.Act.TheVariants.{Do, Publish, Enrol, Leave}
use Rattle.bp_core.specs.declared.line.Reply.{Reply}
use Rattle.bp_core.specs.declared.line.Reply.TheVariants.{Cancelled, Done, GroupAccepted}
use Rattle.bp_core.specs.declared.line.Line.{Line}
use Rattle.bp_core.specs.Acting.{plain_line}
use Rattle.bp_core.specs.Lines.{History, is_accepted, is_book_by, is_cancelled, is_done, is_group_accepted}
use Rattle.bp_core.specs.Instance.{span_of, rooms_at, sold_at, rooms_left_at, forecast_of, instance_of}
use Rattle.bp_core.specs.Changes.{is_change, deltas_of}
use Rattle.bp_core.specs.Legal.{IsLegal, IsLegalLine}
use Rattle.bp_core.specs.Keeping.{inventory_of}
use Rattle.bp_core.proofs.Booked.{forecast_booked, deltas_booked, deltas_refused, stock_booked, stock_refused}
use Rattle.bp_core.proofs.Cancelling.{filter_stands, stock_released, stock_has_sold, held_in_range, held_span}
use Rattle.bp_core.proofs.Cases.{enough_on}
use Rattle.bp_core.proofs.Causes.{cancelled_held, cancelled_is, done_is, accepted_group_is}
use Rattle.bp_core.proofs.Counts.{other_number}
use Rattle.bp_core.proofs.Effects.{forecast_kept, rate_kept}
use Rattle.bp_core.proofs.Grouping.{stock_grouped}
use Rattle.bp_core.proofs.Instances.{MovesRooms, rooms_as_before, stays_as_before, demand_leads, rate_leads, rooms_lead, rooms_lead_there}
use Rattle.bp_core.proofs.Moves.{left_stays, left_taken, left_released, left_resized}
use Rattle.bp_core.proofs.Quiet.{quiet_stock}
use Rattle.bp_core.proofs.Replies.{accepted_has_room, done_is_above_sold, accepted_group_has_rooms}
use Rattle.bp_core.proofs.Resizing.{stock_resized}
use Rattle.bp_core.proofs.Setting.{forecast_set, rate_set, reforecast_is_quiet, reprice_is_quiet}
use Rattle.bp_core.proofs.Sound.{IsSound, units_stay_small}
use Rattle.bp_core.proofs.Turns.{leads-append, leads_none}
use Rattle.bp_core.proofs.Unchanged.{instance_kept}

-- a legal line, with what holds before and after it
pub record Stands (h : Inn) (H : History) (x : Line) : Type 0 where
  pub house : IsHouse h
  pub legal : 1 ≤ length H → IsLegal h H
  pub line : IsLegalLine h H x
  pub before : IsSound h H
  pub after : IsSound h (H ++ x ∷ [])

-- what the line changes leads there
abbrev pub LineLeads : Inn → History → Line → Type 0
LineLeads h H x = Leads (instance_of h H) (deltas_of h H x) (instance_of h (H ++ x ∷ []))

leads_by : (h : Inn) (H : History) (x : Line) (changes : List Change) → changes ≡ deltas_of h H x →
    Leads (instance_of h H) changes (instance_of h (H ++ x ∷ [])) → LineLeads h H x
leads_by h H x changes is leads =
    let P : List Change → Type 0 = λ l. Leads (instance_of h H) l (instance_of h (H ++ x ∷ [])) in subst P is leads

silent_leads : (h : Inn) (H : History) (x : Line) → is_change x ≡ false → [] ≡ deltas_of h H x → LineLeads h H x
silent_leads h H x silent none = leads_by h H x [] none (leads_none _ _ (instance_kept h H x silent))

taken_moves : (h : Inn) (H G : History) (span : Span) (k : ℕ) → IsHouse h → IsSound h G → span.from < span.to → span.to ≤ length h.rooms →
    taken (inventory_of h H) span k ≡ inventory_of h G → first_short (rooms_left_at h H) span k ≡ None → MovesRooms h H G span false k
taken_moves h H G span k house after ordered within is none = record {
  ordered = ordered;
  within = within;
  moves = left_taken h H G span k is;
  enough = λ down n above below. enough_on (rooms_left_at h H) k span n none (covers_inside span.from span.to n above below);
  small = λ n g. units_stay_small h G n house after g;
}

times_one : (u : ℕ) → u * 1 ≡ u
times_one u = omega arith

book_leads : (h : Inn) (H : History) (caller stay : ℕ) (reply : Reply) → Stands h H (plain_line caller (Do (Book stay)) reply) →
    LineLeads h H (plain_line caller (Do (Book stay)) reply)
book_leads h H caller stay reply stands =
    let x : Line = plain_line caller (Do (Book stay)) reply in
    let G : History = H ++ x ∷ [] in
    let within : stay < length h.stays = ltb-true _ _ stands.line.range in
    let spans = stands.house.instance.spans stay no_stay within in
    let value : ℕ = forecast_of h G stay in
    let small : forecast_of h G stay ≤ MOST_FORECAST = omega (arith, stands.after.counts stay within) in
    let rates = λ (j : ℕ). rate_kept h H x j refl in
    let others = λ (j : ℕ). λ (ne : j ≡ stay → ⊥). forecast_kept h H x j refl (other_number stay j ne) in
    let less = forecast_booked h H caller stay reply in
    elim (cases_Bool (is_accepted reply)) [
      | inl accepted ↦
          let room = accepted_has_room h H stay (sym (ap is_accepted stands.line.reply) ∙ accepted) in
          let moves = taken_moves h H G (span_of h stay) 1 stands.house stands.after spans.0 spans.1 (stock_booked h H caller stay reply accepted) room in
          let demand = demand_leads h H G (instance_of h G).rooms stay value refl within refl small rates others in
          let both = leads-append _ _ _ (Rooms (span_of h stay) false (h.limits.unit * 1) ∷ []) (Demand stay value ∷ [])
          (rooms_lead h H G (span_of h stay) false 1 moves) demand in
          leads_by h H x _ (ap (λ u. Rooms (span_of h stay) false u ∷ Demand stay value ∷ []) (times_one h.limits.unit) ∙
          deltas_booked h H caller stay value h.limits.unit (span_of h stay) reply accepted refl refl less) both
      | inr refused ↦
          let rooms = rooms_as_before h H G (left_stays h H G (stock_refused h H caller stay reply refused)) in
          leads_by h H x _ (deltas_refused h H caller stay value reply refused less)
          (demand_leads h H G (instance_of h H).rooms stay value rooms within refl small rates others)
    ]

given_up_leads : (h : Inn) (H : History) (caller nth : ℕ) → Stands h H (plain_line caller (Do (Cancel nth)) Cancelled) →
    LineLeads h H (plain_line caller (Do (Cancel nth)) Cancelled)
given_up_leads h H caller nth stands =
    let x : Line = plain_line caller (Do (Cancel nth)) Cancelled in
    let G : History = H ++ x ∷ [] in
    let from_one : 1 ≤ nth = leb-true _ _ (and_parts _ _ stands.line.range).0 in
    let found = cancelled_held H caller nth (sym (ap is_cancelled stands.line.reply)) in
    let stay : ℕ = found.0 in
    let held = found.1 in
    let place = filter_stands (is_book_by caller) H (nth - 1) held.line held.is_nth in
    let some : 1 ≤ length H = omega (arith, place.1.within) in
    let spans = stands.house.instance.spans stay no_stay (held_in_range h H caller nth stay (stands.legal some) held) in
    let moves : MovesRooms h H G (span_of h stay) true 1 = record {
      ordered = spans.0;
      within = spans.1;
      moves = λ n g. left_released h H G (span_of h stay) (stock_released h H caller nth stay from_one held) n g (stands.before.sold n g)
          (λ inside. stock_has_sold h H caller nth stay n from_one held inside);
      enough = λ down. absurd (cc);
      small = λ n g. units_stay_small h G n stands.house stands.after g;
    } in
    let stays = stays_as_before h H G (λ j. rate_kept h H x j refl) (λ j. forecast_kept h H x j refl refl) in
    leads_by h H x _ (ap (λ u. Rooms (span_of h stay) true u ∷ []) (times_one h.limits.unit) ∙
    ap (λ s. Rooms s true h.limits.unit ∷ []) (held_span h H caller nth stay held)) (rooms_lead_there h H G (span_of h stay) true 1 moves stays)

cancel_leads : (h : Inn) (H : History) (caller nth : ℕ) (reply : Reply) → Stands h H (plain_line caller (Do (Cancel nth)) reply) →
    LineLeads h H (plain_line caller (Do (Cancel nth)) reply)
cancel_leads h H caller nth reply stands =
    elim (cases_Bool (is_cancelled reply)) [
      | inl cancelled ↦
          let P : Reply → Type 0 = λ r. Stands h H (plain_line caller (Do (Cancel nth)) r) → LineLeads h H (plain_line caller (Do (Cancel nth)) r) in
          subst P (sym (cancelled_is reply cancelled)) (given_up_leads h H caller nth) stands
      | inr kept ↦ silent_leads h H _ kept (sym (cond-false _ _ _ kept))
    ]

reforecast_leads : (h : Inn) (H : History) (caller stay count : ℕ) → Stands h H (plain_line caller (Do (Reforecast stay count)) Done) →
    LineLeads h H (plain_line caller (Do (Reforecast stay count)) Done)
reforecast_leads h H caller stay count stands =
    let x : Line = plain_line caller (Do (Reforecast stay count)) Done in
    let G : History = H ++ x ∷ [] in
    let range = and_parts _ _ stands.line.range in
    let rooms = rooms_as_before h H G (left_stays h H G (quiet_stock h H x (reforecast_is_quiet caller stay count))) in
    demand_leads h H G (instance_of h H).rooms stay count rooms (ltb-true _ _ range.0) (sym (forecast_set h H caller stay count)) (leb-true _ _ range.1)
    (λ j. rate_kept h H x j refl) (λ j ne. forecast_kept h H x j (cond-false _ _ _ (other_number stay j ne)) refl)

reprice_leads : (h : Inn) (H : History) (caller stay rate : ℕ) → Stands h H (plain_line caller (Do (Reprice stay rate)) Done) →
    LineLeads h H (plain_line caller (Do (Reprice stay rate)) Done)
reprice_leads h H caller stay rate stands =
    let x : Line = plain_line caller (Do (Reprice stay rate)) Done in
    let G : History = H ++ x ∷ [] in
    let range = and_parts _ _ stands.line.range in
    let limits = and_parts _ _ range.1 in
    let rooms = rooms_as_before h H G (left_stays h H G (quiet_stock h H x (reprice_is_quiet caller stay rate))) in
    rate_leads h H G stay rate rooms (ltb-true _ _ range.0) (sym (rate_set h H caller stay rate)) (
      leb-true _ _ limits.0,
      leb-true _ _ limits.1,
    ) (λ j ne. rate_kept h H x j (cond-false _ _ _ (other_number stay j ne))) (λ j. forecast_kept h H x j refl refl)

-- the rooms of a night moved to a number, up or down
resize_moves : (h : Inn) (H : History) (caller night new : ℕ) (up : Bool) (k : ℕ) → Stands h H (plain_line caller (Do (Resize night new)) Done) →
    nat_le (rooms_at h H night) new ≡ up → k ≡ cond up (new - rooms_at h H night) (rooms_at h H night - new) →
    MovesRooms h H (H ++ plain_line caller (Do (Resize night new)) Done ∷ []) (night_span night) up k
resize_moves h H caller night new up k stands at is =
    let G : History = H ++ plain_line caller (Do (Resize night new)) Done ∷ [] in
    let within : night < length h.rooms = ltb-true _ _ (and_parts _ _ stands.line.range).0 in
    let above = done_is_above_sold h H night new (sym (ap is_done stands.line.reply)) in
    let below = stands.before.sold night within in
    record {
      ordered = omega arith;
      within = omega (arith, within);
      moves = left_resized h H G night new up k within (stock_resized h H caller night new within) below above (moves up k (rooms_at h H night) at is)
          (λ down. small up k (rooms_at h H night) down is);
      enough = λ down n from to.
          let here : n ≡ night = omega arith in
          let left : rooms_left_at h H n ≡ rooms_left_at h H night = ap (rooms_left_at h H) here in
          omega (arith, left, enough up k (rooms_at h H night) (sold_at h H night) down is above);
      small = λ n g. units_stay_small h G n stands.house stands.after g;
    }
  where
    moves : (up : Bool) (k old : ℕ) → nat_le old new ≡ up → k ≡ cond up (new - old) (old - new) → new ≡ cond up (old + k) (old - k)
    moves true k old at is = omega (arith, is, leb-true old new at)
    moves false k old at is = omega (arith, is, leb-false old new at)

    small : (up : Bool) (k old : ℕ) → up ≡ false → k ≡ cond up (new - old) (old - new) → k ≤ old
    small true k old down is = absurd (cc)
    small false k old down is = omega (arith, is)

    enough : (up : Bool) (k old sold : ℕ) → up ≡ false → k ≡ cond up (new - old) (old - new) → sold ≤ new → k ≤ old - sold
    enough true k old sold down is above = absurd (cc)
    enough false k old sold down is above = omega (arith, is, above)

resized_leads : (h : Inn) (H : History) (caller night new : ℕ) → Stands h H (plain_line caller (Do (Resize night new)) Done) →
    LineLeads h H (plain_line caller (Do (Resize night new)) Done)
resized_leads h H caller night new stands =
    let x : Line = plain_line caller (Do (Resize night new)) Done in
    let G : History = H ++ x ∷ [] in
    let up : Bool = nat_le (rooms_at h H night) new in
    let k : ℕ = cond up (new - rooms_at h H night) (rooms_at h H night - new) in
    let stays = stays_as_before h H G (λ j. rate_kept h H x j refl) (λ j. forecast_kept h H x j refl refl) in
    rooms_lead_there h H G (night_span night) up k (resize_moves h H caller night new up k stands refl refl) stays

resize_leads : (h : Inn) (H : History) (caller night new : ℕ) (reply : Reply) → Stands h H (plain_line caller (Do (Resize night new)) reply) →
    LineLeads h H (plain_line caller (Do (Resize night new)) reply)
resize_leads h H caller night new reply stands =
    elim (cases_Bool (is_done reply)) [
      | inl done ↦
          let P : Reply → Type 0 = λ r. Stands h H (plain_line caller (Do (Resize night new)) r) →
          LineLeads h H (plain_line caller (Do (Resize night new)) r) in
          subst P (sym (done_is reply done)) (resized_leads h H caller night new) stands
      | inr undone ↦ silent_leads h H _ undone (sym (cond-false _ _ _ undone))
    ]

booked_group_leads : (h : Inn) (H : History) (caller rooms amount displacement : ℕ) (span : Span) →
    Stands h H (plain_line caller (Do (Group span rooms amount)) (GroupAccepted displacement)) →
    LineLeads h H (plain_line caller (Do (Group span rooms amount)) (GroupAccepted displacement))
booked_group_leads h H caller rooms amount displacement span stands =
    let x : Line = plain_line caller (Do (Group span rooms amount)) (GroupAccepted displacement) in
    let G : History = H ++ x ∷ [] in
    let parts = and_parts _ _ (and_parts _ _ stands.line.range).0 in
    let room = accepted_group_has_rooms h H span rooms amount (GroupAccepted displacement) stands.line.reply refl in
    let moves = taken_moves h H G span rooms stands.house stands.after (ltb-true _ _ parts.0) (leb-true _ _ parts.1)
    (stock_grouped h H caller rooms amount displacement span) room in
    rooms_lead_there h H G span false rooms moves (stays_as_before h H G (λ j. rate_kept h H x j refl) (λ j. forecast_kept h H x j refl refl))

group_leads : (h : Inn) (H : History) (caller rooms amount : ℕ) (span : Span) (reply : Reply) →
    Stands h H (plain_line caller (Do (Group span rooms amount)) reply) → LineLeads h H (plain_line caller (Do (Group span rooms amount)) reply)
group_leads h H caller rooms amount span reply stands =
    elim (cases_Bool (is_group_accepted reply)) [
      | inl accepted ↦
          let P : Reply → Type 0 = λ r. Stands h H (plain_line caller (Do (Group span rooms amount)) r) →
          LineLeads h H (plain_line caller (Do (Group span rooms amount)) r) in
          let is = accepted_group_is reply accepted in
          subst P (sym is.1) (booked_group_leads h H caller rooms amount is.0 span) stands
      | inr refused ↦ silent_leads h H _ refused (sym (cond-false _ _ _ refused))
    ]

command_leads : (h : Inn) (H : History) (caller : ℕ) (command : Command) (reply : Reply) → Stands h H (plain_line caller (Do command) reply) →
    LineLeads h H (plain_line caller (Do command) reply)
command_leads h H caller (Book stay) reply stands = book_leads h H caller stay reply stands
command_leads h H caller (Cancel nth) reply stands = cancel_leads h H caller nth reply stands
command_leads h H caller (Reforecast stay count) reply stands =
    let P : Reply → Type 0 = λ r. Stands h H (plain_line caller (Do (Reforecast stay count)) r) →
    LineLeads h H (plain_line caller (Do (Reforecast stay count)) r) in
    subst P (sym stands.line.reply) (reforecast_leads h H caller stay count) stands
command_leads h H caller (Reprice stay rate) reply stands =
    let P : Reply → Type 0 = λ r. Stands h H (plain_line caller (Do (Reprice stay rate)) r) → LineLeads h H (plain_line caller (Do (Reprice stay rate)) r) in
    subst P (sym stands.line.reply) (reprice_leads h H caller stay rate) stands
command_leads h H caller (Resize night rooms) reply stands = resize_leads h H caller night rooms reply stands
command_leads h H caller (Group span rooms amount) reply stands = group_leads h H caller rooms amount span reply stands

act_leads : (h : Inn) (H : History) (caller : ℕ) (act : Act) (reply : Reply) (certificate : Option Claim) →
    Stands h H (record { entry = record { caller = caller; act = act; reply = reply }; certificate = certificate }) →
    LineLeads h H (record { entry = record { caller = caller; act = act; reply = reply }; certificate = certificate })
act_leads h H caller (Do command) reply certificate stands =
    let P : Option Claim → Type 0 = λ c. Stands h H (record { entry = record { caller = caller; act = Do command; reply = reply }; certificate = c }) →
    LineLeads h H (record { entry = record { caller = caller; act = Do command; reply = reply }; certificate = c }) in
    subst P (sym stands.line.certificate) (command_leads h H caller command reply) stands
act_leads h H caller (Publish position) reply certificate stands = silent_leads h H _ refl refl
act_leads h H caller Enrol reply certificate stands = silent_leads h H _ refl refl
act_leads h H caller Leave reply certificate stands = silent_leads h H _ refl refl

-- each line that stands leads there
pub line_leads : (h : Inn) (H : History) (x : Line) → Stands h H x → LineLeads h H x
line_leads h H x stands = act_leads h H x.entry.caller x.entry.act x.entry.reply x.certificate stands
