-- A group asks for rooms, and gets them or not.
use Rattle.std.proofs.Common.{
  ◌≡◌,
  ℕ,
  ◌+◌,
  ◌*◌,
  ◌<◌,
  ◌≤◌,
  refl,
  ap,
  sym,
  subst,
  ◌∙◌,
  arith,
  true,
  false,
  cond,
  ◌==◌,
  nat_lt,
  IsTrue,
  List,
  [],
  ◌∷◌,
  ◌++◌,
  length,
  Option,
  Some,
  None,
  MatchOption,
  inl,
  inr,
}
use Rattle.std.proofs.lemmas.Bool.{cases_Bool, cond-true, cond-false, lt-ltb, le-ltb, le-leb}
use Rattle.bp_types.specs.declared.stay.Span.{Span}
use Rattle.bp_types.specs.declared.command.Command.TheVariants.{Group}
use Rattle.bp_types.specs.declared.command.Quoted.{Quoted}
use Rattle.bp_types.specs.Program.{Program, covers}
use Rattle.bp_types.specs.Displacement.{IsDisplacement}
use Rattle.bp_types.specs.House.{Inn}
use Rattle.bp_types.specs.Spans.{first_short}
use Rattle.bp_ledger.specs.Inventory.{Inventory, taken}
use Rattle.bp_core.specs.declared.line.Act.TheVariants.{Do}
use Rattle.bp_core.specs.declared.line.Reply.{Reply}
use Rattle.bp_core.specs.declared.line.Reply.TheVariants.{GroupAccepted, GroupTooLow, GroupNoRoom}
use Rattle.bp_core.specs.declared.call.Answer.TheVariants.{Unquoted, Stale}
use Rattle.bp_core.specs.declared.line.Line.{Line}
use Rattle.bp_core.specs.Acting.{plain_line, command_refusal}
use Rattle.bp_core.specs.Lines.{History, commands}
use Rattle.bp_core.specs.Callers.{may_log}
use Rattle.bp_core.specs.Changes.{changes_after}
use Rattle.bp_core.specs.Instance.{sold_at, instance_of, instance_at, rooms_left_at}
use Rattle.bp_core.specs.Answer.{IsGroupReply, IsPricedReply, group_reply}
use Rattle.bp_core.specs.Legal.{IsLegal, IsLegalLine, is_in_range}
use Rattle.bp_core.specs.Log.{LogView}
use Rattle.bp_core.specs.Roll.{RollView}
use Rattle.bp_core.specs.Keeping.{AreInStep, inventory_of}
use Rattle.bp_core.proofs.Counts.{and_false}
use Rattle.bp_core.proofs.Sold.{sold_at-push}
use Rattle.bp_core.proofs.Setting.{not_full_allowed}
use Rattle.bp_core.proofs.Effects.{numbers_same, opened, standing_kept, forecast_kept, bookings_kept}
use Rattle.bp_core.proofs.Stocking.{sold_moves, rooms_stay}
use Rattle.bp_core.proofs.InStepMore.{Follows}
use Rattle.bp_core.proofs.Quiet.{IsQuiet, follows_quiet, quiet_forecasts, quiet_rates}
use Rattle.bp_core.proofs.Unchanged.{instance_unchanged}

pub group_is_legal : (h : Inn) (H : History) (caller rooms amount : ℕ) (span : Span) (reply : Reply) → IsLegal h H →
    IsTrue (may_log H caller (Do (Group span rooms amount))) → IsTrue (is_in_range h (Do (Group span rooms amount))) → ((commands H ≡ h.limits.entries) → ⊥) →
    IsGroupReply h H span rooms amount reply → IsLegalLine h H (plain_line caller (Do (Group span rooms amount)) reply)
group_is_legal h H caller rooms amount span reply legal may range not_full is = record {
  opening = opened h H (plain_line caller (Do (Group span rooms amount)) reply) legal;
  caller = may;
  range = range;
  limit = not_full_allowed h H legal not_full;
  behind = refl;
  position = refl;
  certificate = refl;
  reply = is;
}

pub no_room_reply : (h : Inn) (H : History) (span : Span) (rooms amount night : ℕ) → first_short (rooms_left_at h H) span rooms ≡ Some night →
    IsGroupReply h H span rooms amount (GroupNoRoom night)
no_room_reply h H span rooms amount night first =
    let P : Option ℕ → Type 0 = λ o. MatchOption o (IsPricedReply h H span rooms amount (GroupNoRoom night)) (λ n. GroupNoRoom night ≡ GroupNoRoom n) in
    subst P (sym first) refl

-- a group for which there are rooms, at its displacement
priced_reply : (h : Inn) (H : History) (span : Span) (rooms amount displacement : ℕ) (reply : Reply) → first_short (rooms_left_at h H) span rooms ≡ None →
    IsDisplacement (instance_of h H) span (h.limits.unit * rooms) displacement → reply ≡ group_reply (h.limits.unit * amount) displacement →
    IsGroupReply h H span rooms amount reply
priced_reply h H span rooms amount displacement reply first displaces is =
    let P : Option ℕ → Type 0 = λ o. MatchOption o (IsPricedReply h H span rooms amount reply) (λ n. reply ≡ GroupNoRoom n) in
    subst P (sym first) (record { displacement = displacement; displaces = displaces; answers = is })

-- a quote after which nothing changed tells the displacement
quote_holds : (h : Inn) (H : History) (span : Span) (units displacement position : ℕ) → position ≤ length H → changes_after H position ≡ 0 →
    IsDisplacement (instance_at h H position) span units displacement → IsDisplacement (instance_of h H) span units displacement
quote_holds h H span units displacement position within none displaces =
    let P : Program → Type 0 = λ p. IsDisplacement p span units displacement in
    subst P (instance_unchanged h H position within none) displaces

pub group_too_low : (h : Inn) (H : History) (span : Span) (rooms amount displacement position paid : ℕ) → first_short (rooms_left_at h H) span rooms ≡ None →
    position ≤ length H → changes_after H position ≡ 0 → IsDisplacement (instance_at h H position) span (h.limits.unit * rooms) displacement →
    paid ≡ h.limits.unit * amount → paid < displacement → IsGroupReply h H span rooms amount (GroupTooLow displacement)
group_too_low h H span rooms amount displacement position paid first within none displaces is below =
    let e : nat_lt (h.limits.unit * amount) displacement ≡ true = ap (λ n. nat_lt n displacement) (sym is) ∙ lt-ltb _ _ below in
    priced_reply h H span rooms amount displacement (GroupTooLow displacement) first
    (quote_holds h H span (h.limits.unit * rooms) displacement position within none displaces) (sym (cond-true _ _ _ e))

pub group_paid : (h : Inn) (H : History) (span : Span) (rooms amount displacement position paid : ℕ) → first_short (rooms_left_at h H) span rooms ≡ None →
    position ≤ length H → changes_after H position ≡ 0 → IsDisplacement (instance_at h H position) span (h.limits.unit * rooms) displacement →
    paid ≡ h.limits.unit * amount → displacement ≤ paid → IsGroupReply h H span rooms amount (GroupAccepted displacement)
group_paid h H span rooms amount displacement position paid first within none displaces is above =
    let e : nat_lt (h.limits.unit * amount) displacement ≡ false = ap (λ n. nat_lt n displacement) (sym is) ∙ le-ltb _ _ above in
    priced_reply h H span rooms amount displacement (GroupAccepted displacement) first
    (quote_holds h H span (h.limits.unit * rooms) displacement position within none displaces) (sym (cond-false _ _ _ e))

-- refused groups are quiet
no_room_is_quiet : (caller rooms amount night : ℕ) (span : Span) → IsQuiet (plain_line caller (Do (Group span rooms amount)) (GroupNoRoom night))
no_room_is_quiet caller rooms amount night span =
    record { no_book = refl; no_resize = λ n. refl; no_cancel = λ k nth. and_false (caller == k); no_group = λ n. refl }

too_low_is_quiet : (caller rooms amount displacement : ℕ) (span : Span) → IsQuiet (plain_line caller (Do (Group span rooms amount)) (GroupTooLow displacement))
too_low_is_quiet caller rooms amount displacement span =
    record { no_book = refl; no_resize = λ n. refl; no_cancel = λ k nth. and_false (caller == k); no_group = λ n. refl }

pub no_room_follows : (h : Inn) (log : LogView) (roll : RollView) (inventory : Inventory) (forecasts rates : List ℕ) (caller rooms amount night : ℕ)
    (span : Span) → AreInStep h log roll inventory forecasts rates →
    Follows h log.lines roll roll inventory forecasts rates (plain_line caller (Do (Group span rooms amount)) (GroupNoRoom night))
no_room_follows h log roll inventory forecasts rates caller rooms amount night span kept =
    let x : Line = plain_line caller (Do (Group span rooms amount)) (GroupNoRoom night) in
    let quiet = no_room_is_quiet caller rooms amount night span in
    follows_quiet h log roll inventory forecasts forecasts rates rates x kept quiet refl refl (kept.forecasts_are ∙
    quiet_forecasts h log.lines x quiet (λ j. refl)) (kept.rates_are ∙ quiet_rates h log.lines x (λ j. refl))

pub too_low_follows : (h : Inn) (log : LogView) (roll : RollView) (inventory : Inventory) (forecasts rates : List ℕ) (caller rooms amount displacement : ℕ)
    (span : Span) → AreInStep h log roll inventory forecasts rates →
    Follows h log.lines roll roll inventory forecasts rates (plain_line caller (Do (Group span rooms amount)) (GroupTooLow displacement))
too_low_follows h log roll inventory forecasts rates caller rooms amount displacement span kept =
    let x : Line = plain_line caller (Do (Group span rooms amount)) (GroupTooLow displacement) in
    let quiet = too_low_is_quiet caller rooms amount displacement span in
    follows_quiet h log roll inventory forecasts forecasts rates rates x kept quiet refl refl (kept.forecasts_are ∙
    quiet_forecasts h log.lines x quiet (λ j. refl)) (kept.rates_are ∙ quiet_rates h log.lines x (λ j. refl))

-- an accepted group takes its rooms
pub stock_grouped : (h : Inn) (H : History) (caller rooms amount displacement : ℕ) (span : Span) →
    taken (inventory_of h H) span rooms ≡ inventory_of h (H ++ plain_line caller (Do (Group span rooms amount)) (GroupAccepted displacement) ∷ [])
stock_grouped h H caller rooms amount displacement span =
    let x : Line = plain_line caller (Do (Group span rooms amount)) (GroupAccepted displacement) in
    let same = rooms_stay h H x (λ n. refl) in
    let sold = sold_moves h H (H ++ x ∷ []) span true rooms (λ n g. sold_at-push h H x n (λ k nth. and_false (caller == k)) ∙ more n) in
    ap (λ (r : List ℕ). record { rooms = r; sold = (taken (inventory_of h H) span rooms).sold }) same ∙
    ap (λ (s : List ℕ). record { rooms = (inventory_of h (H ++ x ∷ [])).rooms; sold = s }) sold
  where
    more : (n : ℕ) → sold_at h H n + 0 + cond (covers span n) rooms 0 ≡ cond (covers span n) (sold_at h H n + rooms) (sold_at h H n)
    more n = elim (cases_Bool (covers span n)) [ inl t ↦ rw t (omega arith) | inr f ↦ rw f (omega arith) ]

pub group_follows : (h : Inn) (log : LogView) (roll : RollView) (inventory inventory' : Inventory) (forecasts rates : List ℕ)
    (caller rooms amount displacement : ℕ) (span : Span) → AreInStep h log roll inventory forecasts rates → inventory' ≡ taken inventory span rooms →
    Follows h log.lines roll roll inventory' forecasts rates (plain_line caller (Do (Group span rooms amount)) (GroupAccepted displacement))
group_follows h log roll inventory inventory' forecasts rates caller rooms amount displacement span kept is =
    let x : Line = plain_line caller (Do (Group span rooms amount)) (GroupAccepted displacement) in
    record {
      roll_room = refl;
      each_standing = kept.each_standing;
      each_caller = kept.each_caller;
      standings = λ k small. kept.standings k small ∙ standing_kept log.lines x k refl refl;
      bookings = λ k small. bookings_kept log.lines x k _ (and_false (caller == k)) (λ nth. and_false (caller == k)) (kept.bookings k small);
      stock = is ∙ ap (λ v. taken v span rooms) kept.stock ∙ stock_grouped h log.lines caller rooms amount displacement span;
      forecasts_are = kept.forecasts_are ∙ numbers_same _ _ (length h.stays) (λ j g. forecast_kept h log.lines x j refl refl);
      rates_are = kept.rates_are ∙ quiet_rates h log.lines x (λ j. refl);
    }

-- whether a group is refused
pub refusal_none : (h : Inn) (H : History) (span : Span) (rooms amount night : ℕ) (quoted : Option Quoted) →
    first_short (rooms_left_at h H) span rooms ≡ Some night → command_refusal h H (Group span rooms amount) quoted ≡ None
refusal_none h H span rooms amount night quoted first = rw first refl

pub refusal_unquoted : (h : Inn) (H : History) (span : Span) (rooms amount : ℕ) (quoted : Option Quoted) → first_short (rooms_left_at h H) span rooms ≡ None →
    quoted ≡ None → command_refusal h H (Group span rooms amount) quoted ≡ Some Unquoted
refusal_unquoted h H span rooms amount quoted first none = rw (first, none) refl

pub refusal_stale : (h : Inn) (H : History) (span : Span) (rooms amount : ℕ) (quoted : Option Quoted) (q : Quoted) →
    first_short (rooms_left_at h H) span rooms ≡ None → quoted ≡ Some q → 1 ≤ changes_after H q.position →
    command_refusal h H (Group span rooms amount) quoted ≡ Some (Stale (changes_after H q.position))
refusal_stale h H span rooms amount quoted q first some stale = rw (first, some, le-leb _ _ stale) refl

pub refusal_fresh : (h : Inn) (H : History) (span : Span) (rooms amount : ℕ) (quoted : Option Quoted) (q : Quoted) →
    first_short (rooms_left_at h H) span rooms ≡ None → quoted ≡ Some q → changes_after H q.position ≡ 0 →
    command_refusal h H (Group span rooms amount) quoted ≡ None
refusal_fresh h H span rooms amount quoted q first some fresh = rw (first, some, fresh) refl
