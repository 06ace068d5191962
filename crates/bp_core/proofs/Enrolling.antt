-- A caller enrols, or leaves.
use Rattle.std.proofs.Common.{
  ◌≡◌,
  ℕ,
  ◌<◌,
  ◌≤◌,
  refl,
  ap,
  sym,
  ◌∙◌,
  arith,
  true,
  false,
  ◌==◌,
  ◌&&◌,
  ◌||◌,
  IsTrue,
  List,
  [],
  ◌∷◌,
  ◌++◌,
  length,
  set,
  get_or,
  None,
  length-set,
  get_or-set_same,
  get_or-set_other,
  inl,
  inr,
}
use Rattle.std.proofs.lemmas.Bool.{cases_eq, and_parts, not-true, leb-true}
use Rattle.bp_types.specs.House.{Inn}
use Rattle.bp_types.specs.declared.limits.TheConstants.{CALLERS}
use Rattle.bp_ledger.specs.Inventory.{Inventory}
use Rattle.bp_core.specs.declared.line.Act.TheVariants.{Enrol, Leave}
use Rattle.bp_core.specs.declared.line.Reply.TheVariants.{Done}
use Rattle.bp_core.specs.declared.line.Line.{Line}
use Rattle.bp_core.specs.declared.roll.Standing.{Standing}
use Rattle.bp_core.specs.declared.roll.Standing.TheVariants.{New, Present, Gone}
use Rattle.bp_core.specs.Acting.{plain_line}
use Rattle.bp_core.specs.Lines.{History, is_by}
use Rattle.bp_core.specs.Callers.{greatest_caller, may_log, is_leave, has_enrolled, has_left}
use Rattle.bp_core.specs.Legal.{IsLegal, IsLegalLine}
use Rattle.bp_core.specs.Log.{LogView}
use Rattle.bp_core.specs.Roll.{RollView, standing_of, with_standing}
use Rattle.bp_core.specs.Keeping.{AreInStep, standing_by}
use Rattle.bp_core.proofs.Counts.{
  counted_at,
  and_false,
  did_old,
  did_true,
  own_number,
  other_number,
  none_of_some,
  may_leave,
  enrolled_by,
  left_by,
  enrolled_stays,
  left_stays,
}
use Rattle.bp_core.proofs.Effects.{opened}
use Rattle.bp_core.proofs.InStepMore.{Follows}
use Rattle.bp_core.proofs.Quiet.{IsQuiet, quiet_stock, quiet_bookings, quiet_forecasts, quiet_rates}

pub enrol_is_legal : (h : Inn) (H : History) (caller : ℕ) → IsLegal h H → IsTrue (may_log H caller Enrol) → IsLegalLine h H (plain_line caller Enrol Done)
enrol_is_legal h H caller legal may = record {
  opening = opened h H (plain_line caller Enrol Done) legal;
  caller = may;
  range = refl;
  limit = refl;
  behind = refl;
  position = refl;
  certificate = refl;
  reply = refl;
}

pub leave_is_legal : (h : Inn) (H : History) (caller : ℕ) → IsLegal h H → IsTrue (may_log H caller Leave) → IsLegalLine h H (plain_line caller Leave Done)
leave_is_legal h H caller legal may = record {
  opening = opened h H (plain_line caller Leave Done) legal;
  caller = may;
  range = refl;
  limit = refl;
  behind = refl;
  position = refl;
  certificate = refl;
  reply = refl;
}

pub enrol_is_quiet : (caller : ℕ) → IsQuiet (plain_line caller Enrol Done)
enrol_is_quiet caller = record { no_book = refl; no_resize = λ n. refl; no_cancel = λ k nth. and_false (caller == k); no_group = λ n. refl }

pub leave_is_quiet : (caller : ℕ) → IsQuiet (plain_line caller Leave Done)
leave_is_quiet caller = record { no_book = refl; no_resize = λ n. refl; no_cancel = λ k nth. and_false (caller == k); no_group = λ n. refl }

-- the standing of each caller, where one of them gets another
standing_set : (roll : RollView) (caller k : ℕ) (standing : Standing) → caller < length roll.standings →
    ((k ≡ caller) → standing_of (with_standing roll caller standing) k ≡ standing) ×
    ((k ≡ caller → ⊥) → standing_of (with_standing roll caller standing) k ≡ standing_of roll k)
standing_set roll caller k standing within = (
  λ here. ap (λ m. get_or (set roll.standings caller standing) m New) here ∙ get_or-set_same roll.standings caller standing New within,
  λ other. get_or-set_other roll.standings caller k standing New other,
)

pub enrol_follows : (h : Inn) (log : LogView) (roll : RollView) (inventory : Inventory) (forecasts rates : List ℕ) (caller : ℕ) →
    AreInStep h log roll inventory forecasts rates → caller < CALLERS → IsTrue (may_log log.lines caller Enrol) →
    Follows h log.lines roll (with_standing roll caller Present) inventory forecasts rates (plain_line caller Enrol Done)
enrol_follows h log roll inventory forecasts rates caller kept small may =
    let x : Line = plain_line caller Enrol Done in
    let quiet = enrol_is_quiet caller in
    let fresh : has_left log.lines caller ≡ false =
    none_of_some (is_by caller) (λ (y : Line). is_leave y.entry.act) log.lines (not-true _ (and_parts _ _ may).1) in
    let left : (k : ℕ) → has_left log.lines k ≡ has_left (log.lines ++ x ∷ []) k = left_stays log.lines caller Enrol Done None refl in
    record {
      roll_room = refl;
      each_standing = length-set _ _ _ ∙ kept.each_standing;
      each_caller = kept.each_caller;
      standings = λ k h. elim (cases_eq k caller) [
        | inl here ↦
            let on : has_enrolled (log.lines ++ x ∷ []) k ≡ true = enrolled_by log.lines caller Enrol Done None k ∙
            ap (λ b. has_enrolled log.lines k || (b && true)) (ap (λ m. caller == m) here ∙ own_number caller) ∙ did_true (has_enrolled log.lines k) in
            let off : has_left (log.lines ++ x ∷ []) k ≡ false = sym (left k) ∙ ap (has_left log.lines) here ∙ fresh in
            (standing_set roll caller k Present (omega (arith, kept.each_standing))).0 here ∙ (rw (on, off) refl)
        | inr other ↦
            let same : has_enrolled log.lines k ≡ has_enrolled (log.lines ++ x ∷ []) k =
            sym (enrolled_by log.lines caller Enrol Done None k ∙ ap (λ b. has_enrolled log.lines k || (b && true)) (other_number caller k other) ∙
            did_old (has_enrolled log.lines k)) in
            (standing_set roll caller k Present (omega (arith, kept.each_standing))).1 other ∙ kept.standings k h ∙
            ap (λ b. standing_by b (has_left log.lines k)) same ∙ ap (λ b. standing_by (has_enrolled (log.lines ++ x ∷ []) k) b) (left k)
      ];
      bookings = λ k h'. quiet_bookings h log.lines x log roll k quiet (kept.bookings k h');
      stock = kept.stock ∙ quiet_stock h log.lines x quiet;
      forecasts_are = kept.forecasts_are ∙ quiet_forecasts h log.lines x quiet (λ j. refl);
      rates_are = kept.rates_are ∙ quiet_rates h log.lines x (λ j. refl);
    }

pub leave_follows : (h : Inn) (log : LogView) (roll : RollView) (inventory : Inventory) (forecasts rates : List ℕ) (caller : ℕ) →
    AreInStep h log roll inventory forecasts rates → caller < CALLERS → IsTrue (may_log log.lines caller Leave) →
    Follows h log.lines roll (with_standing roll caller Gone) inventory forecasts rates (plain_line caller Leave Done)
leave_follows h log roll inventory forecasts rates caller kept small may =
    let x : Line = plain_line caller Leave Done in
    let quiet = leave_is_quiet caller in
    let was = may_leave log.lines caller may in
    let enrolled : (k : ℕ) → has_enrolled log.lines k ≡ has_enrolled (log.lines ++ x ∷ []) k = enrolled_stays log.lines caller Leave Done None refl in
    record {
      roll_room = refl;
      each_standing = length-set _ _ _ ∙ kept.each_standing;
      each_caller = kept.each_caller;
      standings = λ k h. elim (cases_eq k caller) [
        | inl here ↦
            let on : has_left (log.lines ++ x ∷ []) k ≡ true = left_by log.lines caller Leave Done None k ∙
            ap (λ b. has_left log.lines k || (b && true)) (ap (λ m. caller == m) here ∙ own_number caller) ∙ did_true (has_left log.lines k) in
            let also : has_enrolled (log.lines ++ x ∷ []) k ≡ true = sym (enrolled k) ∙ ap (has_enrolled log.lines) here ∙ was.0 in
            (standing_set roll caller k Gone (omega (arith, kept.each_standing))).0 here ∙ (rw (on, also) refl)
        | inr other ↦
            let same : has_left log.lines k ≡ has_left (log.lines ++ x ∷ []) k =
            sym (left_by log.lines caller Leave Done None k ∙ ap (λ b. has_left log.lines k || (b && true)) (other_number caller k other) ∙
            did_old (has_left log.lines k)) in
            (standing_set roll caller k Gone (omega (arith, kept.each_standing))).1 other ∙ kept.standings k h ∙
            ap (λ b. standing_by b (has_left log.lines k)) (enrolled k) ∙ ap (λ b. standing_by (has_enrolled (log.lines ++ x ∷ []) k) b) same
      ];
      bookings = λ k h'. quiet_bookings h log.lines x log roll k quiet (kept.bookings k h');
      stock = kept.stock ∙ quiet_stock h log.lines x quiet;
      forecasts_are = kept.forecasts_are ∙ quiet_forecasts h log.lines x quiet (λ j. refl);
      rates_are = kept.rates_are ∙ quiet_rates h log.lines x (λ j. refl);
    }

-- the callers that enrol, or leave, have numbers
pub enrol_is_small : (h : Inn) (H : History) (caller : ℕ) → IsLegal h H → IsTrue (may_log H caller Enrol) → caller < CALLERS
enrol_is_small h H caller legal may = let small : caller ≤ greatest_caller = leb-true _ _ (and_parts _ _ (and_parts _ _ may).0).1 in omega (arith, small)

pub leave_is_small : (h : Inn) (H : History) (caller : ℕ) → IsLegal h H → IsTrue (may_log H caller Leave) → caller < CALLERS
leave_is_small h H caller legal may = let small : caller ≤ greatest_caller = (counted_at h H legal).numbered caller (may_leave H caller may).0 in
    omega (arith, small)
