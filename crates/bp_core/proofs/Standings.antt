-- What a standing says of what a caller may do.
use Rattle.std.proofs.Common.{
  ◌≡◌,
  ℕ,
  zero,
  suc,
  ◌+◌,
  ◌-◌,
  ◌<◌,
  ◌≤◌,
  refl,
  ap,
  sym,
  subst,
  ◌∙◌,
  arith,
  Bool,
  true,
  false,
  not,
  min,
  nat_le,
  cond,
  ◌==◌,
  ◌&&◌,
  ◌||◌,
  IsTrue,
  [],
  ◌∷◌,
  ◌++◌,
  length,
  count_by,
  inl,
  inr,
}
use Rattle.std.specs.List.{list_any, range_with_len}
use Rattle.std.proofs.Math.Seq.{take-length}
use Rattle.std.proofs.lemmas.Bool.{cases_Bool, and_parts, and_from, and_left, eqb-true, eq-eqb, ne_eqb, le-leb, lt-leb, leb-true, leb-false, or_cases}
use Rattle.std.proofs.lemmas.List.Sums.{sum_by-append}
use Rattle.bp_types.specs.House.{Inn}
use Rattle.bp_core.specs.declared.line.Act.{Act}
use Rattle.bp_core.specs.declared.line.Act.TheVariants.{Do, Publish, Enrol, Leave}
use Rattle.bp_core.specs.Lines.{History, is_by}
use Rattle.bp_core.specs.Callers.{greatest_caller, is_enrol, may_act, may_enrol, may_log, has_entry, has_enrolled, has_left, is_leave_by, left_of}
use Rattle.bp_core.specs.Legal.{IsLegal}
use Rattle.bp_core.specs.Roll.{is_new, is_present, is_gone}
use Rattle.bp_core.specs.Keeping.{standing_by}
use Rattle.bp_core.proofs.Counts.{counted_at, enrolled_by, did_true, did_old, and_false}
use Rattle.bp_core.proofs.StoredBetween.{range-more}
use Rattle.bp_core.proofs.Prefixes.{at_each_position}
use Rattle.bp_core.proofs.Pushes.{any-push}

pub opener_may : (H : History) (caller : ℕ) → caller ≡ 0 → true ≡ may_act H caller
opener_may H caller e = sym (ap (λ b. b || (has_enrolled H caller && not (has_left H caller))) (eq-eqb caller 0 e))

pub far_may_not : (h : Inn) (H : History) (caller : ℕ) → IsLegal h H → greatest_caller < caller → false ≡ may_act H caller
far_may_not h H caller legal far =
    elim (cases_Bool (may_act H caller)) [
      | inr no_act ↦ sym no_act
      | inl may ↦ absurd (elim (or_cases (caller == 0) (has_enrolled H caller && not (has_left H caller)) may) [
        | inl opener ↦ (let e : caller ≡ 0 = eqb-true _ _ opener in omega arith)
        | inr enrolled ↦ (let small = (counted_at h H legal).numbered caller (and_parts _ _ enrolled).0 in omega (arith, small))
      ])
    ]

pub present_may : (H : History) (caller : ℕ) → (caller ≡ 0 → ⊥) → is_present (standing_by (has_enrolled H caller) (has_left H caller)) ≡ may_act H caller
present_may H caller ne = go (has_enrolled H caller) (has_left H caller) ∙
    sym (ap (λ b. b || (has_enrolled H caller && not (has_left H caller))) (ne_eqb caller 0 ne))
  where
    go : (e l : Bool) → is_present (standing_by e l) ≡ (e && not l)
    go false false = refl
    go true false = refl
    go false true = refl
    go true true = refl

pub gone_has_left : (e l : Bool) → is_gone (standing_by e l) ≡ l
gone_has_left false false = refl
gone_has_left true false = refl
gone_has_left false true = refl
gone_has_left true true = refl

enrolled_first : (H : History) (by : ℕ) (act : Act) (caller : ℕ) → IsTrue (may_log H by act) → (caller ≡ 0 → ⊥) → (by == caller) ≡ true →
    (has_enrolled H caller || ((by == caller) && is_enrol act)) ≡ true
enrolled_first H by act caller may ne same =
    let e : by ≡ caller = eqb-true _ _ same in
    go act may e
  where
    acted : IsTrue (may_act H by) → by ≡ caller → has_enrolled H caller ≡ true
    acted acts e = elim (or_cases (by == 0) (has_enrolled H by && not (has_left H by)) acts) [
      | inl opener ↦ absurd (ne (sym e ∙ eqb-true _ _ opener))
      | inr enrolled ↦ ap (has_enrolled H) (sym e) ∙ (and_parts _ _ enrolled).0
    ]

    go : (a : Act) → IsTrue (may_log H by a) → by ≡ caller → (has_enrolled H caller || ((by == caller) && is_enrol a)) ≡ true
    go (Do command) m e = ap (λ b. b || ((by == caller) && false)) (acted m e)
    go (Publish position) m e = ap (λ b. b || ((by == caller) && false)) (acted m e)
    go Enrol m e = ap (λ b. has_enrolled H caller || (b && true)) same ∙ did_true (has_enrolled H caller)
    go Leave m e = ap (λ b. b || ((by == caller) && false)) (acted (and_parts (not (by == 0)) (may_act H by) m).1 e)

-- whoever has an entry has enrolled, but for the opener
pub entry_is_enrolled : (h : Inn) (H : History) → IsLegal h H → (caller : ℕ) → (caller ≡ 0 → ⊥) → has_entry H caller ≡ has_enrolled H caller
entry_is_enrolled h H legal =
    let P : History → Type 0 = λ G. (caller : ℕ) → (caller ≡ 0 → ⊥) → has_entry G caller ≡ has_enrolled G caller in
    subst P (take-length H) (at_each_position h P (λ caller ne. refl) (λ G x before line. λ caller ne.
    let entry : has_entry (G ++ x ∷ []) caller ≡ (has_entry G caller || (x.entry.caller == caller)) = any-push (is_by caller) G x in
    let enrolled = enrolled_by G x.entry.caller x.entry.act x.entry.reply x.certificate caller in
    elim (cases_Bool (x.entry.caller == caller)) [
      | inl same ↦ entry ∙ ap (λ b. has_entry G caller || b) same ∙ did_true (has_entry G caller) ∙
          sym (enrolled ∙ enrolled_first G x.entry.caller x.entry.act caller line.caller ne same)
      | inr other ↦ entry ∙ ap (λ b. has_entry G caller || b) other ∙ did_old (has_entry G caller) ∙ before caller ne ∙
          sym (enrolled ∙ ap (λ b. has_enrolled G caller || (b && is_enrol x.entry.act)) other ∙ did_old (has_enrolled G caller))
    ]) H legal (length H) (omega arith))

left_has_entry : (H : History) (caller : ℕ) → has_left H caller ≡ true → has_entry H caller ≡ true
left_has_entry [] caller left = absurd (cc)
left_has_entry (x ∷ H) caller left =
    elim (or_cases (is_leave_by caller x) (list_any (is_leave_by caller) H) left) [
      | inl here ↦ ap (λ b. b || list_any (is_by caller) H) (and_parts _ _ here).0
      | inr later ↦ ap (λ b. is_by caller x || b) (left_has_entry H caller later) ∙ did_true (is_by caller x)
    ]

pub new_may_enrol : (h : Inn) (H : History) (caller : ℕ) → IsLegal h H → 1 ≤ caller → caller ≤ greatest_caller →
    is_new (standing_by (has_enrolled H caller) (has_left H caller)) ≡ may_enrol H caller
new_may_enrol h H caller legal from_one small =
    let entry = entry_is_enrolled h H legal caller (λ e. omega arith) in
    let numbers_fit = and_from _ _ (le-leb _ _ from_one) (le-leb _ _ small) in
    elim (cases_Bool (has_left H caller)) [
      | inl left ↦ go_left (has_enrolled H caller) (has_left H caller) left ∙ sym (rw (numbers_fit, left_has_entry H caller left) refl)
      | inr here ↦ go_here (has_enrolled H caller) (has_left H caller) here ∙ sym (rw numbers_fit (ap not entry))
    ]
  where
    go_left : (e l : Bool) → l ≡ true → is_new (standing_by e l) ≡ false
    go_left false false h = absurd (cc)
    go_left true false h = refl
    go_left false true h = refl
    go_left true true h = refl

    go_here : (e l : Bool) → l ≡ false → is_new (standing_by e l) ≡ not e
    go_here false false h = refl
    go_here true false h = refl
    go_here false true h = absurd (cc)
    go_here true true h = refl

pub opener_does_not_enrol : (H : History) (caller : ℕ) → caller ≡ 0 → false ≡ may_enrol H caller
opener_does_not_enrol H caller e = sym (and_left _ _ (and_left _ _ (lt-leb 1 caller (omega arith))))

pub far_does_not_enrol : (H : History) (caller : ℕ) → greatest_caller < caller → false ≡ may_enrol H caller
far_does_not_enrol H caller far = sym (and_left _ _ (go (lt-leb caller greatest_caller far)))
  where
    go : nat_le caller greatest_caller ≡ false → (nat_le 1 caller && nat_le caller greatest_caller) ≡ false
    go f = ap (λ b. nat_le 1 caller && b) f ∙ and_false (nat_le 1 caller)

-- one caller more
pub left_more : (H : History) (n : ℕ) → left_of H (n + 1) ≡ left_of H n + cond (has_left H (n + 1)) 1 0
left_more H n =
    let size : n + 1 ≡ suc n = omega arith in
    let place : 1 + n ≡ n + 1 = omega arith in
    ap (λ k. count_by (has_left H) (range_with_len 1 k)) size ∙ ap (count_by (has_left H)) (range-more 1 n) ∙
    sum_by-append (λ k. cond (has_left H k) 1 0) (range_with_len 1 n) ((1 + n) ∷ []) ∙
    (let z : count_by (has_left H) ((1 + n) ∷ []) ≡ cond (has_left H (n + 1)) 1 0 =
    (let o : 0 + cond (has_left H (1 + n)) 1 0 ≡ cond (has_left H (1 + n)) 1 0 = omega arith in o ∙ ap (λ k. cond {A = ℕ} (has_left H k) 1 0) place) in
    ap (λ k. left_of H n + k) z)

pub left_step : (H : History) (c : ℕ) → 1 ≤ c → left_of H (c + 1 - 1) ≡ left_of H (c - 1) + cond (has_left H c) 1 0
left_step H c some =
    let same : c + 1 - 1 ≡ c - 1 + 1 = omega arith in
    let here : c - 1 + 1 ≡ c = omega arith in
    ap (left_of H) same ∙ left_more H (c - 1) ∙ ap (λ k. left_of H (c - 1) + cond (has_left H k) 1 0) here

-- whoever has left has a number up to the greatest
far_has_not_left : (h : Inn) (H : History) (c : ℕ) → IsLegal h H → greatest_caller < c → has_left H c ≡ false
far_has_not_left h H c legal far =
    elim (cases_Bool (has_left H c)) [
      | inr stays ↦ stays
      | inl left ↦ absurd (let small =
          (counted_at h H legal).numbered c (sym (entry_is_enrolled h H legal c (λ e. omega (arith, far, e))) ∙ left_has_entry H c left) in
          omega (arith, far, small))
    ]

-- of more callers no more have left
left_past_all : (h : Inn) (H : History) → IsLegal h H → (k : ℕ) → left_of H (greatest_caller + k) ≡ left_of H greatest_caller
left_past_all h H legal zero = refl
left_past_all h H legal (suc k) =
    let size : greatest_caller + suc k ≡ greatest_caller + k + 1 = omega arith in
    let none = ap (λ (b : Bool). cond {A = ℕ} b 1 0) (far_has_not_left h H (greatest_caller + k + 1) legal (omega arith)) in
    let more = left_more H (greatest_caller + k) in
    ap (left_of H) size ∙ (let o : left_of H (greatest_caller + k + 1) ≡ left_of H (greatest_caller + k) = omega (arith, more, none) in o) ∙
    left_past_all h H legal k

-- so the callers up to the greatest number are all that is looked at
pub left_of_fewer : (h : Inn) (H : History) (m n : ℕ) → IsLegal h H → m ≡ min n greatest_caller → left_of H m ≡ left_of H n
left_of_fewer h H m n legal least =
    elim (cases_Bool (nat_le n greatest_caller)) [
      | inl few ↦ (let below = leb-true n greatest_caller few in let same : m ≡ n = omega (arith, least, below) in ap (left_of H) same)
      | inr many ↦ (let above = leb-false n greatest_caller many in let same : m ≡ greatest_caller = omega (arith, least, above) in
          let size : greatest_caller + (n - greatest_caller) ≡ n = omega (arith, above) in
          ap (left_of H) same ∙ sym (left_past_all h H legal (n - greatest_caller)) ∙ ap (left_of H) size)
    ]
