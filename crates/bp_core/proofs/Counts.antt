-- How long a legal history may be.
use Rattle.std.proofs.Common.{
  ◌≡◌,
  ℕ,
  zero,
  suc,
  ◌+◌,
  ◌<◌,
  ◌≤◌,
  refl,
  ap,
  sym,
  subst,
  ◌∙◌,
  arith,
  Bool,
  true,
  false,
  not,
  cond,
  ◌==◌,
  ◌&&◌,
  ◌||◌,
  IsTrue,
  [],
  ◌∷◌,
  ◌++◌,
  length,
  count_by,
  Option,
  is_some,
  inl,
  inr,
}
use Rattle.std.specs.List.{list_any}
use Rattle.std.proofs.Math.Seq.{take-length}
use Rattle.std.proofs.lemmas.Bool.{cases_Bool, cases_eq, and_parts, leb-true, ltb-true, eq-eqb, ne_eqb, not-true}
use Rattle.std.proofs.lemmas.List.Sums.{sum_by-cons}
use Rattle.bp_types.specs.Claim.{Claim}
use Rattle.bp_types.specs.Sums.{sum_below}
use Rattle.bp_types.specs.House.{Inn}
use Rattle.bp_types.proofs.SumLemmas.{sum_below-at, sum_below-cong}
use Rattle.bp_types.specs.declared.limits.TheConstants.{CALLERS}
use Rattle.bp_core.specs.declared.line.Act.{Act}
use Rattle.bp_core.specs.declared.line.Act.TheVariants.{Do, Publish, Enrol, Leave}
use Rattle.bp_core.specs.declared.line.Reply.{Reply}
use Rattle.bp_core.specs.declared.line.Line.{Line}
use Rattle.bp_core.specs.Lines.{History, is_by, is_command, is_publish, command_of, published_position, commands, vectors}
use Rattle.bp_core.specs.Callers.{greatest_caller, is_enrol, is_leave, is_enrol_by, is_leave_by, has_enrolled, has_left, may_act, may_enrol, may_log}
use Rattle.bp_core.specs.Legal.{IsLegal, is_allowed}
use Rattle.bp_core.specs.Keeping.{entry_room}
use Rattle.bp_core.proofs.Pushes.{count-push, any-push}
use Rattle.bp_core.proofs.Prefixes.{at_each_position}

abbrev pub enrols : Line → Bool
enrols x = is_enrol x.entry.act

abbrev pub leaves : Line → Bool
leaves x = is_leave x.entry.act

one_kind : (caller : ℕ) (act : Act) (reply : Reply) →
    cond (is_some (command_of act)) 1 0 + cond (is_some (published_position act)) 1 0 + cond (is_enrol act) 1 0 + cond (is_leave act) 1 0 ≡ 1
one_kind caller (Do command) reply = refl
one_kind caller (Publish position) reply = refl
one_kind caller Enrol reply = refl
one_kind caller Leave reply = refl

-- each line is of one kind
pub length_by_kind : (H : History) → length H ≡ commands H + vectors H + count_by enrols H + count_by leaves H
length_by_kind [] = refl
length_by_kind (x ∷ H) =
    omega (
      arith,
      length_by_kind H,
      one_kind x.entry.caller x.entry.act x.entry.reply,
      sum_by-cons (λ y. cond (is_command y) 1 0) x H,
      sum_by-cons (λ y. cond (is_publish y) 1 0) x H,
      sum_by-cons (λ y. cond (enrols y) 1 0) x H,
      sum_by-cons (λ y. cond (leaves y) 1 0) x H,
    )

-- one for each caller that has done something
abbrev pub number_of : (ℕ → Bool) → ℕ
number_of did = sum_below (λ c. cond (did c) 1 0) CALLERS

number_small : (did : ℕ → Bool) (n : ℕ) → sum_below (λ c. cond (did c) 1 0) n ≤ n
number_small did zero = omega arith
number_small did (suc n) =
    elim (cases_Bool (did n)) [
      | inl t ↦ omega (arith, number_small did n, ap (λ (b : Bool). cond {A = ℕ} b 1 0) t)
      | inr f ↦
          omega (arith, number_small did n, ap (λ (b : Bool). cond {A = ℕ} b 1 0) f)
    ]

-- one caller more
one_more_caller : (did now : ℕ → Bool) (c : ℕ) → c ≤ greatest_caller → did c ≡ false → now c ≡ true → ((k : ℕ) → (k ≡ c → ⊥) → did k ≡ now k) →
    number_of did + 1 ≡ number_of now
one_more_caller did now c small before after others =
    let at = sum_below-at (λ k. cond (did k) 1 0) (λ k. cond (now k) 1 0) CALLERS c (omega arith)
    (λ k h ne. ap (λ (b : Bool). cond {A = ℕ} b 1 0) (others k ne)) in
    omega (arith, at, ap (λ (b : Bool). cond {A = ℕ} b 1 0) before, ap (λ (b : Bool). cond {A = ℕ} b 1 0) after)

pub none_of_some : (p q : Line → Bool) (H : History) → list_any p H ≡ false → list_any (λ x. p x && q x) H ≡ false
none_of_some p q [] none = refl
none_of_some p q (x ∷ H) none =
    elim (cases_Bool (p x)) [
      | inl t ↦ absurd (let e : true ≡ false = ap (λ b. b || list_any p H) (sym t) ∙ none in (cc))
      | inr f ↦ rw f (none_of_some p q H (ap (λ b. b || list_any p H) (sym f) ∙ none))
    ]

allowed_commands : (h : Inn) (H : History) (act : Act) → IsTrue (is_allowed h H act) → commands H ≤ h.limits.entries →
    commands H + cond (is_some (command_of act)) 1 0 ≤ h.limits.entries
allowed_commands h H (Do command) allowed before = omega (arith, ltb-true _ _ allowed)
allowed_commands h H (Publish position) allowed before = omega arith
allowed_commands h H Enrol allowed before = omega arith
allowed_commands h H Leave allowed before = omega arith

allowed_vectors : (h : Inn) (H : History) (act : Act) → IsTrue (is_allowed h H act) → vectors H ≤ h.limits.publications →
    vectors H + cond (is_some (published_position act)) 1 0 ≤ h.limits.publications
allowed_vectors h H (Do command) allowed before = omega arith
allowed_vectors h H (Publish position) allowed before = omega (arith, ltb-true _ _ allowed)
allowed_vectors h H Enrol allowed before = omega arith
allowed_vectors h H Leave allowed before = omega arith

-- whether a caller has done something, with one line more
pub did_old : (b : Bool) → (b || false) ≡ b
did_old true = refl
did_old false = refl

pub and_false : (b : Bool) → (b && false) ≡ false
and_false true = refl
and_false false = refl

pub did_true : (b : Bool) → (b || true) ≡ true
did_true true = refl
did_true false = refl

-- the caller's own number, and another
pub own_number : (c : ℕ) → (c == c) ≡ true
own_number c = eq-eqb c c refl

pub other_number : (c k : ℕ) → (k ≡ c → ⊥) → (c == k) ≡ false
other_number c k ne = ne_eqb c k (λ e. ne (sym e))

-- an enrolled caller may be so by the new line alone
pub enrolled_by : (H : History) (caller : ℕ) (act : Act) (reply : Reply) (certificate : Option Claim) (k : ℕ) →
    has_enrolled (H ++ record { entry = record { caller = caller; act = act; reply = reply }; certificate = certificate } ∷ []) k ≡
    (has_enrolled H k || ((caller == k) && is_enrol act))
enrolled_by H caller act reply certificate k =
    any-push (is_enrol_by k) H (record { entry = record { caller = caller; act = act; reply = reply }; certificate = certificate })

pub left_by : (H : History) (caller : ℕ) (act : Act) (reply : Reply) (certificate : Option Claim) (k : ℕ) →
    has_left (H ++ record { entry = record { caller = caller; act = act; reply = reply }; certificate = certificate } ∷ []) k ≡
    (has_left H k || ((caller == k) && is_leave act))
left_by H caller act reply certificate k =
    any-push (is_leave_by k) H (record { entry = record { caller = caller; act = act; reply = reply }; certificate = certificate })

-- nobody enrols by an act that is no Enrol
pub enrolled_stays : (H : History) (caller : ℕ) (act : Act) (reply : Reply) (certificate : Option Claim) → is_enrol act ≡ false → (k : ℕ) →
    has_enrolled H k ≡ has_enrolled (H ++ record { entry = record { caller = caller; act = act; reply = reply }; certificate = certificate } ∷ []) k
enrolled_stays H caller act reply certificate no_enrol k =
    sym (enrolled_by H caller act reply certificate k ∙ ap (λ b. has_enrolled H k || ((caller == k) && b)) no_enrol ∙
    ap (λ b. has_enrolled H k || b) (and_false (caller == k)) ∙ did_old (has_enrolled H k))

pub left_stays : (H : History) (caller : ℕ) (act : Act) (reply : Reply) (certificate : Option Claim) → is_leave act ≡ false → (k : ℕ) →
    has_left H k ≡ has_left (H ++ record { entry = record { caller = caller; act = act; reply = reply }; certificate = certificate } ∷ []) k
left_stays H caller act reply certificate no_leave k =
    sym (left_by H caller act reply certificate k ∙ ap (λ b. has_left H k || ((caller == k) && b)) no_leave ∙
    ap (λ b. has_left H k || b) (and_false (caller == k)) ∙ did_old (has_left H k))

number_same : (did now : ℕ → Bool) → ((k : ℕ) → did k ≡ now k) → number_of did ≡ number_of now
number_same did now same = sum_below-cong (λ k. cond (did k) 1 0) (λ k. cond (now k) 1 0) CALLERS (λ k h. ap (λ (b : Bool). cond {A = ℕ} b 1 0) (same k))

-- the counts of enrolled and of gone callers, and that they have numbers
pub record AreCounted (H : History) : Type 0 where
  pub numbered : (c : ℕ) → has_enrolled H c ≡ true → c ≤ greatest_caller
  pub enrolled : count_by enrols H ≡ number_of (has_enrolled H)
  pub left : count_by leaves H ≡ number_of (has_left H)

-- an act that is neither changes no count
counted_plain : (H : History) (caller : ℕ) (act : Act) (reply : Reply) (certificate : Option Claim) → is_enrol act ≡ false → is_leave act ≡ false →
    AreCounted H →
    AreCounted (H ++ record { entry = record { caller = caller; act = act; reply = reply }; certificate = certificate } ∷ [])
counted_plain H caller act reply certificate no_enrol no_leave counted =
    let x : Line = record { entry = record { caller = caller; act = act; reply = reply }; certificate = certificate } in
    record {
      numbered = λ c did. counted.numbered c (enrolled_stays H caller act reply certificate no_enrol c ∙ did);
      enrolled = omega (
        arith,
        count-push enrols H x,
        counted.enrolled,
        ap (λ (b : Bool). cond {A = ℕ} b 1 0) no_enrol,
        number_same (has_enrolled H) (has_enrolled (H ++ x ∷ [])) (enrolled_stays H caller act reply certificate no_enrol),
      );
      left = omega (
        arith,
        count-push leaves H x,
        counted.left,
        ap (λ (b : Bool). cond {A = ℕ} b 1 0) no_leave,
        number_same (has_left H) (has_left (H ++ x ∷ [])) (left_stays H caller act reply certificate no_leave),
      );
    }

counted_enrol : (H : History) (caller : ℕ) (reply : Reply) (certificate : Option Claim) → IsTrue (may_enrol H caller) → AreCounted H →
    AreCounted (H ++ record { entry = record { caller = caller; act = Enrol; reply = reply }; certificate = certificate } ∷ [])
counted_enrol H caller reply certificate may counted =
    let x : Line = record { entry = record { caller = caller; act = Enrol; reply = reply }; certificate = certificate } in
    let parts = and_parts _ _ may in
    let small : caller ≤ greatest_caller = leb-true _ _ (and_parts _ _ parts.0).1 in
    let fresh : has_enrolled H caller ≡ false = none_of_some (is_by caller) (λ (y : Line). is_enrol y.entry.act) H (not-true _ parts.1) in
    let here : has_enrolled (H ++ x ∷ []) caller ≡ true = enrolled_by H caller Enrol reply certificate caller ∙
    ap (λ b. has_enrolled H caller || (b && true)) (own_number caller) ∙ did_true (has_enrolled H caller) in
    let others : (k : ℕ) → (k ≡ caller → ⊥) →
    has_enrolled H k ≡ has_enrolled (H ++ x ∷ []) k =
    λ k ne. sym (enrolled_by H caller Enrol reply certificate k ∙ ap (λ b. has_enrolled H k || (b && true)) (other_number caller k ne) ∙
    did_old (has_enrolled H k)) in
    record {
      numbered = λ c did. elim (cases_eq c caller) [ inl e ↦ omega (arith, small) | inr ne ↦ counted.numbered c (others c ne ∙ did) ];
      enrolled = omega (
        arith,
        count-push enrols H x,
        counted.enrolled,
        one_more_caller (has_enrolled H) (has_enrolled (H ++ x ∷ [])) caller small fresh here others,
      );
      left = omega (
        arith,
        count-push leaves H x,
        counted.left,
        number_same (has_left H) (has_left (H ++ x ∷ [])) (left_stays H caller Enrol reply certificate refl),
      );
    }

pub may_leave : (H : History) (caller : ℕ) → IsTrue (may_log H caller Leave) → (has_enrolled H caller ≡ true) × (has_left H caller ≡ false)
may_leave H caller may =
    let parts = and_parts (not (caller == 0)) (may_act H caller) may in
    let opener : (caller == 0) ≡ false = not-true _ parts.0 in
    let both : (has_enrolled H caller && not (has_left H caller)) ≡ true = ap (λ b. b || (has_enrolled H caller && not (has_left H caller))) (sym opener) ∙
    parts.1 in
    let two = and_parts _ _ both in
    (two.0, not-true _ two.1)

counted_leave : (H : History) (caller : ℕ) (reply : Reply) (certificate : Option Claim) → IsTrue (may_log H caller Leave) → AreCounted H →
    AreCounted (H ++ record { entry = record { caller = caller; act = Leave; reply = reply }; certificate = certificate } ∷ [])
counted_leave H caller reply certificate may counted =
    let x : Line = record { entry = record { caller = caller; act = Leave; reply = reply }; certificate = certificate } in
    let did = may_leave H caller may in
    let here : has_left (H ++ x ∷ []) caller ≡ true = left_by H caller Leave reply certificate caller ∙
    ap (λ b. has_left H caller || (b && true)) (own_number caller) ∙ did_true (has_left H caller) in
    let others : (k : ℕ) → (k ≡ caller → ⊥) →
    has_left H k ≡ has_left (H ++ x ∷ []) k =
    λ k ne. sym (left_by H caller Leave reply certificate k ∙ ap (λ b. has_left H k || (b && true)) (other_number caller k ne) ∙ did_old (has_left H k)) in
    record {
      numbered = λ c was. counted.numbered c (enrolled_stays H caller Leave reply certificate refl c ∙ was);
      enrolled = omega (
        arith,
        count-push enrols H x,
        counted.enrolled,
        number_same (has_enrolled H) (has_enrolled (H ++ x ∷ [])) (enrolled_stays H caller Leave reply certificate refl),
      );
      left = omega (
        arith,
        count-push leaves H x,
        counted.left,
        one_more_caller (has_left H) (has_left (H ++ x ∷ [])) caller (counted.numbered caller did.0) did.1 here others,
      );
    }

counted_more : (H : History) (caller : ℕ) (act : Act) (reply : Reply) (certificate : Option Claim) → IsTrue (may_log H caller act) → AreCounted H →
    AreCounted (H ++ record { entry = record { caller = caller; act = act; reply = reply }; certificate = certificate } ∷ [])
counted_more H caller (Do command) reply certificate may counted = counted_plain H caller (Do command) reply certificate refl refl counted
counted_more H caller (Publish position) reply certificate may counted = counted_plain H caller (Publish position) reply certificate refl refl counted
counted_more H caller Enrol reply certificate may counted = counted_enrol H caller reply certificate may counted
counted_more H caller Leave reply certificate may counted = counted_leave H caller reply certificate may counted

-- the counts at each position of a legal history
pub counted_at : (h : Inn) (H : History) → IsLegal h H → AreCounted H
counted_at h H legal =
    subst AreCounted (take-length H)
    (at_each_position h AreCounted (record { numbered = λ c did. absurd (cc); enrolled = refl; left = refl })
    (λ G x counted line. counted_more G x.entry.caller x.entry.act x.entry.reply x.certificate line.caller counted) H legal (length H) (omega arith))

pub commands_fit : (h : Inn) (H : History) → IsLegal h H → commands H ≤ h.limits.entries
commands_fit h H legal =
    let P : History → Type 0 = λ G. commands G ≤ h.limits.entries in
    subst P (take-length H) (at_each_position h P (omega arith)
    (λ G x before line. omega (arith, count-push is_command G x, allowed_commands h G x.entry.act line.limit before)) H legal (length H) (omega arith))

pub vectors_fit : (h : Inn) (H : History) → IsLegal h H → vectors H ≤ h.limits.publications
vectors_fit h H legal =
    let P : History → Type 0 = λ G. vectors G ≤ h.limits.publications in
    subst P (take-length H) (at_each_position h P (omega arith)
    (λ G x before line. omega (arith, count-push is_publish G x, allowed_vectors h G x.entry.act line.limit before)) H legal (length H) (omega arith))

-- there is room for one line more
pub has_room : (h : Inn) (H : History) → IsLegal h H → length H < entry_room h
has_room h H legal =
    let counted = counted_at h H legal in
    omega (
      arith,
      length_by_kind H,
      commands_fit h H legal,
      vectors_fit h H legal,
      counted.enrolled,
      counted.left,
      number_small (has_enrolled H) CALLERS,
      number_small (has_left H) CALLERS,
    )
