-- What a caller knows of a history holds of each longer one that has the same entries of its own.
use Rattle.std.proofs.Common.{
  ◌≡◌,
  ℕ,
  zero,
  suc,
  ◌*◌,
  ◌==◌,
  ◌≤◌,
  Bool,
  true,
  false,
  not,
  ◌&&◌,
  ◌||◌,
  cond,
  [],
  ◌∷◌,
  ◌++◌,
  length,
  filter,
  take,
  drop,
  count_by,
  Option,
  Some,
  None,
  MatchOption,
  refl,
  sym,
  ap,
  ◌∙◌,
  subst,
  arith,
  length-append,
  append-nil,
  append_assoc,
}
use Rattle.std.specs.List.{list_any}
use Rattle.std.specs.Arc.{arc_value}
use Rattle.std.proofs.lemmas.List.{take-append-le, take-append-drop}
use Rattle.std.proofs.Math.Seq.{take-length}
use Rattle.bp_types.specs.House.{is_from_one}
use Rattle.bp_types.specs.declared.command.Command.TheVariants.{Book, Cancel, Reforecast, Reprice, Resize, Group}
use Rattle.bp_types.specs.Displacement.{IsDisplacement}
use Rattle.bp_types.specs.Claim.{IsCertificateOf}
use Rattle.bp_core.specs.declared.line.Act.{Act}
use Rattle.bp_core.specs.declared.line.Act.TheVariants.{Do as DoAct, Publish as PublishAct, Enrol as EnrolAct, Leave as LeaveAct}
use Rattle.bp_core.specs.declared.line.Line.{Line}
use Rattle.bp_core.specs.declared.call.Call.{Call}
use Rattle.bp_core.specs.declared.call.Call.TheVariants.{Do, Publish, Enrol, Leave}
use Rattle.bp_core.specs.declared.call.Answer.{Answer}
use Rattle.bp_core.specs.Lines.{History, is_by, is_publish, calls, vectors}
use Rattle.bp_core.specs.Callers.{greatest_caller, is_enrol, is_leave, has_entry, has_enrolled, has_left, may_act, may_log}
use Rattle.bp_core.specs.Changes.{is_change, changes_between}
use Rattle.bp_core.specs.Instance.{instance_of}
use Rattle.bp_core.specs.Acting.{Diary, IsLogged, IsRefused, refusal, line_of}
use Rattle.bp_core.specs.Calls.{Continues}
use Rattle.bp_core.specs.Staying.{
  IsPrefix,
  RightStaysRight,
  AnsweredContinues,
  ContinuedIsPrefix,
  MayLogByOwn,
  ChangesGrow,
  NumberNeverFalls,
  ChangesStay,
  InstanceStays,
  InstanceAtStart,
}
use Rattle.bp_core.proofs.Openings.{instance_at_start}
use Rattle.bp_core.proofs.Prefixes.{take_take}
use Rattle.bp_core.proofs.Pushes.{count-push}

-- a test that only some lines can pass finds no more in all lines than in these
any_among : (q p : Line → Bool) (H : History) → ((x : Line) → q x ≡ false → p x ≡ false) → list_any p H ≡ list_any p (filter q H)
any_among q p [] only = refl
any_among q p (x ∷ H) only = by_test (any_among q p H only) (q x) refl
  where
    by_test : list_any p H ≡ list_any p (filter q H) → (b : Bool) → q x ≡ b → list_any p (x ∷ H) ≡ list_any p (cond b (x ∷ filter q H) (filter q H))
    by_test rest true is = ap (λ t. p x || t) rest
    by_test rest false is = ap (λ t. t || list_any p H) (only x is) ∙ rest

-- whether a caller has such an entry, its own entries tell
any_of_caller : (caller : ℕ) (r : Line → Bool) (G H : History) → calls G caller ≡ calls H caller →
    list_any (λ x. is_by caller x && r x) G ≡ list_any (λ x. is_by caller x && r x) H
any_of_caller caller r G H same =
    let p : Line → Bool = λ x. is_by caller x && r x in
    let only : (x : Line) → is_by caller x ≡ false → p x ≡ false = λ x is. ap (λ b. b && r x) is in
    any_among (is_by caller) p G only ∙ (ap (list_any p) same ∙ sym (any_among (is_by caller) p H only))

pub may_log_by_own : MayLogByOwn
may_log_by_own G H caller act same = by_act act
  where
    enrolled : has_enrolled G caller ≡ has_enrolled H caller
    enrolled = any_of_caller caller (λ x. is_enrol x.entry.act) G H same

    left : has_left G caller ≡ has_left H caller
    left = any_of_caller caller (λ x. is_leave x.entry.act) G H same

    entry : has_entry G caller ≡ has_entry H caller
    entry = any_among (is_by caller) (is_by caller) G (λ x is. is) ∙
        (ap (list_any (is_by caller)) same ∙ sym (any_among (is_by caller) (is_by caller) H (λ x is. is)))

    acts : may_act G caller ≡ may_act H caller
    acts = ap (λ b. (caller == 0) || (b && not (has_left G caller))) enrolled ∙ ap (λ b. (caller == 0) || (has_enrolled H caller && not b)) left

    by_act : (a : Act) → may_log G caller a ≡ may_log H caller a
    by_act EnrolAct = ap (λ b. is_from_one greatest_caller caller && not b) entry
    by_act LeaveAct = ap (λ b. not (caller == 0) && b) acts
    by_act (DoAct command) = acts
    by_act (PublishAct position) = acts

pub prefix_length : (G H : History) → IsPrefix G H → length G ≤ length H
prefix_length G H (rest, is) = let n = ap length is in omega (arith, n, length-append G rest)

-- a longer history up to a position of the shorter
pub take-prefix : (G H : History) (n : ℕ) → IsPrefix G H → n ≤ length G → take n H ≡ take n G
take-prefix G H n (rest, is) le = ap (take n) is ∙ take-append-le n G rest le

pub instance_stays : InstanceStays
instance_stays h G H position begins within = ap (instance_of h) (take-prefix G H position begins within)

pub instance_before_lines : InstanceAtStart
instance_before_lines h H = instance_at_start h

pub right_stays_right : RightStaysRight
right_stays_right h G H (Do command None) grows right = tt
right_stays_right h G H (Do (Group span rooms amount) (Some q)) grows right =
    let e = instance_stays h G H q.position grows right.0 in (
      (let le = right.0 in omega (arith, le, prefix_length G H grows)),
      subst (λ p. IsDisplacement p span (h.limits.unit * rooms) q.displacement) (sym e) right.1,
    )
right_stays_right h G H (Do (Book stay) (Some q)) grows right = absurd right
right_stays_right h G H (Do (Cancel nth) (Some q)) grows right = absurd right
right_stays_right h G H (Do (Reforecast stay count) (Some q)) grows right = absurd right
right_stays_right h G H (Do (Reprice stay rate) (Some q)) grows right = absurd right
right_stays_right h G H (Do (Resize night rooms) (Some q)) grows right = absurd right
right_stays_right h G H (Publish board least) grows right =
    let b = arc_value board in
    let e = instance_stays h G H b.position grows right.0 in
    ((let le = right.0 in omega (arith, le, prefix_length G H grows)), subst (λ p. IsCertificateOf p b.certificate) (sym e) right.1, right.2)
right_stays_right h G H Enrol grows right = tt
right_stays_right h G H Leave grows right = tt

pub continues_same : (b : Diary) → Continues b b
continues_same b = (refl, λ n within. (within, refl))

-- what goes on from a book that goes on
pub continues_further : (old mid new : Diary) → Continues old mid → Continues mid new → Continues old new
continues_further old mid new first second = (
  second.0 ∙ first.0,
  λ n within. let was = first.1 n within in let is = second.1 n was.0 in (is.0, is.1 ∙ was.1),
)

continues_logged : (old new : Diary) (caller : ℕ) (call : Call) (answer : Answer) → IsLogged old new caller call answer → Continues old new
continues_logged old new caller call answer logged =
    let line = line_of caller call logged.reply in (
      ap (λ (b : Diary). b.house) logged.adds,
      λ n within. (
        omega (arith, ap (λ (b : Diary). length b.history) logged.adds, length-append old.history (line ∷ []), within),
        ap (λ (b : Diary). take n b.history) logged.adds ∙ take-append-le n old.history (line ∷ []) within,
      ),
    )

pub answered_continues : AnsweredContinues
answered_continues old new caller call answer is = go (refusal old.house old.history call) is
  where
    go : (o : Option Answer) → MatchOption o (IsLogged old new caller call answer) (IsRefused old new answer) → Continues old new
    go None logged = continues_logged old new caller call answer logged
    go (Some refused) same = subst (Continues old) (sym same.1) (continues_same old)

pub continued_is_prefix : ContinuedIsPrefix
continued_is_prefix old new continues =
    let begins : take (length old.history) new.history ≡ old.history = (continues.1 (length old.history) (omega arith)).1 ∙ take-length old.history in (
      drop (length old.history) new.history,
      sym (take-append-drop (length old.history) new.history) ∙
          ap (λ G. G ++ drop (length old.history) new.history) begins,
    )

-- with more lines behind no fewer pass a test
count_on : (p : Line → Bool) (xs rest : History) → count_by p xs ≤ count_by p (xs ++ rest)
count_on p xs [] = let e = ap (count_by p) (append-nil xs) in omega (arith, e)
count_on p xs (x ∷ rest) =
    let e = ap (count_by p) (append_assoc xs (x ∷ []) rest) in
    let one = count-push p xs x in
    let le = count_on p (xs ++ x ∷ []) rest in
    omega (arith, e, one, le)

-- there are no fewer changes from a place on with more lines behind
pub count_more : (part rest : History) (a : ℕ) → count_by is_change (drop a part) ≤ count_by is_change (drop a (part ++ rest))
count_more part rest zero = count_on is_change part rest
count_more [] rest (suc a) = omega arith
count_more (x ∷ part) rest (suc a) = count_more part rest a

pub changes_grow : ChangesGrow
changes_grow H a b c le =
    let whole : take b H ++ drop b (take c H) ≡ take c H = ap (λ G. G ++ drop b (take c H)) (sym (take_take H b c le)) ∙ take-append-drop b (take c H) in
    subst (λ G. changes_between H a b ≤ count_by is_change (drop a G)) whole (count_more (take b H) (drop b (take c H)) a)

pub number_never_falls : NumberNeverFalls
number_never_falls G H (rest, is) = let e = ap vectors is in let le = count_on is_publish G rest in omega (arith, e, le)

pub changes_stay : ChangesStay
changes_stay G H a b begins within = ap (λ K. count_by is_change (drop a K)) (take-prefix G H b begins within)
