-- What a pass keeps: that its caller may act, and the numbers that it may hand out.
use Rattle.std.proofs.Common.{
  ◌≡◌,
  ◌≢◌,
  ℕ,
  zero,
  suc,
  ◌+◌,
  ◌-◌,
  ◌<◌,
  ◌≤◌,
  ◌==◌,
  Bool,
  true,
  false,
  not,
  ◌&&◌,
  ◌||◌,
  List,
  [],
  ◌∷◌,
  ◌++◌,
  length,
  Some,
  unwrap_or,
  IsTrue,
  refl,
  sym,
  ap,
  subst,
  ◌∙◌,
  arith,
  ◌⊎◌,
  inr,
  All,
  Contains,
  append-nil,
  append_assoc,
  eq-eqb,
  le-leb,
  nat_le,
}
use Rattle.std.specs.List.{list_any}
use Rattle.std.proofs.lemmas.List.Folds.{list_any-append}
use Rattle.bp_types.specs.declared.limits.TheConstants.{CALLERS}
use Rattle.bp_types.specs.House.{Inn}
use Rattle.bp_turn.specs.Prefix.{IsPrefix, longer}
use Rattle.bp_turn.specs.Seat.{IsSound}
use Rattle.bp_turn.specs.Callers.{entries_by, numbers_from, without}
use Rattle.bp_turn.proofs.Numbers.{run_contains, run_without}
use Rattle.bp_turn.proofs.Prefixes.{of_longer}
use Rattle.bp_core.specs.declared.line.Line.{Line}
use Rattle.bp_core.specs.declared.line.Reply.{Reply}
use Rattle.bp_core.specs.declared.line.Reply.TheVariants.{Done}
use Rattle.bp_core.specs.declared.call.Answer.TheVariants.{Logged}
use Rattle.std.proofs.lemmas.List.Elements.{All-head, All-weaker}
use Rattle.bp_core.specs.declared.call.Call.{Call}
use Rattle.bp_core.specs.declared.call.Call.TheVariants.{Enrol, Leave}
use Rattle.bp_core.specs.declared.call.Answer.{Answer}
use Rattle.bp_core.specs.Lines.{History, calls, is_by, last_number}
use Rattle.bp_core.specs.Callers.{greatest_caller, is_leave, is_enrol_by, is_leave_by, has_entry, has_enrolled, has_left, may_act}
use Rattle.bp_core.specs.Legal.{IsLegal}
use Rattle.bp_core.specs.Acting.{act_of, line_of, IsAnswered}
use Rattle.bp_core.specs.Changes.{deltas_between}
use Rattle.bp_core.proofs.Growing.{answered_continues, continued_is_prefix}
use Rattle.bp_core.proofs.Joining.{deltas_last}
use Rattle.bp_desk.specs.Passes.{PassState, HasAccounts, house_of, pass_of, no_house, newcomer, IsIdle, IsPass, IsGone}
use Rattle.bp_desk.specs.Newest.{Vector, IsNewest}
use Rattle.bp_desk.specs.Calling.{IsCalled, HasRead, HasTurn, MayMake, diary}
use Rattle.bp_desk.proofs.Growing.{may_act_same, any_among}
use Rattle.bp_desk.proofs.Answered.{by_answer}
use Rattle.bp_core.specs.Acting.{Diary}
use Rattle.bp_desk.proofs.Knowing.{learnt_later, newer, one_of_two, by_order}
use Rattle.bp_desk.proofs.Made.{State, at_turn, past, house_is, house_after}

pub run_none : (n k : ℕ) → k ≡ 0 → numbers_from n k ≡ []
unfolding numbers_from
run_none n zero e = refl
run_none n (suc k) e = absurd (omega arith)

pub run_first : (n k m : ℕ) → k ≡ m + 1 → numbers_from n k ≡ n ∷ numbers_from (n + 1) m
unfolding numbers_from
run_first n zero m e = absurd (omega arith)
run_first n (suc k) m e = ap (λ j. n ∷ numbers_from (suc n) j) (let l : k ≡ m = omega arith in l) ∙
    ap (λ j. n ∷ numbers_from j m) (let l : suc n ≡ n + 1 = omega arith in l)

pub run_rest : (n k m : ℕ) → k ≡ m + 1 → without n (numbers_from n k) ≡ numbers_from (n + 1) m
run_rest n k m e =
    let l : k ≡ suc m = omega arith in
    ap (λ j. without n (numbers_from n j)) l ∙ run_without n m ∙ ap (λ j. numbers_from j m) (let i : suc n ≡ n + 1 = omega arith in i)

did : (e a l b m : Bool) → m ≡ false → (e || (a && not l)) ≡ true → (e || ((a || b) && not (l || m))) ≡ true
did true a l b m none may = refl
did false true false b true none may = absurd (cc)
did false true false b false none may = refl
did false true true b m none may = absurd (cc)
did false false l b m none may = absurd (cc)

-- who may act may act after one more entry that is no Leave
pub may_act_push : (H : History) (caller : ℕ) (x : Line) → is_leave x.entry.act ≡ false → IsTrue (may_act H caller) → IsTrue (may_act (H ++ x ∷ []) caller)
may_act_push H caller x stays may =
    let none : list_any (is_leave_by caller) (x ∷ []) ≡ false = ap (λ b. (is_by caller x && b) || false) stays ∙ and_off (is_by caller x) in
    ap (λ b. (caller == 0) || (b && not (has_left (H ++ x ∷ []) caller))) (list_any-append (is_enrol_by caller) H (x ∷ []))
    ∙ (ap (λ b. (caller == 0) || ((has_enrolled H caller || list_any (is_enrol_by caller) (x ∷ [])) && not b)) (list_any-append (is_leave_by caller) H (x ∷ []))
    ∙ did (caller == 0) (has_enrolled H caller) (has_left H caller) (list_any (is_enrol_by caller) (x ∷ [])) (list_any (is_leave_by caller) (x ∷ [])) none may)
  where
    and_off : (b : Bool) → ((b && false) || false) ≡ false
    and_off true = refl
    and_off false = refl

pub left_by_leave : (H : History) (caller : ℕ) (reply : Reply) → IsTrue (has_left (H ++ line_of caller Leave reply ∷ []) caller)
left_by_leave H caller reply =
    list_any-append (is_leave_by caller) H (line_of caller Leave reply ∷ []) ∙
    (ap (λ b. has_left H caller || ((b && true) || false)) (eq-eqb caller caller refl) ∙ or_on (has_left H caller))
  where
    or_on : (b : Bool) → (b || true) ≡ true
    or_on true = refl
    or_on false = refl

no_entry : (H : History) (caller : ℕ) → calls H caller ≡ [] → has_entry H caller ≡ false
no_entry H caller none = any_among (is_by caller) (is_by caller) H (λ x is. is) ∙ ap (list_any (is_by caller)) none

-- who has no entry has not left, and may act once it has enrolled
pub may_act_enrolled : (H : History) (caller : ℕ) (reply : Reply) → calls H caller ≡ [] → IsTrue (may_act (H ++ line_of caller Enrol reply ∷ []) caller)
may_act_enrolled H caller reply none =
    let x = line_of caller Enrol reply in
    let left : has_left H caller ≡ false = any_among (is_by caller) (is_leave_by caller) H (λ y is. ap (λ b. b && is_leave y.entry.act) is) ∙
    ap (list_any (is_leave_by caller)) none in
    let here : is_by caller x ≡ true = eq-eqb caller caller refl in
    let on : has_enrolled (H ++ x ∷ []) caller ≡ true = list_any-append (is_enrol_by caller) H (x ∷ []) ∙
    (ap (λ b. has_enrolled H caller || ((b && true) || false)) here ∙ or_on (has_enrolled H caller)) in
    let off : has_left (H ++ x ∷ []) caller ≡ false = list_any-append (is_leave_by caller) H (x ∷ []) ∙
    (ap (λ b. b || ((is_by caller x && false) || false)) left ∙ ap (λ b. (b && false) || false) here) in
    ap (λ b. (caller == 0) || (b && not (has_left (H ++ x ∷ []) caller))) on ∙ (ap (λ b. (caller == 0) || (true && not b)) off ∙ or_on (caller == 0))
  where
    or_on : (b : Bool) → (b || true) ≡ true
    or_on true = refl
    or_on false = refl

-- a caller with a free number may enrol
pub may_make_enrol : (h : Inn) (H : History) (caller : ℕ) → 1 ≤ caller → caller < CALLERS → calls H caller ≡ [] → MayMake h H caller Enrol
may_make_enrol h H caller low high none = record {
  caller_may = ap (λ b. (nat_le 1 caller && nat_le caller greatest_caller) && not b) (no_entry H caller none) ∙
      bounds (nat_le 1 caller) (nat_le caller greatest_caller) (le-leb 1 caller low) (le-leb caller greatest_caller (omega arith));
  in_range = refl;
  is_right = tt;
}
  where
    bounds : (a b : Bool) → a ≡ true → b ≡ true → ((a && b) && true) ≡ true
    bounds a b i j = ap (λ x. (x && b) && true) i ∙ ap (λ x. (true && x) && true) j

-- after a call that was no Enrol and no Leave its caller may act
pub may_still : (s new : State) (call : Call) (answer : Answer) → IsCalled (pass_of s) (pass_of new) call answer → calls s.seen s.number ≡ s.own →
    is_leave (act_of call) ≡ false
    → IsTrue (may_act s.seen s.number) → IsTrue (may_act new.seen s.number)
may_still s new call answer c own stays may =
    let at_turn : IsTrue (may_act c.found s.number) = subst IsTrue (may_act_same s.seen c.found s.number (own ∙ sym c.own)) may in
    by_answer (diary (house_of s) c.found) (diary (house_of s) new.seen) s.number call answer (IsTrue (may_act new.seen s.number)) c.answered
    (λ l. subst (λ H. IsTrue (may_act H s.number)) (sym (ap (λ d. d.history) l.adds))
    (may_act_push c.found s.number (line_of s.number call l.reply) stays at_turn))
    (λ off same. subst (λ H. IsTrue (may_act H s.number)) (sym (ap (λ d. d.history) same)) at_turn)

pub pass_still : (s new : State) (caller next : ℕ) (v w : Vector) (call : Call) (answer : Answer) → IsPass s caller next v →
    IsCalled (pass_of s) (pass_of new) call answer → IsIdle new
    → calls s.seen s.number ≡ s.own → is_leave (act_of call) ≡ false → IsNewest (house_of new) new.seen w → IsPass new caller next w
pass_still s new caller next v w call answer p c idle own stays knows = record {
  idle = idle;
  number = ap (λ q. q.caller) c.pass ∙ p.number;
  may = subst (λ n. IsTrue (may_act new.seen n)) p.number
      (may_still s new call answer c own stays (subst (λ n. IsTrue (may_act s.seen n)) (sym p.number) p.may));
  free = ap (λ q. q.free) c.pass ∙ p.free;
  from_one = p.from_one;
  hands_out = p.hands_out;
  knows = knows;
}

-- after its Leave a caller is gone
pub gone : (s new : State) (caller next : ℕ) (v w : Vector) (answer : Answer) → IsPass s caller next v → s.number ≢ 0 →
    IsCalled (pass_of s) (pass_of new) Leave answer → IsIdle new → IsNewest (house_of new) new.seen w → IsGone new w
gone s new caller next v w answer p other c idle knows =
    let number : new.number ≡ s.number = ap (λ q. q.caller) c.pass in
    let seen : new.seen ≡ c.found ++ line_of s.number Leave c.answered.reply ∷ [] = ap (λ d. d.history) c.answered.adds in
    record {
      idle = idle;
      left = subst (λ n. IsTrue (has_left new.seen n)) (sym number)
          (subst (λ H. IsTrue (has_left H s.number)) (sym seen) (left_by_leave c.found s.number c.answered.reply));
      none_free = ap (λ q. q.free) c.pass ∙ p.free ∙ run_none next (CALLERS - next) (let n = p.hands_out (λ e. other (p.number ∙ e)) in omega arith);
      knows = knows;
    }

-- the first pass of a caller that enrols
pub enrolled : (s new : State) (caller : ℕ) (w : Vector) (answer : Answer) → s.number ≡ caller → s.free ≡ [] → calls s.seen s.number ≡ s.own → s.own ≡ [] →
    IsCalled (pass_of s) (pass_of new) Enrol answer → IsIdle new → IsNewest (house_of new) new.seen w → IsPass new caller CALLERS w
enrolled s new caller w answer number free own none c idle knows =
    let seen : new.seen ≡ c.found ++ line_of s.number Enrol c.answered.reply ∷ [] = ap (λ d. d.history) c.answered.adds in
    record {
      idle = idle;
      number = ap (λ q. q.caller) c.pass ∙ number;
      may = subst (λ n. IsTrue (may_act new.seen n)) number
          (subst (λ H. IsTrue (may_act H s.number)) (sym seen) (may_act_enrolled c.found s.number c.answered.reply (c.own ∙ none)));
      free = ap (λ q. q.free) c.pass ∙ free ∙ sym (run_none CALLERS (CALLERS - CALLERS) refl);
      from_one = omega arith;
      hands_out = λ _. refl;
      knows = knows;
    }

-- the opener's seat once it has handed out its next number
pub handed_out : (s new : State) (caller next : ℕ) (v : Vector) → IsPass s caller next v → s.number ≡ 0 → next < CALLERS →
    new ≡ record s { free = without next s.free } → IsPass new caller (next + 1) v
handed_out s new caller next v p opener some e = record {
  idle = subst IsIdle (sym e) (record { idle = p.idle.idle; house = p.idle.house; legal = p.idle.legal });
  number = ap (λ (t : State). t.number) e ∙ p.number;
  may = subst (λ H. IsTrue (may_act H caller)) (sym (ap (λ (t : State). t.seen) e)) p.may;
  free = ap (λ (t : State). t.free) e ∙ ap (without next) p.free ∙ run_rest next (CALLERS - next) (CALLERS - (next + 1)) (omega arith);
  from_one = omega arith;
  hands_out = λ other. absurd (other (sym p.number ∙ opener));
  knows = subst (λ (t : State). IsNewest (house_of t) t.seen v) (sym e) p.knows;
}

-- what the other saw is legal for the same house
pub longer_legal : (h : Inn) (xs ys : History) → IsLegal h xs → IsLegal h ys → IsLegal h (longer xs ys)
longer_legal h xs ys a b = of_longer (λ l _. IsLegal h l) xs ys (λ _. b) (λ _. a)

-- a pass that has seen more, in which its own calls are those that it made
pub pass_learns : (s new : State) (caller next : ℕ) (v w : Vector) → IsPass s caller next v → IsLegal (house_of s) new.seen → calls s.seen s.number ≡ s.own →
    calls new.seen s.number ≡ s.own →
    new.fixed ≡ s.fixed → new.number ≡ s.number → new.free ≡ s.free → new.has_turn ≡ false → IsNewest (house_of s) new.seen w → IsPass new caller next w
pass_learns s new caller next v w p legal own own_new fixed number free turn knows =
    let house_new : house_of new ≡ house_of s = ap (λ o. unwrap_or o no_house) fixed in
    record {
      idle = record {
        idle = turn;
        house = fixed ∙ p.idle.house ∙ ap (λ (h : Inn). Some h) (sym house_new);
        legal = subst (λ h. IsLegal h new.seen) (sym house_new) legal;
      };
      number = number ∙ p.number;
      may = subst (λ n. IsTrue (may_act new.seen n)) p.number
          (subst IsTrue (may_act_same s.seen new.seen s.number (own ∙ sym own_new)) (subst (λ n. IsTrue (may_act s.seen n)) (sym p.number) p.may));
      free = free ∙ p.free;
      from_one = p.from_one;
      hands_out = p.hands_out;
      knows = subst (λ h. IsNewest h new.seen w) (sym house_new) knows;
    }

-- what two idle seats of one house saw, the longer of it is legal
pub learnt : (s t : State) → IsIdle s → IsIdle t → t.fixed ≡ s.fixed → IsLegal (house_of s) (longer s.seen t.seen)
learnt s t i j same = longer_legal (house_of s) s.seen t.seen i.legal (subst (λ h. IsLegal h t.seen) (ap (λ o. unwrap_or o no_house) same) j.legal)

-- the first number that a pass may hand out
pub next_free : (s : State) (caller next : ℕ) (v : Vector) → IsPass s caller next v → next < CALLERS →
    s.free ≡ next ∷ numbers_from (next + 1) (CALLERS - (next + 1))
next_free s caller next v p some = p.free ∙ run_first next (CALLERS - next) (CALLERS - (next + 1)) (omega arith)

pub next_may_enrol : (s : State) (caller next : ℕ) (v : Vector) → IsPass s caller next v → next < CALLERS →
    All (λ n. (n < CALLERS) × (entries_by (λ (x : Line). x.entry.caller) n s.seen ≡ [])) s.free → MayMake (house_of s) s.seen next Enrol
next_may_enrol s caller next v p some all =
    let P : ℕ → Type 0 = λ n. (n < CALLERS) × (entries_by (λ (x : Line). x.entry.caller) n s.seen ≡ []) in
    let rest = numbers_from (next + 1) (CALLERS - (next + 1)) in
    let here : All P (next ∷ rest) = subst (All P) (next_free s caller next v p some) all in
    may_make_enrol (house_of s) s.seen next p.from_one some (All-head P next rest here).1

pub next_contained : (s : State) (caller next : ℕ) (v : Vector) → IsPass s caller next v → next < CALLERS → Contains s.free next
next_contained s caller next v p some = subst (λ ns. Contains ns next) (sym p.free) (run_contains next (CALLERS - next) next (omega arith) (omega arith))

-- what an enrolment leaves
pub enrolment : (s sp new : State) (caller next : ℕ) (v : Vector) (answer : Answer) → IsPass s caller next v → next < CALLERS →
    sp ≡ record s { free = without next s.free } → IsCalled (newcomer (pass_of s) next) (pass_of new) Enrol answer
    → (rest : List ℕ) × ((pass_of s).free ≡ (pass_of new).caller ∷ rest) × (pass_of sp ≡ record (pass_of s) { free = rest }) ×
    IsCalled (newcomer (pass_of s) (pass_of new).caller) (pass_of new) Enrol (Logged Done)
enrolment s sp new caller next v answer p some e c =
    let rest = numbers_from (next + 1) (CALLERS - (next + 1)) in
    let number : new.number ≡ next = ap (λ (q : PassState). q.caller) c.pass in
    let done : answer ≡ Logged Done = c.answered.answer_is ∙ ap (λ r. Logged r) c.answered.replies in (
      rest,
      next_free s caller next v p some ∙ ap (λ n. n ∷ rest) (sym number),
      ap pass_of e ∙ ap (λ ns. record (pass_of s) { free = ns }) (ap (without next) p.free ∙
          run_rest next (CALLERS - next) (CALLERS - (next + 1)) (omega arith)),
      subst (λ n. IsCalled (newcomer (pass_of s) n) (pass_of new) Enrol (Logged Done)) (sym number)
          (subst (IsCalled (newcomer (pass_of s) next) (pass_of new) Enrol) done c),
    )

pub same_house : (s t : State) → t.fixed ≡ s.fixed → house_of t ≡ house_of s
same_house s t same = ap (λ o. unwrap_or o no_house) same

-- a turn at which nothing was logged is a read
pub has_read : (s mid n : State) (b : Diary) → HasTurn s mid b → n ≡ record mid { has_turn = false } → HasRead (pass_of s) (pass_of n)
has_read s mid n b turn e =
    let there : HasRead (pass_of s) (pass_of (record (at_turn s b.history) { has_turn = false })) = record {
      begins = turn.begins;
      pass = refl;
      own = turn.own;
      legal = subst (λ h. IsLegal h b.history) (sym (house_is s b.house turn.fixed)) turn.legal;
    } in
    subst (λ (t : State). HasRead (pass_of s) (pass_of t)) (sym (e ∙ ap (λ (m : State). record m { has_turn = false }) turn.seat)) there

-- after it the pass is one still
pub pass_reads : (s mid n : State) (b : Diary) (caller next : ℕ) (v w : Vector) → IsPass s caller next v → HasTurn s mid b →
    n ≡ record mid { has_turn = false } → IsNewest (house_of n) n.seen w → IsPass n caller next w
pass_reads s mid n b caller next v w p turn given knows =
    let e : n ≡ record (at_turn s b.history) { has_turn = false } = given ∙ ap (λ (m : State). record m { has_turn = false }) turn.seat in
    let house = house_is s b.house turn.fixed in
    pass_learns s n caller next v w p
    (subst (IsLegal (house_of s)) (sym (ap (λ (x : State). x.seen) e)) (subst (λ h. IsLegal h b.history) (sym house) turn.legal))
    turn.before (ap (λ (x : State). calls x.seen s.number) e ∙
    turn.own) (ap (λ (x : State). x.fixed) e) (ap (λ (x : State). x.number) e) (ap (λ (x : State). x.free) e)
    (ap (λ (x : State). x.has_turn) e) (subst (λ h. IsNewest h n.seen w) (ap (λ (x : State). house_of x) e) knows)

-- what holds of every seat, said of a pass
pub accounts : (s : State) → IsSound (λ (x : Line). x.entry.caller) s → HasAccounts (pass_of s)
accounts s sound = record {
  own = sound.own_entries;
  ended = sound.ended_entries;
  free = All-weaker (λ (n : ℕ). (n < CALLERS) × (calls s.seen n ≡ [])) (λ (n : ℕ). calls s.seen n ≡ []) (λ n h. h.1) s.free sound.free_entries;
  others = sound.other_entries;
}

-- a turn at the lock, as the desk says it
pub has_turn : (s mid : State) (b : Diary) → s.fixed ≡ Some b.house → IsPrefix s.seen b.history → mid ≡ at_turn s b.history →
    IsSound (λ (x : Line). x.entry.caller) s → IsSound (λ (x : Line). x.entry.caller) mid →
    IsLegal b.house b.history → HasTurn s mid b
has_turn s mid b fixed begins seat before after legal = record {
  fixed = fixed;
  begins = begins;
  seat = seat;
  before = before.own_entries;
  own = subst (λ (t : State). calls t.seen t.number ≡ t.own) seat after.own_entries;
  legal = legal;
}

-- what two passes keep after they have told each other what they had seen
pub newer_of : (s t : State) (new : History) (v w u : Vector) → IsIdle s → IsIdle t → t.fixed ≡ s.fixed → IsNewest (house_of s) s.seen v →
    IsNewest (house_of t) t.seen w →
    new ≡ longer s.seen t.seen → IsPrefix s.seen new → IsPrefix t.seen new → (v.number < w.number → u ≡ w) → (w.number ≤ v.number → u ≡ v) →
    IsNewest (house_of s) new u
newer_of s t new v w u i j same knows_s knows_t is from_s from_t less more =
    let house : house_of t ≡ house_of s = same_house s t same in
    newer (house_of s) s.seen t.seen new v w u i.legal (subst (λ h. IsLegal h t.seen) house j.legal)
    (subst (IsLegal (house_of s)) (sym is) (learnt s t i j same)) from_s from_t
    (subst (λ (K : History). (K ≡ s.seen) ⊎ (K ≡ t.seen)) (sym is) (one_of_two s.seen t.seen)) knows_s (subst (λ h. IsNewest h t.seen w) house knows_t)
    less more

-- the newest vector after a turn
pub knows_later : (s mid : State) (b : Diary) (v w : Vector) → IsIdle s → HasTurn s mid b → IsNewest (house_of s) s.seen v →
    (v.number ≡ last_number b.history → w ≡ v) → (v.number ≢ last_number b.history → IsNewest b.house b.history w) → IsNewest b.house b.history w
knows_later s mid b v w idle turn knows same other =
    let house = house_is s b.house turn.fixed in
    learnt_later b.house s.seen b.history v w (subst (λ h. IsLegal h s.seen) house idle.legal) turn.legal turn.begins
    (subst (λ h. IsNewest h s.seen v) house knows) same other

-- the same for the other of the two, which hears what the first has learnt
pub newer_back : (s t : State) (new mid : History) (w u x : Vector) → IsIdle s → IsIdle t → t.fixed ≡ s.fixed → IsNewest (house_of t) t.seen w →
    IsNewest (house_of s) mid u →
    new ≡ mid → IsPrefix t.seen mid → mid ≡ longer s.seen t.seen → (w.number < u.number → x ≡ u) → (u.number ≤ w.number → x ≡ w) → IsNewest (house_of t) new x
newer_back s t new mid w u x i j same knows_t knows_mid is from is_longer less more =
    let house : house_of t ≡ house_of s = same_house s t same in
    let legal : IsLegal (house_of s) mid = subst (IsLegal (house_of s)) (sym is_longer) (learnt s t i j same) in
    let there : IsNewest (house_of s) mid x =
    newer (house_of s) t.seen mid mid w u x (subst (λ h. IsLegal h t.seen) house j.legal) legal legal from (
      [],
      sym (append-nil mid),
    ) (inr refl) (subst (λ h. IsNewest h t.seen w) house knows_t) knows_mid less more in
    subst (λ h. IsNewest h new x) (sym house) (subst (λ (K : History). IsNewest (house_of s) K x) (sym is) there)

-- at a turn what was found has the calls that are kept
pub accounts_at : (s mid : State) (H : History) → mid ≡ at_turn s H → IsSound (λ (x : Line). x.entry.caller) mid → HasAccounts (record (pass_of s) { seen = H })
accounts_at s mid H at sound =
    let here : IsSound (λ (x : Line). x.entry.caller) (at_turn s H) = subst (λ (t : State). IsSound (λ (x : Line). x.entry.caller) t) at sound in
    record {
      own = here.own_entries;
      ended = here.ended_entries;
      free = All-weaker (λ (n : ℕ). (n < CALLERS) × (calls H n ≡ [])) (λ (n : ℕ). calls H n ≡ []) (λ n h. h.1) s.free here.free_entries;
      others = here.other_entries;
    }

-- the newest vector of a pass that has given the book back
pub knows_given : (s mid n : State) (b : Diary) (v w : Vector) → HasTurn s mid b → IsIdle s → IsNewest (house_of s) s.seen v →
    n ≡ record mid { has_turn = false } →
    (v.number ≡ last_number b.history → w ≡ v) → (v.number ≢ last_number b.history → IsNewest b.house b.history w) → IsNewest (house_of n) n.seen w
knows_given s mid n b v w turn idle knows given same other =
    let e : n ≡ record (at_turn s b.history) { has_turn = false } = given ∙ ap (λ (m : State). record m { has_turn = false }) turn.seat in
    subst (λ (t : State). IsNewest (house_of t) t.seen w) (sym e)
    (subst (λ h. IsNewest h b.history w) (sym (house_is s b.house turn.fixed)) (knows_later s mid b v w idle turn knows same other))

-- the newest vector of a pass after its call
pub knows_called : (s mid new : State) (b after : Diary) (caller : ℕ) (call : Call) (answer : Answer) (v w : Vector) → HasTurn s mid b → IsIdle s →
    IsNewest (house_of s) s.seen v → IsAnswered b after caller call answer →
    IsLegal after.house after.history → new ≡ past s b.history after.history →
    (v.number ≡ last_number after.history → w ≡ v) → (v.number ≢ last_number after.history → IsNewest after.house after.history w) →
    IsNewest (house_of new) new.seen w
knows_called s mid new b after caller call answer v w turn idle knows is legal at same other =
    let house : after.house ≡ house_of s = house_after s mid b after caller call answer turn is in
    let longer : IsPrefix b.history after.history = continued_is_prefix b after (answered_continues b after caller call answer is) in
    let grows : IsPrefix s.seen after.history = prefix_of_prefix s.seen b.history after.history turn.begins longer in
    let here : IsNewest (house_of s) after.history w =
    learnt_later (house_of s) s.seen after.history v w idle.legal (subst (λ h. IsLegal h after.history) house legal) grows knows same
    (λ ne. subst (λ h. IsNewest h after.history w) house (other ne)) in
    subst (λ (t : State). IsNewest (house_of t) t.seen w) (sym at) here
  where
    prefix_of_prefix : (G H K : History) → IsPrefix G H → IsPrefix H K → IsPrefix G K
    prefix_of_prefix G H K (a, i) (c, j) = (a ++ c, j ∙ ap (λ (X : History). X ++ c) i ∙ append_assoc G a c)

-- a number is left to hand out
pub next_below : (s : State) (caller next : ℕ) (v : Vector) → IsPass s caller next v → (s.free ≢ []) → next < CALLERS
next_below s caller next v p some =
    by_order next CALLERS (next < CALLERS) (λ lt. lt) (λ le. absurd (some (p.free ∙ run_none next (CALLERS - next) (omega (arith, le)))))

-- all numbers are handed out
pub none_left : (s : State) (caller next : ℕ) (v : Vector) → IsPass s caller next v → CALLERS ≤ next → s.free ≡ []
none_left s caller next v p most = p.free ∙ run_none next (CALLERS - next) (omega (arith, most))

-- some are left
pub some_left : (s : State) (caller next : ℕ) (v : Vector) → IsPass s caller next v → next < CALLERS → s.free ≢ []
some_left s caller next v p some none = let e = sym (next_free s caller next v p some) ∙ none in absurd (cc)

-- the changes between two positions that were seen are those of the book at the turn
pub deltas_seen : (s mid : State) (b : Diary) (a k until : ℕ) → HasTurn s mid b → a ≤ k → k ≤ until → until ≤ length s.seen →
    deltas_between b.house b.history a k ≡ deltas_between (house_of s) s.seen a k
deltas_seen s mid b a k until turn le within seen =
    deltas_last b.house s.seen b.history a k turn.begins le (omega (arith, within, seen)) ∙
    ap (λ h. deltas_between h s.seen a k) (sym (house_is s b.house turn.fixed))
