-- Callers that enrol, meet the opener and come back to it.
use Rattle.std.proofs.Common.{
  ◌≡◌,
  ◌≢◌,
  ℕ,
  ◌+◌,
  ◌-◌,
  ◌<◌,
  ◌≤◌,
  Bool,
  true,
  false,
  cond,
  nat_lt,
  List,
  [],
  ◌∷◌,
  ◌++◌,
  length,
  take,
  All,
  Contains,
  Option,
  Some,
  refl,
  sym,
  ap,
  subst,
  ◌∙◌,
  arith,
  append-nil,
  append_assoc,
  length-append,
  slice_index_or,
}
use Rattle.std.proofs.Math.ListN.{get_or-append}
use Rattle.std.proofs.Math.Seq.{get_or-append_seam}
use Rattle.std.proofs.lemmas.Bool.{ltb-true, lt-ltb}
use Rattle.std.proofs.lemmas.List.Elements.{All-nil}
use Rattle.atomic_table.specs.Seated.{TableId}
use Rattle.bp_types.specs.declared.limits.TheConstants.{CALLERS}
use Rattle.bp_types.specs.House.{Inn, opening}
use Rattle.bp_types.specs.declared.command.Command.{Command}
use Rattle.bp_types.specs.Program.{Program}
use Rattle.bp_turn.specs.Prefix.{IsPrefix, longer}
use Rattle.bp_turn.specs.Callers.{numbers_from}
use Rattle.bp_core.specs.declared.line.Line.{Line}
use Rattle.bp_core.specs.declared.line.Reply.{Reply}
use Rattle.bp_core.specs.declared.line.Reply.TheVariants.{Done}
use Rattle.bp_core.specs.declared.call.Call.TheVariants.{Enrol}
use Rattle.bp_core.specs.declared.call.Answer.TheVariants.{Logged}
use Rattle.bp_core.specs.Lines.{History, calls}
use Rattle.bp_core.specs.Instance.{instance_at}
use Rattle.bp_core.specs.Acting.{line_of}
use Rattle.bp_core.specs.Legal.{IsLegal}
use Rattle.bp_desk.specs.Passes.{PassState, newcomer, HasAccounts}
use Rattle.bp_desk.specs.Calling.{IsCalled, AddsCall, joined}
use Rattle.bp_desk.proofs.Standing.{run_first}
use Rattle.bp_core.proofs.Growing.{instance_stays}
use Rattle.bp_core.specs.Counting.{HasInOrder}
use Rattle.bp_optimise.specs.Following.{Optimising, GoesWith, HasLooked}
use Rattle.bp_optimise.proofs.Leading.{prefix_on, prefix_le}
use Rattle.bp_optimise.specs.Acts.{IsActor}
use Rattle.bp_optimise.specs.Sessions.{AreInRange}
use Rattle.bp_desk_run.specs.DeskRun.{lead_of}
use Rattle.bp_optimise.specs.declared.sessions.Stop.{Stop}
use Rattle.bp_optimise.proofs.Doing.{look_acts}
use Rattle.bp_optimise.proofs.Ends.{enrolled_acts}
use Rattle.bp_desk_run.specs.declared.actor.Actor.{Actor}
use Rattle.bp_desk_run.specs.Beginnings.{StartsFrom}
use Rattle.bp_desk_run.specs.Endings.{IsEnd, IsEnded}
use Rattle.bp_desk_run.specs.Actors.{IsReady, HasRun, HasEnrolled, HasJoined}
use Rattle.bp_desk_run.proofs.Opening.{in_order_push}
use Rattle.bp_desk_run.proofs.Running.{same_pass}

longer_later : (xs ys : History) → length xs < length ys → longer xs ys ≡ ys
longer_later xs ys lt = ap (λ (b : Bool). cond b ys xs) (lt-ltb (length xs) (length ys) lt)

longer_same : (xs ys : History) → length ys ≤ length xs → longer xs ys ≡ xs
longer_same xs ys le = go (nat_lt (length xs) (length ys)) refl
  where
    go : (b : Bool) → nat_lt (length xs) (length ys) ≡ b → cond b ys xs ≡ xs
    go true e = absurd (let lt = ltb-true (length xs) (length ys) e in omega (arith, lt, le))
    go false e = refl

first_of : (m n : ℕ) (xs ys : List ℕ) → m ∷ xs ≡ n ∷ ys → m ≡ n
first_of m n xs ys e = cc

rest_of : (m n : ℕ) (xs ys : List ℕ) → m ∷ xs ≡ n ∷ ys → xs ≡ ys
rest_of m n xs ys e = cc

-- what an enrolment hands out is the next number
pub next_number : (free : List ℕ) (number caller : ℕ) (rest : List ℕ) → number < CALLERS → free ≡ numbers_from number (CALLERS - number) → free ≡ caller ∷ rest
    → (caller ≡ number) × (rest ≡ numbers_from (number + 1) (CALLERS - (number + 1)))
next_number free number caller rest some is e =
    let both : caller ∷ rest ≡ number ∷ numbers_from (number + 1) (CALLERS - (number + 1)) = sym e ∙ is ∙
    run_first number (CALLERS - number) (CALLERS - (number + 1)) (omega arith) in
    (first_of caller number rest _ both, rest_of caller number rest _ both)

reply_done : (r : Reply) → Logged Done ≡ Logged r → r ≡ Done
reply_done r e = cc

-- an enrolment, and the meeting after it
pub record IsMet (number : ℕ) (o0 o2 p1 p2 : PassState) : Type 0 where
  pub caller : p1.caller ≡ number
  pub same : p2 ≡ p1
  pub seen : o2.seen ≡ p1.seen
  pub opener : HasEnrolled number o0 o2

pub met : (number : ℕ) (o0 o1 o2 p1 p2 : PassState) (rest : List ℕ) → number < CALLERS → o0.free ≡ numbers_from number (CALLERS - number) →
    o0.free ≡ p1.caller ∷ rest → o1 ≡ record o0 { free = rest }
    → IsCalled (newcomer o0 p1.caller) p1 Enrol (Logged Done) → o2 ≡ record o1 { seen = longer o1.seen p1.seen } → p2 ≡ record p1 { seen = o2.seen } →
    IsMet number o0 o2 p1 p2
met number o0 o1 o2 p1 p2 rest low free handed is c after other =
    let numbers = next_number o0.free number p1.caller rest low free handed in
    let l = c.answered in
    let x = line_of number Enrol Done in
    let line : line_of p1.caller Enrol l.reply ≡ x = ap (λ r. line_of p1.caller Enrol r) (reply_done l.reply l.answer_is) ∙
    ap (λ n. line_of n Enrol Done) numbers.0 in
    let seen1 : p1.seen ≡ c.found ++ x ∷ [] = ap (λ d. d.history) l.adds ∙ ap (λ y. c.found ++ y ∷ []) line in
    let before : o1.seen ≡ o0.seen = ap (λ (s : PassState). s.seen) is in
    let a = ap length seen1 in let b = ap length c.begins.1 in let d = ap length before in
    let seen2 : o2.seen ≡ p1.seen = ap (λ (s : PassState). s.seen) after ∙
    longer_later o1.seen p1.seen (omega (arith, a, b, d, length-append c.found (x ∷ []), length-append o0.seen c.begins.0)) in
    let whole : o2 ≡ record o0 { free = rest; seen = longer o1.seen p1.seen } = after ∙ ap (λ (s : PassState). record s { seen = longer o1.seen p1.seen }) is in
    let grown : o2.seen ≡ o0.seen ++ (c.begins.0 ++ x ∷ []) = seen2 ∙ seen1 ∙ ap (λ l. l ++ x ∷ []) c.begins.1 ∙ append_assoc o0.seen c.begins.0 (x ∷ []) in
    record {
      caller = numbers.0;
      same = other ∙ ap (λ s. record p1 { seen = s }) seen2;
      seen = seen2;
      opener = record {
        desk = ap (λ (s : PassState). s.desk) whole;
        house = ap (λ (s : PassState). s.house) whole;
        caller = ap (λ (s : PassState). s.caller) whole;
        calls = ap (λ (s : PassState). s.calls) whole;
        ended = ap (λ (s : PassState). s.ended) whole;
        free = ap (λ (s : PassState). s.free) whole ∙ numbers.1;
        begins = (c.begins.0 ++ x ∷ [], grown);
        order = λ lines has. subst (HasInOrder (lines ++ x ∷ [])) (sym grown) (in_order_push lines o0.seen c.begins.0 x has);
      };
    }

-- a caller that has enrolled is ready
pub enrolled_ready : (desk : TableId) (sessions number : ℕ) (o0 o2 p1 p2 : PassState) (program : Program) (o : Optimising) (a : Actor) → o0.desk ≡ desk →
    1 ≤ number → IsLegal o0.house o0.seen → IsMet number o0 o2 p1 p2
    → IsCalled (newcomer o0 p1.caller) p1 Enrol (Logged Done) → AddsCall (newcomer o0 p1.caller) p1 Enrol (Logged Done) → StartsFrom program o →
    program ≡ opening o0.house
    → a.pass ≡ Some p2 → a.optimiser ≡ Some o → AreInRange o0.house a.commands.items → (sessions < number → a.commands.items ≡ []) →
    IsReady desk o0.house sessions number o2.seen a
enrolled_ready desk sessions number o0 o2 p1 p2 program o a at low legal m c adds starts opens pass_is optimiser_is range none = record {
  pass = p1;
  pass_is = pass_is ∙ ap (λ q. Some q) m.same;
  desk_is = ap (λ (q : PassState). q.desk) c.pass ∙ at;
  house_is = ap (λ (q : PassState). q.house) c.pass;
  caller = m.caller;
  not_opener = λ z. absurd (omega (arith, z, low));
  enrolled = adds ∙ ap (λ n. line_of n Enrol Done ∷ []) m.caller;
  none_ended = ap (λ (q : PassState). q.ended) c.pass;
  begins = ([], m.seen ∙ sym (append-nil p1.seen));
  actor = enrolled_acts (lead_of o0.house) p1.caller o0 p1 legal c;
  optimiser = o;
  optimiser_is = optimiser_is;
  goes = starts o0.house p1.seen opens;
  range = range;
  none_of_workers = none;
}

-- what was ready is so when the opener has seen more
pub ready_later : (desk : TableId) (house : Inn) (sessions number : ℕ) (G H : History) (a : Actor) → IsPrefix G H → IsReady desk house sessions number G a →
    IsReady desk house sessions number H a
ready_later desk house sessions number G H a grows r = record {
  pass = r.pass;
  pass_is = r.pass_is;
  desk_is = r.desk_is;
  house_is = r.house_is;
  caller = r.caller;
  not_opener = r.not_opener;
  enrolled = r.enrolled;
  none_ended = r.none_ended;
  begins = prefix_on Line r.pass.seen G H r.begins grows;
  actor = r.actor;
  optimiser = r.optimiser;
  optimiser_is = r.optimiser_is;
  goes = r.goes;
  range = r.range;
  none_of_workers = r.none_of_workers;
}

-- a second meeting leaves the opener as it was
pub meets_again : (o0 o1 p0 : PassState) → IsPrefix p0.seen o0.seen → o1 ≡ record o0 { seen = longer o0.seen p0.seen } → o1 ≡ o0
meets_again o0 o1 p0 begins is = is ∙ ap (λ s. record o0 { seen = s }) (longer_same o0.seen p0.seen (prefix_le p0.seen o0.seen begins))

-- and the caller has seen as much
pub ready_again : (desk : TableId) (house : Inn) (sessions number : ℕ) (o0 o1 p0 p1 : PassState) (a b : Actor) →
    IsReady desk house sessions number o0.seen a → a.pass ≡ Some p0 → o1 ≡ o0 → p1 ≡ record p0 { seen = o1.seen } → IsLegal p1.house p1.seen → HasAccounts p1
    → b.pass ≡ Some p1 → b.optimiser ≡ a.optimiser → b.commands ≡ a.commands →
    IsReady desk house sessions number o0.seen b × (calls o0.seen number ≡ line_of number Enrol Done ∷ [])
ready_again desk house sessions number o0 o1 p0 p1 a b r is kept after legal accounts pass_is optimiser_is commands =
    let same : r.pass ≡ p0 = same_pass r.pass p0 (sym r.pass_is ∙ is) in
    let q = r.pass in
    let now : p1 ≡ record q { seen = o0.seen } = after ∙ ap (λ (s : PassState). record p0 { seen = s.seen }) kept ∙
    ap (λ (s : PassState). record s { seen = o0.seen }) (sym same) in
    let seen : p1.seen ≡ o0.seen = ap (λ (s : PassState). s.seen) now in
    let caller : p1.caller ≡ number = ap (λ (s : PassState). s.caller) now ∙ r.caller in
    let made : p1.calls ≡ line_of number Enrol Done ∷ [] = ap (λ (s : PassState). s.calls) now ∙ r.enrolled in
    let begins : IsPrefix q.seen p1.seen = subst (IsPrefix q.seen) (sym seen) r.begins in
    let look : HasLooked q p1 = record {
      begins = begins;
      desk = ap (λ (s : PassState). s.desk) now;
      house = ap (λ (s : PassState). s.house) now;
      caller = ap (λ (s : PassState). s.caller) now;
      calls = ap (λ (s : PassState). s.calls) now;
      free = ap (λ (s : PassState). s.free) now;
      ended = ap (λ (s : PassState). s.ended) now;
      turns = ([], ap (λ (s : PassState). s.turns) now ∙ sym (append-nil q.turns), All-nil (λ t. t ≤ length p1.seen));
      own = λ o. accounts.own;
      legal = λ l. legal;
    } in
    let at = r.goes.within in
    let le = prefix_le q.seen p1.seen begins in (
      record {
        pass = p1;
        pass_is = pass_is;
        desk_is = ap (λ (s : PassState). s.desk) now ∙ r.desk_is;
        house_is = ap (λ (s : PassState). s.house) now ∙ r.house_is;
        caller = caller;
        not_opener = r.not_opener;
        enrolled = made;
        none_ended = ap (λ (s : PassState). s.ended) now ∙ r.none_ended;
        begins = ([], sym seen ∙ sym (append-nil p1.seen));
        actor = (look_acts (lead_of house) q p1 look).keeps r.actor;
        optimiser = r.optimiser;
        optimiser_is = optimiser_is ∙ r.optimiser_is;
        goes = record {
          within = omega (arith, at, le);
          program = r.goes.program ∙ sym (instance_stays house q.seen p1.seen r.optimiser.position begins at);
        };
        range = subst (λ v. AreInRange house v.items) (sym commands) r.range;
        none_of_workers = λ lt. ap (λ v. v.items) commands ∙ r.none_of_workers lt;
      },
      subst (λ k. calls o0.seen k ≡
          line_of number Enrol Done ∷ []) caller (subst (λ H. calls H p1.caller ≡ line_of number Enrol Done ∷ []) seen (accounts.own ∙ made)),
    )

contains_push : (xs rest : List (ℕ × History)) (x : ℕ × History) → Contains xs x → Contains (xs ++ rest) x
contains_push xs rest x (at, lt, is) = (at, omega (arith, lt, length-append xs rest), get_or-append xs rest x at lt ∙ is)

contains_new : (xs rest : List (ℕ × History)) (x : ℕ × History) → Contains (xs ++ x ∷ rest) x
contains_new xs rest x = (length xs, omega (arith, length-append xs (x ∷ rest)), get_or-append_seam xs x rest x)

-- the opener after a caller came back
pub has_joined : (o0 o1 left : PassState) → IsPrefix o0.seen o1.seen → o1 ≡ joined o0 left → HasJoined o0 o1
has_joined o0 o1 left begins is = record {
  desk = ap (λ (s : PassState). s.desk) is;
  house = ap (λ (s : PassState). s.house) is;
  caller = ap (λ (s : PassState). s.caller) is;
  calls = ap (λ (s : PassState). s.calls) is;
  free = ap (λ (s : PassState). s.free) is;
  begins = begins;
}

same_left : (p q : PassState) → Some p ≡ Some q → p ≡ q
same_left p q e = cc

pub is_ended : (desk : TableId) (house : Inn) (sessions number : ℕ) (o0 o1 left : PassState) (a : Actor) → HasRun desk house sessions number a →
    a.left ≡ Some left → IsPrefix left.seen o1.seen → o1 ≡ joined o0 left
    → IsEnded house sessions number a.commands.items o1 a.stop
is_ended desk house sessions number o0 o1 left a r is begins after =
    let same : r.left ≡ left = same_left r.left left (sym r.left_is ∙ is) in
    let end : IsEnd house sessions number a.commands.items left a.done a.stop =
    subst (λ q. IsEnd house sessions number a.commands.items q a.done a.stop) same r.end in
    let kept : Contains o1.ended (left.caller, left.calls) =
    subst (λ (l : List (ℕ × History)). Contains l (left.caller, left.calls)) (sym (ap (λ (s : PassState). s.ended) after))
    (contains_new o0.ended left.ended (left.caller, left.calls)) in
    record {
      left = left;
      done = a.done;
      end = end;
      begins = begins;
      kept = subst (λ n. Contains o1.ended (n, left.calls)) end.caller kept;
    }

pub still_ended : (house : Inn) (sessions number : ℕ) (cs : List Command) (stop : Stop) (o0 o1 left : PassState) → IsPrefix o0.seen o1.seen →
    o1 ≡ joined o0 left → IsEnded house sessions number cs o0 stop → IsEnded house sessions number cs o1 stop
still_ended house sessions number cs stop o0 o1 left begins after e = record {
  left = e.left;
  done = e.done;
  end = e.end;
  begins = prefix_on Line e.left.seen o0.seen o1.seen e.begins begins;
  kept = subst (λ (l : List (ℕ × History)). Contains l (number, e.left.calls)) (sym (ap (λ (s : PassState). s.ended) after))
      (contains_push o0.ended ((left.caller, left.calls) ∷ left.ended) (number, e.left.calls) e.kept);
}
