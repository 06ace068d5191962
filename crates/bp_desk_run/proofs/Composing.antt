-- A whole run, from its parts.
use Rattle.std.proofs.Common.{
  ◌≡◌,
  ◌≢◌,
  ◌⊎◌,
  inl,
  inr,
  ℕ,
  zero,
  suc,
  ◌+◌,
  ◌-◌,
  ◌*◌,
  ◌/◌,
  ◌<◌,
  ◌≤◌,
  ◌==◌,
  Bool,
  true,
  false,
  ◌||◌,
  ◌&&◌,
  List,
  [],
  ◌∷◌,
  ◌++◌,
  length,
  All,
  Contains,
  refl,
  sym,
  ap,
  subst,
  ◌∙◌,
  arith,
  append-nil,
  slice_index_or,
  IsTrue,
}
use mathlib.Core.Logic.{dite}
use native.Mathlib.Decide.{dec_le}
use Rattle.std.proofs.lemmas.Bool.{and_parts, leb-true}
use Rattle.atomic_table.specs.Seated.{TableId}
use Rattle.bp_types.specs.declared.limits.TheConstants.{CALLERS}
use Rattle.bp_types.specs.House.{Inn, IsHouse}
use Rattle.bp_types.specs.declared.command.Command.{Command}
use Rattle.bp_turn.specs.Prefix.{IsPrefix}
use Rattle.bp_turn.specs.Callers.{numbers_from}
use Rattle.bp_core.specs.declared.line.Line.{Line}
use Rattle.bp_core.specs.declared.line.Reply.TheVariants.{Done}
use Rattle.bp_core.specs.declared.call.Call.TheVariants.{Enrol}
use Rattle.bp_core.specs.Lines.{History, calls}
use Rattle.bp_core.specs.Acting.{Diary, line_of}
use Rattle.bp_core.specs.Legal.{IsLegal}
use Rattle.bp_desk.specs.Passes.{PassState, HasAccounts, opener}
use Rattle.bp_optimise.specs.declared.round.Round.{Round}
use Rattle.bp_desk_run.specs.declared.actor.TheConstants.{MOST_ACTORS}
use Rattle.bp_desk_run.specs.DeskRun.{lead_of, script_of, IsDeskRun, IsComplete, IsClosed, IsCut}
use Rattle.bp_optimise.specs.declared.sessions.Stop.{Stop}
use Rattle.bp_optimise.specs.declared.sessions.Stop.TheVariants.{Finished, Memory}
use Rattle.bp_desk_run.specs.declared.actor.Actor.{Actor}
use Rattle.bp_desk_run.specs.Beginnings.{first_lines, OpensWith}
use Rattle.bp_desk_run.specs.Endings.{IsEnded, IsRunTo}
use Rattle.bp_desk_run.specs.Actors.{AreTerms, AreReady, HaveRun, KeepCommands, HasEnrolledAll, HasJoined}
use Rattle.bp_desk_run.specs.Closing.{HasAllBack, IsClosing, has_closed}
use Rattle.bp_desk_run.specs.Finals.{HasRunTo, AreScripted, IsClosedAfter, ComesTo, stop_at, stops_of}
use Rattle.bp_desk_run.proofs.Opening.{just_enrolled}
use Rattle.bp_desk_run.proofs.Closing.{free_none}
use Rattle.bp_desk_run.proofs.Ending.{is_desk_run, is_complete, is_cut_short}
use Rattle.bp_desk_run.specs.DeskRun.{all_commands, HasRoomFor}
use Rattle.bp_desk_run.proofs.Room.{none_stops, closing_has_room, no_entry}
use Rattle.bp_desk_run.proofs.Finishing.{run_to, last_vector, closed_by, full_by, worker_finished, cut}

pub stop_at_is : (xs : List Actor) (k : ℕ) (a : Actor) → k < length xs → stop_at xs k ≡ (slice_index_or xs k a).stop
stop_at_is [] k a lt = absurd (omega (arith, lt))
stop_at_is (x ∷ xs) zero a lt = refl
stop_at_is (x ∷ xs) (suc k) a lt = stop_at_is xs k a (omega (arith, lt))

never_at : (xs : List Actor) → ((i : ℕ) (a : Actor) → i < length xs → (slice_index_or xs i a).stop ≢ Memory) → (k : ℕ) → stop_at xs k ≢ Memory
never_at [] none k = λ e. absurd (cc)
never_at (x ∷ xs) none zero = none 0 x (omega arith)
never_at (x ∷ xs) none (suc k) = never_at xs (λ i a lt. none (suc i) a (omega (arith, lt))) k

some_actor : (xs : List Actor) → 0 < length xs → Actor
some_actor [] lt = absurd (omega (arith, lt))
some_actor (x ∷ xs) lt = x

-- what the house tells its callers
positive_lead : (n : ℕ) → 1 ≤ n → 1 ≤ (n + 1) / 2
positive_lead n le = omega (arith, le)

pub terms : (house : Inn) (sessions : ℕ) → IsHouse house → sessions ≤ MOST_ACTORS →
    AreTerms house sessions ((house.limits.stale_after + 1) / 2) house.limits.unit
terms house sessions is few = record {
  lead_is = refl;
  some_lead = positive_lead house.limits.stale_after (leb-true _ _ (and_parts _ _ is.stale_after).0);
  unit_is = refl;
  few = few;
}

-- nobody above the last number has an entry
none_above : (n : ℕ) (p : PassState) → n ≤ MOST_ACTORS → p.free ≡ numbers_from (n + 1) (CALLERS - (n + 1)) → HasAccounts p → (c : ℕ) → n < c →
    calls p.seen c ≡ []
none_above n p few free a c high = dite (dec_le CALLERS c)
    (λ le. a.others c le)
    (λ lt. free_none p.seen (n + 1) (CALLERS - (n + 1)) c (subst (All (λ (k : ℕ). calls p.seen k ≡ [])) free a.free) (omega (arith, high))
    (omega (arith, lt, few)))

-- once all have enrolled and met, the history is the Enrols in order
pub begun : (desk : TableId) (house : Inn) (o : Line) (n : ℕ) (op0 op1 : PassState) → op0 ≡ opener desk house o → OpensWith house o →
    HasEnrolledAll n op0 op1 → HasAccounts op1 → n ≤ MOST_ACTORS
    → ((c : ℕ) → 1 ≤ c → c ≤ n → calls op1.seen c ≡ line_of c Enrol Done ∷ []) → op1.seen ≡ first_lines o n
begun desk house o n op0 op1 is opens e accounts few own =
    let caller : op1.caller ≡ 0 = e.caller ∙ ap (λ (p : PassState). p.caller) is in
    let made : op1.calls ≡ o ∷ [] = e.calls ∙ ap (λ (p : PassState). p.calls) is in
    just_enrolled o n op1.seen opens.by (e.order o (ap (λ (p : PassState). p.seen) is)) (subst (λ k. calls op1.seen k ≡ op1.calls) caller accounts.own ∙
    made) own (none_above n op1 few e.free accounts)

-- the parts of a run, up to the last caller's return
pub record HasParts (desk : TableId) (house : Inn) (sessions n : ℕ) (o : Line) (op0 op1 op2 op3 : PassState) (xs : List Actor) : Type 0 where
  pub opened : op0 ≡ opener desk house o
  pub opens : OpensWith house o
  pub enrolled : HasEnrolledAll n op0 op1
  pub met : op2 ≡ op1
  pub accounts : HasAccounts op2
  pub few : n ≤ MOST_ACTORS
  pub own : (c : ℕ) → 1 ≤ c → c ≤ n → calls op1.seen c ≡ line_of c Enrol Done ∷ []
  pub back : HasJoined op2 op3
  pub callers : length xs ≡ n
  pub ended : (c : ℕ) (a : Actor) → 1 ≤ c → c ≤ length xs →
      IsEnded house sessions c (slice_index_or xs (length xs - c) a).commands.items op3 (slice_index_or xs (length xs - c) a).stop

pub all_back : (desk : TableId) (house : Inn) (sessions n : ℕ) (o : Line) (op0 op1 op2 op3 : PassState) (xs : List Actor) →
    HasParts desk house sessions n o op0 op1 op2 op3 xs → HasAllBack n op3
all_back desk house sessions n o op0 op1 op2 op3 xs h =
    let many = h.callers in record {
      opener = h.back.caller ∙ ap (λ (p : PassState). p.caller) h.met ∙ h.enrolled.caller ∙ ap (λ (p : PassState). p.caller) h.opened;
      few = h.few;
      free = h.back.free ∙ ap (λ (p : PassState). p.free) h.met ∙ h.enrolled.free;
      back = λ c low high.
          let e = h.ended c (some_actor xs (omega (arith, many, low, high))) low (omega (arith, many, high)) in
          (e.left.calls, e.kept);
    }

pub has_run_to : (desk : TableId) (house : Inn) (sessions n : ℕ) (o : Line) (op0 op1 op2 op3 : PassState) (xs0 xs : List Actor)
    (scripts : List (List Command)) (workers : ℕ) → HasParts desk house sessions n o op0 op1 op2 op3 xs → HasAccounts op3
    → length xs0 ≡ n → ((i : ℕ) (a : Actor) → i < length xs0 → (slice_index_or xs i a).commands ≡ (slice_index_or xs0 i a).commands) →
    AreScripted scripts workers sessions xs0 → HasRunTo house scripts workers (stops_of xs) op3
has_run_to desk house sessions n o op0 op1 op2 op3 xs0 xs scripts workers h accounts same kept s =
    let many = h.callers in
    let total : n ≡ length scripts + workers = sym same ∙ s.callers in
    let first : op1.seen ≡ first_lines o n = begun desk house o n op0 op1 h.opened h.opens h.enrolled (subst HasAccounts h.met h.accounts) h.few h.own in
    let begins : IsPrefix (first_lines o n) op3.seen = subst (λ H. IsPrefix H op3.seen) (ap (λ (p : PassState). p.seen) h.met ∙ first) h.back.begins in
    record {
      house_is = h.back.house ∙ ap (λ (p : PassState). p.house) h.met ∙ h.enrolled.house ∙ ap (λ (p : PassState). p.house) h.opened;
      all_back = subst (λ k. HasAllBack k op3) total (all_back desk house sessions n o op0 op1 op2 op3 xs h);
      accounts = accounts;
      opening = o;
      opens = h.opens;
      begins = subst (λ k. IsPrefix (first_lines o k) op3.seen) total begins;
      own = h.back.calls ∙ ap (λ (p : PassState). p.calls) h.met ∙ h.enrolled.calls ∙ ap (λ (p : PassState). p.calls) h.opened;
      ended = λ c low high.
          let below : c ≤ length xs = omega (arith, many, total, high) in
          let a = some_actor xs (omega (arith, low, below)) in
          let e = h.ended c a low below in
          let place : length xs - c < length xs0 = omega (arith, many, same, low, below) in
          let cs : (slice_index_or xs (length xs - c) a).commands.items ≡ script_of scripts (c - 1) = ap (λ v. v.items) (kept (length xs - c) a place)
          ∙ ap (λ k. (slice_index_or xs0 (k - c) a).commands.items) (let f : length xs ≡ length xs0 = many ∙ sym same in f) ∙
          s.commands c a low (omega (arith, many, same, below)) in
          let stop : (slice_index_or xs (length xs - c) a).stop ≡ stops_of xs c = sym (stop_at_is xs (length xs - c) a (omega (arith, low, below))) in
          let one : IsEnded house sessions c (script_of scripts (c - 1)) op3 (slice_index_or xs (length xs - c) a).stop =
          subst (λ l. IsEnded house sessions c l op3 (slice_index_or xs (length xs - c) a).stop) cs e in
          let two : IsEnded house sessions c (script_of scripts (c - 1)) op3 (stops_of xs c) =
          subst (IsEnded house sessions c (script_of scripts (c - 1)) op3) stop one in
          subst (λ k. IsEnded house k c (script_of scripts (c - 1)) op3 (stops_of xs c)) s.sessions_are two;
    }

-- the whole history, once the desk is closed
pub is_run_to : (house : Inn) (scripts : List (List Command)) (workers : ℕ) (stops : ℕ → Stop) (p : PassState) (book : Diary) (round : Round) →
    HasRunTo house scripts workers stops p → IsClosedAfter p book round
    → IsRunTo house scripts workers stops book.history × IsClosing house p.seen book.history round
is_run_to house scripts workers stops p book round r c =
    let closing : IsClosing house p.seen book.history round = subst (λ h. IsClosing h p.seen book.history round) r.house_is c.closing in (
      run_to house scripts workers stops p c.last book.history r (subst (λ h. IsLegal h book.history) (c.house_is ∙ r.house_is) c.legal)
          c.accounts c.seen c.caller c.free c.ended (last_vector house p.seen book.history round closing),
      closing,
    )

-- by the flags of the run: nobody lacked memory; all finished; the last round closed it
pub record HasFlags (xs : List Actor) (finished : Bool) : Type 0 where
  pub ample : (i : ℕ) (a : Actor) → i < length xs → (slice_index_or xs i a).stop ≢ Memory
  pub all : finished ≡ true → (i : ℕ) (a : Actor) → i < length xs → (slice_index_or xs i a).stop ≡ Finished
  pub some : finished ≡ false → (i : ℕ) × (i < length xs) × ((a : Actor) → (slice_index_or xs i a).stop ≢ Finished)

pub ample_stops : (xs : List Actor) (finished : Bool) → HasFlags xs finished → (c : ℕ) → stops_of xs c ≢ Memory
ample_stops xs finished f c = never_at xs f.ample (length xs - c)

pub all_stops : (xs : List Actor) (finished : Bool) → HasFlags xs finished → finished ≡ true → (c : ℕ) → 1 ≤ c → c ≤ length xs → stops_of xs c ≡ Finished
all_stops xs finished f is c low high =
    let a = some_actor xs (omega (arith, low, high)) in
    stop_at_is xs (length xs - c) a (omega (arith, low, high)) ∙ f.all is (length xs - c) a (omega (arith, low, high))

pub some_stop : (xs : List Actor) (finished : Bool) → HasFlags xs finished → finished ≡ false → (c : ℕ) × (1 ≤ c) × (c ≤ length xs) × (stops_of xs c ≢ Finished)
some_stop xs finished f is =
    let s = f.some is in
    let i = s.0 in let lt = s.1 in
    let a = some_actor xs (omega (arith, lt)) in
    let at : stops_of xs (length xs - i) ≡ (slice_index_or xs i a).stop = ap (stop_at xs) (let e : length xs - (length xs - i) ≡ i = omega (arith, lt) in e) ∙
    stop_at_is xs i a lt in
    (length xs - i, omega (arith, lt), omega arith, λ e. s.2 a (sym at ∙ e))

both_true : (a b : Bool) → (a && b) ≡ true → (a ≡ true) × (b ≡ true)
both_true true true e = (refl, refl)
both_true false b e = absurd (cc)
both_true true false e = absurd (cc)

either_false : (a b : Bool) → (a && b) ≡ false → (a ≡ false) ⊎ ((a ≡ true) × (b ≡ false))
either_false false b e = inl refl
either_false true false e = inr (refl, refl)
either_false true true e = absurd (cc)

pub whole_run : (house : Inn) (scripts : List (List Command)) (workers : ℕ) (G H : History) (xs : List Actor) (round : Round) (finished : Bool) →
    IsRunTo house scripts workers (stops_of xs) H → IsClosing house G H round → HasFlags xs finished
    → length scripts ≤ length xs → (finished && has_closed round) ≡ true → IsComplete scripts H × IsClosed H
whole_run house scripts workers G H xs round finished r closing f many is =
    let b = both_true finished (has_closed round) is in (
      is_complete house scripts workers (stops_of xs) H r (λ c low high. all_stops xs finished f b.0 c low (omega (arith, high, many))),
      closed_by house G H round closing b.1,
    )

pub cut_run : (house : Inn) (scripts : List (List Command)) (workers : ℕ) (G H : History) (xs : List Actor) (round : Round) (finished : Bool) →
    IsRunTo house scripts workers (stops_of xs) H → IsClosing house G H round → HasFlags xs finished
    → length xs ≡ length scripts + workers → (finished && has_closed round) ≡ false → IsCut house scripts H
cut_run house scripts workers G H xs round finished r closing f many is =
    cut house scripts workers (stops_of xs) G H round r (ample_stops xs finished f) closing (why (either_false finished (has_closed round) is))
  where
    why : (finished ≡ false) ⊎ ((finished ≡ true) × (has_closed round ≡ false))
        → ((c : ℕ) × (1 ≤ c) × (c ≤ length scripts + workers) × (stops_of xs c ≢ Finished)) ⊎
        (((c : ℕ) → 1 ≤ c → c ≤ length scripts → stops_of xs c ≡ Finished) × (has_closed round ≡ false))
    why (inl e) = inl (let s = some_stop xs finished f e in (s.0, s.1, subst (λ k. s.0 ≤ k) many s.2, s.3))
    why (inr e) = inr ((λ c low high. all_stops xs finished f e.0 c low (omega (arith, high, many))), e.1)

-- commands kept from step to step
keep_on : (xs ys zs : List Actor) → KeepCommands xs ys → KeepCommands ys zs → KeepCommands xs zs
keep_on xs ys zs a b = (b.0 ∙ a.0, λ i d lt. b.1 i d (let e = a.0 in omega (arith, e, lt)) ∙ a.1 i d lt)

pub parts : (desk : TableId) (house : Inn) (sessions lead unit : ℕ) (xs0 xs1 xs2 xs3 : List Actor) (o : Line) (op0 op1 op2 op3 : PassState) →
    OpensWith house o → op0 ≡ opener desk house o → length xs0 ≤ MOST_ACTORS → HasEnrolledAll (length xs0) op0 op1
    → AreReady desk op0.house sessions op1.seen xs1 → KeepCommands xs0 xs1 → op2 ≡ op1
    → ((h : Inn) (s : ℕ) → AreReady desk h s op1.seen xs1 →
    AreReady desk h s op1.seen xs2 × ((c : ℕ) → 1 ≤ c → c ≤ length xs1 → calls op1.seen c ≡ line_of c Enrol Done ∷ [])) → KeepCommands xs1 xs2 →
    HasAccounts op2
    → ((h : Inn) (seen : History) → AreReady desk h sessions seen xs2 → AreTerms h sessions lead unit → HaveRun desk h sessions xs3) → KeepCommands xs2 xs3 →
    AreTerms house sessions lead unit → HasJoined op2 op3
    → ((h : Inn) (s c : ℕ) (a : Actor) → HaveRun desk h s xs3 → 1 ≤ c → c ≤ length xs3 →
    IsEnded h s c (slice_index_or xs3 (length xs3 - c) a).commands.items op3 (slice_index_or xs3 (length xs3 - c) a).stop)
    → HasParts desk house sessions (length xs0) o op0 op1 op2 op3 xs3 × KeepCommands xs0 xs3
parts desk house sessions lead unit xs0 xs1 xs2 xs3 o op0 op1 op2 op3 opens is few enrolled ready1 keep1 met meets keep2 accounts runs keep3 told back joins =
    let in_house : AreReady desk house sessions op1.seen xs1 = subst (λ h. AreReady desk h sessions op1.seen xs1) (ap (λ (p : PassState). p.house) is) ready1 in
    let both = meets house sessions in_house in
    let ran = runs house op1.seen both.0 told in
    let keep = keep_on xs0 xs2 xs3 (keep_on xs0 xs1 xs2 keep1 keep2) keep3 in
    let many = keep1.0 in (
      record {
        opened = is;
        opens = opens;
        enrolled = enrolled;
        met = met;
        accounts = accounts;
        few = few;
        own = λ c low high. both.1 c low (omega (arith, many, high));
        back = back;
        callers = keep.0;
        ended = λ c a low high. joins house sessions c a ran low high;
      },
      keep,
    )

pub flags : (xs ys : List Actor) (finished : Bool) →
    (length ys ≡ length xs) × ((i : ℕ) (a : Actor) → i < length xs → (slice_index_or ys i a).stop ≡ (slice_index_or xs i a).stop)
    → ((i : ℕ) (a : Actor) → i < length ys → (slice_index_or ys i a).stop ≢ Memory)
    → (finished ≡ true → (i : ℕ) (a : Actor) → i < length ys → (slice_index_or ys i a).stop ≡ Finished)
    → (finished ≡ false → (i : ℕ) × (i < length ys) × ((a : Actor) → (slice_index_or ys i a).stop ≢ Finished)) → HasFlags xs finished
flags xs ys finished same ample all some =
    let many = same.0 in record {
      ample = λ i a lt e. ample i a (omega (arith, many, lt)) (same.1 i a lt ∙ e);
      all = λ is i a lt. sym (same.1 i a lt) ∙ all is i a (omega (arith, many, lt));
      some = λ is.
          let s = some is in
          let lt = s.1 in
          (s.0, omega (arith, many, lt), λ a e. s.2 a (same.1 s.0 a (omega (arith, many, lt)) ∙ e));
    }

-- who did not finish is a session
session_alone : (house : Inn) (scripts : List (List Command)) (workers : ℕ) (H : History) (xs : List Actor) (finished : Bool) →
    IsRunTo house scripts workers (stops_of xs) H → HasFlags xs finished → (c : ℕ) → 1 ≤ c → c ≤ length scripts + workers → stops_of xs c ≢ Finished →
    c ≤ length scripts
session_alone house scripts workers H xs finished run f c low high unfinished = dite (dec_le c (length scripts)) (λ le. le) (λ gt.
    let e = run.ends c low high in
    absurd (unfinished (worker_finished (length scripts) c e.left (stops_of xs c) (ample_stops xs finished f c) (e.end.worked (omega (arith, gt))))))

pub has_room : (house : Inn) (scripts : List (List Command)) (workers : ℕ) (p : PassState) (H : History) (xs : List Actor) (round : Round) (finished : Bool) →
    HasRunTo house scripts workers (stops_of xs) p → IsRunTo house scripts workers (stops_of xs) H
    → IsClosing house p.seen H round → HasFlags xs finished → length xs ≡ length scripts + workers → 1 ≤ house.limits.stale_after →
    HasRoomFor house (all_commands scripts) → (finished && has_closed round) ≡ true
has_room house scripts workers p H xs round finished r run closing f many some room = by_flag (finished && has_closed round) refl
  where
    desk : IsDeskRun house scripts workers H
    desk = is_desk_run house scripts workers (stops_of xs) H run (ample_stops xs finished f)

    never : (finished ≡ false) ⊎ ((finished ≡ true) × (has_closed round ≡ false)) → ⊥
    never (inl e) =
        let s = some_stop xs finished f e in
        let low : s.0 ≤ length scripts = session_alone house scripts workers H xs finished run f s.0 s.1 (subst (λ k. s.0 ≤ k) many s.2) s.3 in
        none_stops house scripts workers H desk some room (is_cut_short house scripts workers (stops_of xs) H run (ample_stops xs finished f) s.0 s.1 low s.3)
    never (inr e) =
        let own : calls p.seen 0 ≡ r.opening ∷ [] = subst (λ k. calls p.seen k ≡ p.calls) r.all_back.opener r.accounts.own ∙ r.own in
        let n = ap (λ K. length (calls K 0)) (no_entry house p.seen H round closing e.1) in
        let l = ap length own in
        closing_has_room house scripts workers H desk some room (omega (arith, n, l)) (full_by house p.seen H round closing e.1).0

    by_flag : (b : Bool) → (finished && has_closed round) ≡ b → b ≡ true
    by_flag true e = refl
    by_flag false e = absurd (never (either_false finished (has_closed round) e))

-- what a run comes to, by its parts
pub run_of : (desk : TableId) (house : Inn) (sessions : ℕ) (xs0 xs3 : List Actor) (o : Line) (op0 op1 op2 op3 : PassState) (book : Diary) (round : Round)
    (finished : Bool)
    → HasParts desk house sessions (length xs0) o op0 op1 op2 op3 xs3 → KeepCommands xs0 xs3 → HasAccounts op3 → IsClosedAfter op3 book round →
    HasFlags xs3 finished → 1 ≤ house.limits.stale_after
    → (scripts : List (List Command)) (workers : ℕ) → AreScripted scripts workers sessions xs0 →
    ComesTo house scripts workers book.history (finished && has_closed round)
run_of desk house sessions xs0 xs3 o op0 op1 op2 op3 book round finished h keep accounts closed f some scripts workers s =
    let r = has_run_to desk house sessions (length xs0) o op0 op1 op2 op3 xs0 xs3 scripts workers h accounts refl keep.1 s in
    let both = is_run_to house scripts workers (stops_of xs3) op3 book round r closed in
    let many = keep.0 in
    let total = s.callers in record {
      run = is_desk_run house scripts workers (stops_of xs3) book.history both.0 (ample_stops xs3 finished f);
      whole = whole_run house scripts workers op3.seen book.history xs3 round finished both.0 both.1 f (omega (arith, many, total));
      cut = cut_run house scripts workers op3.seen book.history xs3 round finished both.0 both.1 f (many ∙ total);
      room = has_room house scripts workers op3 book.history xs3 round finished r both.0 both.1 f (many ∙ total) some;
    }

pub some_stale : (house : Inn) → IsHouse house → 1 ≤ house.limits.stale_after
some_stale house is = leb-true _ _ (and_parts _ _ is.stale_after).0
