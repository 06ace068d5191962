-- What a session's commands leave, and why it stops.
use Rattle.std.proofs.Common.{
  ◌≡◌,
  ℕ,
  ◌+◌,
  ◌<◌,
  ◌≤◌,
  Bool,
  true,
  false,
  ◌||◌,
  nat_le,
  ◌==◌,
  cond,
  List,
  [],
  ◌∷◌,
  ◌++◌,
  length,
  take,
  count_by,
  slice_index_or,
  Option,
  Some,
  None,
  Ok,
  Err,
  is_some,
  MatchOption,
  IsTrue,
  refl,
  sym,
  ap,
  subst,
  ◌∙◌,
  arith,
  append-nil,
  append_assoc,
}
use mathlib.Core.Logic.{dite}
use native.Mathlib.Decide.{dec_lt}
use Rattle.std.specs.List.{list_any}
use Rattle.std.proofs.lemmas.List.{take_more}
use Rattle.std.proofs.lemmas.List.Sums.{sum_by-cons}
use Rattle.std.proofs.lemmas.Bool.{eqb-true, leb-true, ltb-true, and_parts}
use Rattle.std.proofs.lemmas.List.FromFn.{length-map-range_with_len}
use Rattle.bp_types.specs.House.{Inn}
use Rattle.bp_types.specs.declared.stay.Span.{Span}
use Rattle.bp_types.specs.declared.command.Command.{Command}
use Rattle.bp_types.specs.declared.command.Command.TheVariants.{Book, Cancel, Reforecast, Reprice, Resize, Group}
use Rattle.bp_types.specs.declared.command.Quoted.{Quoted}
use Rattle.bp_turn.specs.Prefix.{IsPrefix}
use Rattle.bp_core.specs.declared.line.Line.{Line}
use Rattle.bp_core.specs.declared.line.Reply.{Reply}
use Rattle.bp_core.specs.declared.line.Reply.TheVariants.{Done}
use Rattle.bp_core.specs.declared.call.Call.TheVariants.{Do, Leave}
use Rattle.bp_core.specs.declared.call.Answer.{Answer}
use Rattle.bp_core.specs.declared.call.Answer.TheVariants.{
  Logged,
  HistoryFull as NoEntry,
  Behind,
  Unquoted,
  Stale,
  Superseded as LaterThere,
  PublicationsFull as NoneLeft,
}
use Rattle.bp_core.specs.Lines.{History, is_command, is_publish, commands, vectors, last_position}
use Rattle.bp_core.specs.Changes.{changes_after}
use Rattle.bp_types.specs.Spans.{first_short}
use Rattle.bp_core.specs.Instance.{rooms_left_at, units_left_at}
use Rattle.bp_core.specs.Acting.{line_of, command_refusal, quote_refusal, refuse_if, IsLogged, IsRefused, IsAnswered}
use Rattle.bp_core.specs.Legal.{IsLegal, is_command_in_range}
use Rattle.bp_core.proofs.Pushes.{count-push}
use Rattle.bp_core.proofs.Counts.{commands_fit}
use Rattle.bp_desk.specs.Passes.{PassState}
use Rattle.bp_desk.specs.Calling.{IsCalled, AddsCall, diary, is_logged}
use Rattle.bp_desk.specs.Typed.{book_answer, group_answer}
use Rattle.bp_desk.specs.declared.replies.BookReply.{BookReply}
use Rattle.bp_desk.specs.declared.replies.BookReply.TheVariants.{Accepted as Booked, TooLow as RateTooLow, NoRoom as NoRoomLeft}
use Rattle.bp_desk.specs.declared.replies.GroupStop.{GroupStop}
use Rattle.bp_desk.specs.declared.replies.GroupStop.TheVariants.{HistoryFull as NoGroupLeft, Unquoted as WithoutQuote, Stale as StaleQuote}
use Rattle.bp_desk.specs.declared.replies.GroupReply.{GroupReply}
use Rattle.bp_desk.specs.declared.replies.GroupReply.TheVariants.{Accepted as GroupBooked, TooLow as AmountTooLow, NoRoom as NoRoomsLeft}
use Rattle.bp_optimise.specs.Following.{Optimising}
use Rattle.bp_optimise.specs.Following.{GoesWith}
use Rattle.bp_core.proofs.Vectors.{vector_between}
use Rattle.bp_optimise.specs.Acts.{HasActed, commands_in}
use Rattle.bp_optimise.specs.declared.tries.Outcome.{Outcome}
use Rattle.bp_optimise.specs.declared.tries.Outcome.TheVariants.{Made, HistoryFull, PublicationsFull, Memory}
use Rattle.bp_optimise.specs.declared.tries.Attempt.{Attempt}
use Rattle.bp_optimise.specs.declared.tries.Attempt.TheVariants.{Ended, Again}
use Rattle.bp_optimise.specs.declared.sessions.Stop.{Stop}
use Rattle.bp_optimise.specs.declared.sessions.Stop.TheVariants.{Finished, HistoryFull as NoEntryLeft, PublicationsFull as NoVectorLeft, Memory as NoMemory}
use Rattle.bp_optimise.specs.Sessions.{is_booking, IsStop, IsSession}
use Rattle.bp_optimise.specs.Tries.{is_plain, GoesOn, HasAllVectors, MakesNone, IsOutcome, IsAttempt}
use Rattle.bp_optimise.specs.declared.round.Round.{Round}
use Rattle.bp_optimise.specs.declared.round.Round.TheVariants.{Unchanged, Published, Superseded, PublicationsFull as NoVectorThere}
use Rattle.bp_optimise.specs.Rounds.{HasOffered, IsRound, found_none_left}
use Rattle.bp_optimise.proofs.Rounding.{goes_after}
use Rattle.bp_optimise.proofs.Doing.{acts_again, call_acts, commands_push, by_publication}
use Rattle.bp_optimise.proofs.Settling.{full_lasts, round_acts}

-- a command adds no vector
pub command_acts : (least : ℕ) (old new : PassState) (command : Command) (quoted : Option Quoted) (answer : Answer) →
    IsCalled old new (Do command quoted) answer → HasActed least old new
command_acts least old new command quoted answer c = call_acts least old new (Do command quoted) answer c (λ r e t. absurd (cc))

-- the ways in which a command may be answered
pub by_command : (P : Type 0) (h : Inn) (found seen : History) (caller : ℕ) (command : Command) (quoted : Option Quoted) (answer : Answer) →
    IsAnswered (diary h found) (diary h seen) caller (Do command quoted) answer
    → ((answer ≡ NoEntry → commands found ≡ h.limits.entries → seen ≡ found → P)
    × ((p changes : ℕ) → answer ≡ Behind p changes → is_booking command ≡ true → h.limits.stale_after ≤ changes_after found (last_position found) →
    seen ≡ found → P)
    × (answer ≡ Unquoted → is_plain command ≡ false → is_booking command ≡ false → seen ≡ found → P)
    × ((changes : ℕ) → answer ≡ Stale changes → is_plain command ≡ false → is_booking command ≡ false → seen ≡ found → P)
    × ((reply : Reply) → answer ≡ Logged reply → P))
    → P
by_command P h found seen caller command quoted answer is k = full (commands found == h.limits.entries) refl is
  where
    same : (a : Answer) → IsRefused (diary h found) (diary h seen) answer a → seen ≡ found
    same a r = ap (λ d. d.history) r.1

    Here : Option Answer → Type 0
    Here o = MatchOption o (IsLogged (diary h found) (diary h seen) caller (Do command quoted) answer) (IsRefused (diary h found) (diary h seen) answer)

    behind : (b : Bool) → is_booking command ≡ true → nat_le h.limits.stale_after (changes_after found (last_position found)) ≡ b
        → Here (refuse_if b (Behind (last_position found) (changes_after found (last_position found)))) → P
    behind true book e r = k.1 (last_position found) (changes_after found (last_position found)) r.0 book (leb-true _ _ e) (same _ r)
    behind false book e l = k.4 l.reply l.answer_is

    stale : (n : ℕ) (b : Bool) → is_plain command ≡ false → is_booking command ≡ false → Here (refuse_if b (Stale n)) → P
    stale n true p q r = k.3 n r.0 p q (same _ r)
    stale n false p q l = k.4 l.reply l.answer_is

    quotes : (q : Option Quoted) → is_plain command ≡ false → is_booking command ≡ false → Here (quote_refusal found q) → P
    quotes None p b r = k.2 r.0 p b (same _ r)
    quotes (Some q) p b r = stale (changes_after found q.position) (nat_le 1 (changes_after found q.position)) p b r

    group : (o : Bool) → is_plain command ≡ false → is_booking command ≡ false → Here (cond o None (quote_refusal found quoted)) → P
    group true p b l = k.4 l.reply l.answer_is
    group false p b r = quotes quoted p b r

    rest : (c : Command) → c ≡ command → Here (command_refusal h found c quoted) → P
    rest (Book stay) e r = behind (nat_le h.limits.stale_after (changes_after found (last_position found))) (sym (ap is_booking e)) refl r
    rest (Group span rooms amount) e r = group (is_some (first_short (rooms_left_at h found) span rooms)) (sym (ap is_plain e)) (sym (ap is_booking e)) r
    rest (Cancel nth) e l = k.4 l.reply l.answer_is
    rest (Reforecast stay count) e l = k.4 l.reply l.answer_is
    rest (Reprice stay rate) e l = k.4 l.reply l.answer_is
    rest (Resize night rooms) e l = k.4 l.reply l.answer_is

    full : (b : Bool) → (commands found == h.limits.entries) ≡ b → Here (cond b (Some NoEntry) (command_refusal h found command quoted)) → P
    full true e r = k.0 r.0 (eqb-true (commands found) h.limits.entries e) (same _ r)
    full false e r = rest command refl r

new_house : (old new : PassState) (command : Command) (quoted : Option Quoted) (answer : Answer) → IsCalled old new (Do command quoted) answer →
    new.house ≡ old.house
new_house old new command quoted answer c = ap (λ (p : PassState). p.house) c.pass

-- it was made
pub is_made : (old new : PassState) (command : Command) (quoted : Option Quoted) (answer : Answer) → AddsCall old new (Do command quoted) answer →
    is_logged answer ≡ true → IsOutcome command old new Made
is_made old new command quoted (Logged reply) adds on = ap commands_in adds ∙ commands_push old.calls (line_of old.caller (Do command quoted) reply)
is_made old new command quoted NoEntry adds on = absurd (cc)
is_made old new command quoted (Behind p changes) adds on = absurd (cc)
is_made old new command quoted Unquoted adds on = absurd (cc)
is_made old new command quoted (Stale changes) adds on = absurd (cc)
is_made old new command quoted (LaterThere p changes) adds on = absurd (cc)
is_made old new command quoted NoneLeft adds on = absurd (cc)

-- a booking that is replied to is logged, and so is a group
pub book_logged : (r : BookReply) → is_logged (book_answer (Ok r)) ≡ true
book_logged (Booked vector sum) = refl
book_logged (RateTooLow vector sum rate) = refl
book_logged (NoRoomLeft vector sum night) = refl

pub group_logged : (r : GroupReply) → is_logged (group_answer (Ok r)) ≡ true
group_logged (GroupBooked displacement) = refl
group_logged (AmountTooLow displacement) = refl
group_logged (NoRoomsLeft night) = refl

-- a group that is not replied to is not logged
pub group_stops : (old new : PassState) (command : Command) (quoted : Option Quoted) (stop : GroupStop) →
    AddsCall old new (Do command quoted) (group_answer (Err stop)) → new.calls ≡ old.calls
group_stops old new command quoted NoGroupLeft adds = adds
group_stops old new command quoted WithoutQuote adds = adds
group_stops old new command quoted (StaleQuote changes) adds = adds

-- the pass has acted by a command, and the optimiser goes with it
pub acts_by_command : (least : ℕ) (old new : PassState) (command : Command) (quoted : Option Quoted) (answer : Answer) (o : Optimising) →
    IsCalled old new (Do command quoted) answer → GoesWith old.house old.seen o → GoesOn least old new o
acts_by_command least old new command quoted answer o c g =
    record { acted = command_acts least old new command quoted answer c; goes = goes_after old new (Do command quoted) answer o c g }

-- it has acted by two steps
pub acts_twice : (least : ℕ) (a b c : PassState) (o : Optimising) → HasActed least a b → GoesOn least b c o → GoesOn least a c o
acts_twice least a b c o first second = record { acted = acts_again least a b c first second.acted; goes = second.goes }

-- a round that found no vector left
all_vectors : (old new : PassState) (position least : ℕ) → HasOffered old new position least NoneLeft → HasAllVectors new
all_vectors old new position least o =
    let c = o.offered.called in
    let h = o.middle.house in
    let house : new.house ≡ h = ap (λ (p : PassState). p.house) c.pass in
    by_publication (HasAllVectors new)
    h c.found new.seen o.middle.caller o.offered.call position least NoneLeft o.offered.publishes o.offered.least_is c.answered (
      (λ p changes e few same. absurd (cc)),
      (λ e full same. ap vectors same ∙ full ∙ ap (λ (i : Inn). i.limits.publications) (sym house)),
      (λ r e many more. absurd (cc)),
    )

-- a try by what the round before the next one did
pub attempt_by_round : (position lead : ℕ) (old new : PassState) (r : Round) (full : Bool) (command : Command) → IsRound old new position lead r →
    full ≡ found_none_left r → IsAttempt command old new (Again full)
attempt_by_round position lead old new r full command is e = subst (λ b. IsAttempt command old new (Again b)) (sym e) (by_round r is)
  where
    by_round : (r : Round) → IsRound old new position lead r → IsAttempt command old new (Again (found_none_left r))
    by_round (Unchanged changes) is = (round_acts lead position old new (Unchanged changes) is).1
    by_round (Published number) is = (round_acts lead position old new (Published number) is).1
    by_round (Superseded p changes) is = (round_acts lead position old new (Superseded p changes) is).1
    by_round NoVectorThere is = ((round_acts lead position old new NoVectorThere is).1, all_vectors old new position lead is)

-- there is no entry left
pub is_full : (old new : PassState) (command : Command) (quoted : Option Quoted) → IsCalled old new (Do command quoted) NoEntry →
    AddsCall old new (Do command quoted) NoEntry → IsOutcome command old new HistoryFull
is_full old new command quoted c adds =
    let e = new_house old new command quoted NoEntry c in
    by_command (IsOutcome command old new HistoryFull) old.house c.found new.seen old.caller command quoted NoEntry c.answered (
      (λ is full same. (ap commands_in adds, ap commands same ∙ full ∙ ap (λ (h : Inn). h.limits.entries) (sym e))),
      (λ p n is book many same. absurd (cc)),
      (λ is p b same. absurd (cc)),
      (λ n is p b same. absurd (cc)),
      (λ r is. absurd (cc)),
    )

-- a Book that is behind, where there are as many vectors as there may be
pub is_behind : (old new : PassState) (command : Command) (quoted : Option Quoted) (p changes : ℕ) → IsCalled old new (Do command quoted) (Behind p changes) →
    AddsCall old new (Do command quoted) (Behind p changes) → HasAllVectors old → IsOutcome command old new PublicationsFull
is_behind old new command quoted p changes c adds full =
    let e = new_house old new command quoted (Behind p changes) c in
    by_command (IsOutcome command old new PublicationsFull) old.house c.found new.seen old.caller command quoted (Behind p changes) c.answered (
      (λ is none same. absurd (cc)),
      (λ q n is book many same.
          let begins : IsPrefix old.seen new.seen = subst (IsPrefix old.seen) (sym same) c.begins in
          let all : vectors new.seen ≡ old.house.limits.publications = full_lasts old.house old.seen new.seen begins c.legal full in
          let at : old.house.limits.stale_after ≤ changes_after new.seen (last_position new.seen) =
          subst (λ H. old.house.limits.stale_after ≤ changes_after H (last_position H)) (sym same) many in (
            ap commands_in adds,
            book,
            all ∙ ap (λ (h : Inn). h.limits.publications) (sym e),
            subst (λ (h : Inn). h.limits.stale_after ≤ changes_after new.seen (last_position new.seen)) (sym e) at,
          )),
      (λ is a b same. absurd (cc)),
      (λ n is a b same. absurd (cc)),
      (λ r is. absurd (cc)),
    )

-- an outcome after tries that made no command
pub outcome_after : (command : Command) (old mid new : PassState) (outcome : Outcome) → MakesNone old mid → IsOutcome command mid new outcome →
    IsOutcome command old new outcome
outcome_after command old mid new Made none o = o ∙ ap (λ l. l ++ command ∷ []) none
outcome_after command old mid new HistoryFull none o = (o.0 ∙ none, o.1)
outcome_after command old mid new PublicationsFull none o = (o.0 ∙ none, o.1, o.2, o.3)
outcome_after command old mid new Memory none o = o ∙ none

-- counts in a longer history
counts_on : (p : Line → Bool) (G rest : History) → count_by p G ≤ count_by p (G ++ rest)
counts_on p G [] = let e = ap (count_by p) (append-nil G) in omega (arith, e)
counts_on p G (x ∷ rest) =
    let e = ap (count_by p) (append_assoc G (x ∷ []) rest) in
    let one = count-push p G x in
    let le = counts_on p (G ++ x ∷ []) rest in
    omega (arith, e, one, le)

count_parts : (p : Line → Bool) (G rest : History) → count_by p (G ++ rest) ≡ count_by p G + count_by p rest
count_parts p [] rest = let e : 0 + count_by p rest ≡ count_by p rest = omega arith in sym e
count_parts p (x ∷ G) rest = omega (arith, count_parts p G rest, sum_by-cons (λ y. cond (p y) 1 0) x G, sum_by-cons (λ y. cond (p y) 1 0) x (G ++ rest))

none_counted : (p : Line → Bool) (xs : History) → count_by p xs ≡ 0 → list_any p xs ≡ false
none_counted p [] e = refl
none_counted p (x ∷ xs) e = go (none_counted p xs) (p x) refl
  where
    go : (count_by p xs ≡ 0 → list_any p xs ≡ false) → (b : Bool) → p x ≡ b → (p x || list_any p xs) ≡ false
    go on true t = absurd (let f = ap (λ (b : Bool). cond {A = ℕ} b 1 0) t in omega (arith, e, f, sum_by-cons (λ y. cond (p y) 1 0) x xs))
    go on false t = ap (λ b. b || list_any p xs) t ∙ on (omega (arith, e, sum_by-cons (λ y. cond (p y) 1 0) x xs))

-- so many changes stand after the last vector, where none was published since
still_stale : (G rest : History) (many : ℕ) → list_any is_publish rest ≡ false → many ≤ changes_after G (last_position G) →
    many ≤ changes_after (G ++ rest) (last_position (G ++ rest))
still_stale G rest many none before = dite (dec_lt (changes_after (G ++ rest) (last_position (G ++ rest))) many)
    (λ fewer. absurd (let e : false ≡ true = sym none ∙ vector_between G rest many before fewer in cc))
    (λ no. omega (arith, no))

-- a stop that holds of what was seen holds later
pub stop_later : (h : Inn) (cs : List Command) (G H : History) (done : ℕ) (stop : Stop) → IsPrefix G H → IsLegal h H → IsStop h cs G done stop →
    IsStop h cs H done stop
stop_later h cs G H done Finished begins legal s = s
stop_later h cs G H done NoEntryLeft (rest, is) legal s =
    let more : commands G ≤ commands H = subst (λ K. commands G ≤ commands K) (sym is) (counts_on is_command G rest) in
    let most = commands_fit h H legal in
    let e = s.1 in
    (s.0, omega (arith, more, most, e))
stop_later h cs G H done NoVectorLeft (rest, is) legal s =
    let all : vectors H ≡ h.limits.publications = full_lasts h G H (rest, is) legal s.2 in
    let few = s.2 in
    let n = ap vectors is in
    let none : count_by is_publish rest ≡ 0 = omega (arith, all, few, n, count_parts is_publish G rest) in (
      s.0,
      s.1,
      all,
      subst (λ K. h.limits.stale_after ≤ changes_after K (last_position K)) (sym is)
          (still_stale G rest h.limits.stale_after (none_counted is_publish rest none) s.3),
    )
stop_later h cs G H done NoMemory begins legal s = s

-- one command more of the list
pub made_more : (cs : List Command) (first : List Command) (done : ℕ) (command : Command) (old new : List Command) → done < length cs →
    command ≡ slice_index_or cs done command → old ≡ first ++ take done cs → new ≡ old ++ command ∷ []
    → new ≡ first ++ take (done + 1) cs
made_more cs first done command old new lt is before more =
    more ∙ ap (λ l. l ++ command ∷ []) before ∙ append_assoc first (take done cs) (command ∷ [])
    ∙ ap (λ l. first ++ l) (ap (λ k. take done cs ++ k ∷ []) is ∙ sym (take_more cs done command lt))

-- a session that has made its commands leaves
pub session_done : (lead : ℕ) (cs : List Command) (pass mid left : PassState) (done : ℕ) (stop : Stop) → HasActed lead pass mid →
    commands_in mid.calls ≡ commands_in pass.calls ++ take done cs → IsStop mid.house cs mid.seen done stop
    → IsCalled mid left Leave (Logged Done) → AddsCall mid left Leave (Logged Done) → IsSession lead cs pass left done stop
session_done lead cs pass mid left done stop acted made stops c adds =
    let leave = call_acts lead mid left Leave (Logged Done) c (λ r e t. absurd (cc)) in
    let later : IsStop mid.house cs left.seen done stop = stop_later mid.house cs mid.seen left.seen done stop leave.begins c.legal stops in
    record {
      acted = acts_again lead pass mid left acted leave;
      made = ap commands_in adds ∙ commands_push mid.calls (line_of mid.caller Leave Done) ∙ append-nil (commands_in mid.calls) ∙ made;
      earlier = mid.calls;
      last = adds ∙ ap (λ n. mid.calls ++ line_of n Leave Done ∷ []) acted.caller;
      stops = subst (λ (h : Inn). IsStop h cs left.seen done stop) (sym leave.house) later;
    }

pub attempt_after : (command : Command) (old mid new : PassState) (attempt : Attempt) → MakesNone old mid → IsAttempt command mid new attempt →
    IsAttempt command old new attempt
attempt_after command old mid new (Ended outcome) none a = outcome_after command old mid new outcome none a
attempt_after command old mid new (Again true) none a = (a.0 ∙ none, a.1)
attempt_after command old mid new (Again false) none a = a ∙ none

pub again_none : (command : Command) (old new : PassState) (full : Bool) → IsAttempt command old new (Again full) → MakesNone old new
again_none command old new true a = a.0
again_none command old new false a = a

pub again_full : (command : Command) (old new : PassState) (full : Bool) → IsAttempt command old new (Again full) → full ≡ true → HasAllVectors new
again_full command old new true a e = a.1
again_full command old new false a e = absurd (cc)

-- the span of a Group is one of the optimiser's program
pub group_span : (house : Inn) (seen : History) (o : Optimising) (span : Span) (rooms amount : ℕ) → GoesWith house seen o →
    IsTrue (is_command_in_range house (Group span rooms amount))
    → (span.from < span.to) × (span.to ≤ length o.solver.flow.program.rooms)
group_span house seen o span rooms amount goes range =
    let parts = and_parts _ _ range in
    let two = and_parts _ _ parts.0 in
    let nights : length o.solver.flow.program.rooms ≡ length house.rooms = ap (λ p. length p.rooms) goes.program ∙
    length-map-range_with_len (units_left_at house (take o.position seen)) 0 (length house.rooms) in
    (ltb-true _ _ two.0, subst (λ n. span.to ≤ n) (sym nights) (leb-true _ _ two.1))

pub made_on : (cs : List Command) (first : List Command) (done : ℕ) (command : Command) (old new : PassState) (outcome : Outcome) → done < length cs →
    command ≡ slice_index_or cs done command → commands_in old.calls ≡ first ++ take done cs
    → IsOutcome command old new outcome → outcome ≡ Made → commands_in new.calls ≡ first ++ take (done + 1) cs
made_on cs first done command old new outcome lt is before o made =
    let here : IsOutcome command old new Made = subst (IsOutcome command old new) made o in
    made_more cs first done command (commands_in old.calls) (commands_in new.calls) lt is before here
