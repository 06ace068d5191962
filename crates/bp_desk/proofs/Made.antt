-- A call that was made at a turn: what it leaves of the seat, and what it says.
use Rattle.std.proofs.Common.{◌≡◌, ℕ, true, false, [], ◌∷◌, ◌++◌, length, Some, unwrap_or, refl, sym, ap, subst, ◌∙◌}
use Rattle.bp_types.specs.House.{Inn}
use Rattle.bp_turn.specs.Seat.{SeatState}
use Rattle.bp_core.specs.declared.line.Line.{Line}
use Rattle.bp_core.specs.declared.call.Call.{Call}
use Rattle.bp_core.specs.declared.call.Answer.{Answer}
use Rattle.bp_core.specs.declared.call.Answer.TheVariants.{Logged, HistoryFull, Behind, Unquoted, Stale, Superseded, PublicationsFull}
use Rattle.bp_core.specs.Lines.{History, calls}
use Rattle.bp_core.specs.Legal.{IsLegal}
use Rattle.bp_core.specs.Acting.{Diary, MayCall, IsAnswered, line_of}
use Rattle.bp_desk.specs.Passes.{house_of, pass_of, no_house, IsIdle}
use Rattle.bp_desk.specs.Calling.{MayMake, IsCalled, AddsCall, HasTurn, diary, is_logged}
use Rattle.bp_desk.proofs.Growing.{may_make_later}
use Rattle.bp_desk.proofs.Answered.{by_answer, logged_adds, refused_keeps, calls_push}

abbrev pub State : Type 0
State = SeatState Inn Line

abbrev pub at_turn : State → History → State
at_turn s H = record s { seen = H; has_turn = true; turns = s.turns ++ length H ∷ [] }

-- the seat after the turn
abbrev pub past : State → History → History → State
past s found seen = record s { seen = seen; own = calls seen s.number; has_turn = false; turns = s.turns ++ length found ∷ [] }

pub house_is : (s : State) (h : Inn) → s.fixed ≡ Some h → house_of s ≡ h
house_is s h is = ap (λ o. unwrap_or o no_house) is

pub may_call : (s mid : State) (b : Diary) (caller : ℕ) (call : Call) → HasTurn s mid b → s.number ≡ caller → MayMake (house_of s) s.seen s.number call →
    MayCall b caller call
may_call s mid b caller call turn number may =
    let later : MayMake (house_of s) b.history s.number call =
    may_make_later (house_of s) s.seen b.history s.number call turn.begins (turn.before ∙ sym turn.own) may in
    let here : MayMake b.house b.history caller call =
    subst (λ h. MayMake h b.history caller call) (house_is s b.house turn.fixed) (subst (λ n. MayMake (house_of s) b.history n call) number later) in
    record { caller_may = here.caller_may; in_range = here.in_range; is_right = here.is_right }

pub after_house : (b after : Diary) (caller : ℕ) (call : Call) (answer : Answer) → IsAnswered b after caller call answer → after.house ≡ b.house
after_house b after caller call answer is =
    by_answer b after caller call answer (after.house ≡ b.house) is (λ l. ap (λ d. d.house) l.adds) (λ _ same. ap (λ d. d.house) same)

answered_for : (h : Inn) (b after : Diary) (caller number : ℕ) (call : Call) (answer : Answer) → h ≡ b.house → number ≡ caller →
    IsAnswered b after caller call answer →
    IsAnswered (diary h b.history) (diary h after.history) number call answer
answered_for h b after caller number call answer house same is =
    let e : after ≡ diary b.house after.history = ap (λ k. diary k after.history) (after_house b after caller call answer is) in
    let here : IsAnswered (diary b.house b.history) (diary b.house after.history) caller call answer = subst (λ d. IsAnswered b d caller call answer) e is in
    subst (λ k. IsAnswered (diary k b.history) (diary k after.history) number call answer) (sym house)
    (subst (λ n. IsAnswered (diary b.house b.history) (diary b.house after.history) n call answer) (sym same) here)

-- the house of a seat is that of the book, which stays as it is
pub house_after : (s mid : State) (b after : Diary) (caller : ℕ) (call : Call) (answer : Answer) → HasTurn s mid b → IsAnswered b after caller call answer →
    after.house ≡ house_of s
house_after s mid b after caller call answer turn is = after_house b after caller call answer is ∙ sym (house_is s b.house turn.fixed)

pub called : (s mid new : State) (b after : Diary) (caller : ℕ) (call : Call) (answer : Answer) → HasTurn s mid b → s.number ≡ caller →
    IsAnswered b after caller call answer →
    IsLegal after.house after.history → new ≡ past s b.history after.history → IsCalled (pass_of s) (pass_of new) call answer
called s mid new b after caller call answer turn number is legal at =
    let P : State → Type 0 = λ t. IsCalled (pass_of s) (pass_of t) call answer in
    let here : P (past s b.history after.history) = record {
      found = b.history;
      begins = turn.begins;
      own = turn.own;
      answered = answered_for (house_of s) b after caller s.number call answer (house_is s b.house turn.fixed) number is;
      pass = refl;
      legal = subst (λ h. IsLegal h after.history) (house_after s mid b after caller call answer turn is) legal;
    } in
    subst P (sym at) here

pub idle_again : (s mid new : State) (b after : Diary) (caller : ℕ) (call : Call) (answer : Answer) → HasTurn s mid b → IsAnswered b after caller call answer →
    IsLegal after.house after.history → new ≡ past s b.history after.history → IsIdle new
idle_again s mid new b after caller call answer turn is legal at =
    subst IsIdle (sym at) (record {
      idle = refl;
      house = turn.fixed ∙ ap (λ (h : Inn). Some h) (sym (house_is s b.house turn.fixed));
      legal = subst (λ h. IsLegal h after.history) (house_after s mid b after caller call answer turn is) legal;
    })

-- what a turn leaves where nothing was logged
pub past_refused : (s mid new : State) (b after : Diary) (caller : ℕ) (call : Call) (answer : Answer) → HasTurn s mid b →
    IsAnswered b after caller call answer → is_logged answer ≡ false →
    new ≡ record mid { has_turn = false } → new ≡ past s b.history after.history
past_refused s mid new b after caller call answer turn is off given =
    let same : after ≡ b = refused_keeps b after caller call answer is off in
    given ∙ ap (λ (m : State). record m { has_turn = false }) turn.seat ∙
    ap (λ (o : History). record (at_turn s b.history) { own = o; has_turn = false }) (sym turn.own)
    ∙ ap (λ (d : Diary). past s b.history d.history) (sym same)

-- what a turn leaves where the call was logged
pub past_logged : (s mid new : State) (b after : Diary) (caller : ℕ) (call : Call) (answer : Answer) → HasTurn s mid b → s.number ≡ caller →
    IsAnswered b after caller call answer → is_logged answer ≡ true →
    ((e : Line) → after.history ≡ mid.seen ++ e ∷ [] → new ≡ record mid { seen = mid.seen ++ e ∷ []; own = mid.own ++ e ∷ []; has_turn = false }) →
    new ≡ past s b.history after.history
past_logged s mid new b after caller call answer turn number is on given =
    let l = logged_adds b after caller call answer is on in
    let e = line_of caller call l.reply in
    let adds : after.history ≡ b.history ++ e ∷ [] = ap (λ (d : Diary). d.history) l.adds in
    let seen : mid.seen ≡ b.history = ap (λ (m : State). m.seen) turn.seat in
    let pushed : calls (b.history ++ e ∷ []) s.number ≡ s.own ++ e ∷ [] =
    subst (λ n. calls (b.history ++ e ∷ []) n ≡ calls b.history n ++ e ∷ []) (sym number) (calls_push b.history caller call l.reply) ∙
    ap (λ (o : History). o ++ e ∷ []) turn.own in
    given e (adds ∙ ap (λ (H : History). H ++ e ∷ []) (sym seen))
    ∙ ap (λ (m : State). record m { seen = m.seen ++ e ∷ []; own = m.own ++ e ∷ []; has_turn = false }) turn.seat
    ∙ ap (λ (o : History). record (at_turn s b.history) { seen = b.history ++ e ∷ []; own = o; has_turn = false }) (sym pushed)
    ∙ ap (past s b.history) (sym adds)

-- the story that is given back is longer by the line of the call
pub story_more : (s mid : State) (b after : Diary) (caller : ℕ) (call : Call) (answer : Answer) → HasTurn s mid b → s.number ≡ caller →
    IsAnswered b after caller call answer → is_logged answer ≡ true →
    (x : Line) × (after.history ≡ mid.seen ++ x ∷ []) × (x.entry.caller ≡ mid.number)
story_more s mid b after caller call answer turn number is on =
    let l = logged_adds b after caller call answer is on in
    let e = line_of caller call l.reply in (
      e,
      ap (λ (d : Diary). d.history) l.adds ∙ ap (λ (H : History). H ++ e ∷ []) (sym (ap (λ (m : State). m.seen) turn.seat)),
      sym number ∙
          sym (ap (λ (m : State). m.number) turn.seat),
    )

-- the caller's own calls
pub adds_call : (s mid new : State) (b after : Diary) (caller : ℕ) (call : Call) (answer : Answer) → HasTurn s mid b → s.number ≡ caller →
    IsAnswered b after caller call answer →
    new ≡ past s b.history after.history → AddsCall (pass_of s) (pass_of new) call answer
adds_call s mid new b after caller call answer turn number is at = by_answer b after caller call answer (AddsCall (pass_of s) (pass_of new) call answer) is
    (λ l.
    let e = line_of s.number call l.reply in
    let same : line_of caller call l.reply ≡ e = ap (λ n. line_of n call l.reply) (sym number) in
    let seen : after.history ≡ b.history ++ e ∷ [] = ap (λ (d : Diary). d.history) l.adds ∙ ap (λ x. b.history ++ x ∷ []) same in
    let own_new : new.own ≡ s.own ++ e ∷ [] = ap (λ (t : State). t.own) at ∙ ap (λ (H : History). calls H s.number) seen ∙
    calls_push b.history s.number call l.reply ∙ ap (λ (o : History). o ++ e ∷ []) turn.own in
    subst (AddsCall (pass_of s) (pass_of new) call) (sym l.answer_is) own_new)
    (λ off same. plain answer off (ap (λ (t : State). t.own) at ∙ ap (λ (d : Diary). calls d.history s.number) same ∙ turn.own))
  where
    plain : (a : Answer) → is_logged a ≡ false → new.own ≡ s.own → AddsCall (pass_of s) (pass_of new) call a
    plain (Logged reply) off same = absurd (cc)
    plain HistoryFull off same = same
    plain (Behind position changes) off same = same
    plain Unquoted off same = same
    plain (Stale changes) off same = same
    plain (Superseded position changes) off same = same
    plain PublicationsFull off same = same
