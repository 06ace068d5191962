-- How the turns of a worker are settled.
use Rattle.std.proofs.Common.{
  ◌≡◌,
  ◌⊎◌,
  inl,
  inr,
  ℕ,
  ◌<◌,
  ◌≤◌,
  Bool,
  true,
  false,
  ◌||◌,
  cond,
  List,
  [],
  ◌∷◌,
  ◌++◌,
  length,
  take,
  count_by,
  All,
  is_some,
  refl,
  sym,
  ap,
  subst,
  ◌∙◌,
  arith,
  append-nil,
  append_assoc,
  length-append,
}
use Rattle.std.specs.List.{list_any, range_with_len}
use Rattle.std.proofs.Math.Seq.{take-length}
use Rattle.std.proofs.lemmas.List.{take-append-le}
use Rattle.std.proofs.lemmas.List.Elements.{All-append, All-nil, All-cons, All-weaker}
use Rattle.std.proofs.lemmas.List.Folds.{list_any-append}
use Rattle.std.proofs.lemmas.List.FromFn.{length-range_with_len}
use Rattle.std.proofs.lemmas.List.Sums.{count_by-le-length, sum_by-cons}
use Rattle.bp_types.specs.House.{Inn}
use Rattle.bp_turn.specs.Prefix.{IsPrefix}
use Rattle.bp_core.specs.declared.line.Reply.{Reply}
use Rattle.bp_core.specs.declared.line.Reply.TheVariants.{Done, Vector}
use Rattle.bp_core.specs.declared.call.Call.TheVariants.{Leave}
use Rattle.bp_core.specs.declared.call.Answer.{Answer}
use Rattle.bp_core.specs.declared.call.Answer.TheVariants.{Logged, Superseded as LaterThere, PublicationsFull as NoneLeft}
use Rattle.bp_core.specs.Lines.{History, is_publish, last_position, published_position, vectors}
use Rattle.bp_core.specs.Callers.{has_left, is_leave_by}
use Rattle.bp_core.specs.Changes.{changes_after}
use Rattle.bp_core.specs.Acting.{line_of}
use Rattle.bp_core.specs.Legal.{IsLegal}
use Rattle.bp_core.proofs.Pushes.{count-push}
use Rattle.bp_core.proofs.Counts.{vectors_fit}
use Rattle.bp_desk.specs.Passes.{PassState}
use Rattle.bp_desk.specs.Calling.{HasRead, IsCalled, AddsCall, diary}
use Rattle.bp_desk.proofs.Answered.{by_answer}
use Rattle.bp_optimise.specs.declared.round.Round.{Round}
use Rattle.bp_optimise.specs.declared.round.Round.TheVariants.{Unchanged, Published, Superseded, PublicationsFull}
use Rattle.bp_optimise.specs.Following.{HasLooked}
use Rattle.bp_optimise.specs.Rounds.{HasOffered, IsRound, is_superseded}
use Rattle.bp_optimise.proofs.Leading.{prefix_le, adds_turns, turns_later, looked, looked_again}
use Rattle.bp_core.specs.Counting.{IsFollowed}
use Rattle.bp_core.proofs.Vectors.{turns_settle}
use Rattle.bp_optimise.specs.Acts.{HasActed, commands_in}
use Rattle.bp_optimise.specs.Works.{HaveLeft, IsSettledTurn, AddsSettled, IsWork}
use Rattle.bp_optimise.specs.Stepping.{SettlesAll, IsStep}
use Rattle.bp_optimise.specs.declared.worker.Next.TheVariants.{Leaves, Rounds}
use Rattle.bp_optimise.proofs.Doing.{NoCommand, look_acts, acts_again, offer_acts, call_acts, by_publication, commands_push}

-- sessions that have left
or_first : (a b : Bool) → a ≡ true → (a || b) ≡ true
or_first true b e = refl
or_first false b e = absurd (cc)

fewer_by : (p q : ℕ → Bool) → ((n : ℕ) → p n ≡ true → q n ≡ true) → (xs : List ℕ) → count_by p xs ≤ count_by q xs
fewer_by p q only [] = omega arith
fewer_by p q only (x ∷ xs) =
    let rest = fewer_by p q only xs in
    let one = by_test (p x) (q x) (only x) in
    omega (arith, rest, one, sum_by-cons (λ y. cond (p y) 1 0) x xs, sum_by-cons (λ y. cond (q y) 1 0) x xs)
  where
    by_test : (a b : Bool) → (a ≡ true → b ≡ true) → cond {A = ℕ} a 1 0 ≤ cond {A = ℕ} b 1 0
    by_test false b only = omega arith
    by_test true true only = omega arith
    by_test true false only = absurd (let e = only refl in cc)

pub left_grows : (G H : History) (sessions : ℕ) → IsPrefix G H → HaveLeft G sessions → HaveLeft H sessions
left_grows G H sessions (rest, is) left =
    let only : (c : ℕ) → has_left G c ≡ true → has_left H c ≡ true = λ c did. ap (list_any (is_leave_by c)) is ∙ list_any-append (is_leave_by c) G rest ∙
    or_first (has_left G c) (list_any (is_leave_by c) rest) did in
    let more = fewer_by (has_left G) (has_left H) only (range_with_len 1 sessions) in
    let most = count_by-le-length (has_left H) (range_with_len 1 sessions) in
    omega (arith, left, more, most, length-range_with_len 1 sessions)

vectors_on : (G rest : History) → vectors G ≤ vectors (G ++ rest)
vectors_on G [] = let e = ap vectors (append-nil G) in omega (arith, e)
vectors_on G (x ∷ rest) =
    let e = ap vectors (append_assoc G (x ∷ []) rest) in
    let one = count-push is_publish G x in
    let le = vectors_on (G ++ x ∷ []) rest in
    omega (arith, e, one, le)

-- there are as many vectors as there may be, and so it stays
pub full_lasts : (h : Inn) (G H : History) → IsPrefix G H → IsLegal h H → vectors G ≡ h.limits.publications → vectors H ≡ h.limits.publications
full_lasts h G H (rest, is) legal full =
    let more : vectors G ≤ vectors H = subst (λ K. vectors G ≤ vectors K) (sym is) (vectors_on G rest) in
    let most = vectors_fit h H legal in
    omega (arith, more, most, full)

take_on : (G H : History) (t : ℕ) → IsPrefix G H → t ≤ length G → take t H ≡ take t G
take_on G H t (rest, is) le = ap (take t) is ∙ take-append-le t G rest le

-- a turn that is settled stays so
pub settled_later : (h : Inn) (sessions lead : ℕ) (G H : History) (t : ℕ) → t ≤ length G → IsPrefix G H → IsLegal h H → IsSettledTurn h sessions lead G t →
    IsSettledTurn h sessions lead H t
settled_later h sessions lead G H t le begins legal settled not_left many =
    let e = take_on G H t begins le in
    keep (settled (λ left. not_left (subst (λ K. HaveLeft K sessions) (sym e) left)) (subst (λ K. lead ≤ changes_after K (last_position K)) e many))
  where
    keep : IsFollowed G t ⊎ (vectors G ≡ h.limits.publications) → IsFollowed H t ⊎ (vectors H ≡ h.limits.publications)
    keep (inl f) = inl (subst (λ K. IsFollowed K t) (sym begins.1) (turns_settle.lasts G begins.0 t le f))
    keep (inr v) = inr (full_lasts h G H begins legal v)

-- one turn more, at which all sessions had left
pub settled_more : (sessions lead : ℕ) (a b c : PassState) (t : ℕ) → AddsSettled sessions lead a b → IsPrefix b.seen c.seen → c.house ≡ b.house →
    IsLegal b.house c.seen → c.turns ≡ b.turns ++ t ∷ []
    → t ≤ length c.seen → HaveLeft (take t c.seen) sessions → AddsSettled sessions lead a c
settled_more sessions lead a b c t s begins house legal turns le left =
    let P : ℕ → Type 0 = IsSettledTurn b.house sessions lead c.seen in
    let old : All P s.added = λ i d lt. settled_later b.house sessions lead b.seen c.seen _ (s.within i d lt) begins legal (s.settled i d lt) in
    let here : P t = λ not_left many. absurd (not_left left) in
    let both : All P (s.added ++ t ∷ []) = All-append P s.added (t ∷ []) old (All-cons P t [] here (All-nil P)) in
    record {
      added = s.added ++ t ∷ [];
      turns = turns ∙ ap (λ l. l ++ t ∷ []) s.turns ∙ append_assoc a.turns s.added (t ∷ []);
      within = All-append (λ n. n ≤ length c.seen) s.added (t ∷ [])
          (turns_later (length b.seen) (length c.seen) s.added (prefix_le b.seen c.seen begins) s.within)
          (All-cons (λ n. n ≤ length c.seen) t [] le (All-nil (λ n. n ≤ length c.seen)));
      settled = subst (λ h. All (IsSettledTurn h sessions lead c.seen) (s.added ++ t ∷ [])) (sym house) both;
    }

-- a round that finds too few changes settles all turns so far
pub unchanged_settles : (sessions lead changes : ℕ) (old new : PassState) → HasRead old new → changes ≡ changes_after new.seen (last_position new.seen) →
    changes < lead → SettlesAll sessions lead old new
unchanged_settles sessions lead changes old new read is few start added =
    let a = adds_turns start old new read.begins added (looked old new read).turns in
    let fewer : changes_after new.seen (last_position new.seen) < lead = subst (λ n. n < lead) is few in
    record {
      added = a.0;
      turns = a.1;
      within = a.2;
      settled = All-weaker (λ t. t ≤ length new.seen) (IsSettledTurn new.house sessions lead new.seen)
          (λ t le. λ not_left many. inl (turns_settle.unchanged new.seen lead t le fewer many)) a.0 a.2;
    }

-- a board that was not superseded settles all turns so far
pub offered_settles : (sessions lead position : ℕ) (old new : PassState) (answer : Answer) → HasOffered old new position lead answer →
    ((p changes : ℕ) → answer ≡ LaterThere p changes → ⊥) → SettlesAll sessions lead old new
offered_settles sessions lead position old new answer o newer start added =
    let c = o.offered.called in
    let h = o.middle.house in
    let first = adds_turns start old o.first o.looked.begins added (looked old o.first o.looked).turns in
    let middle = adds_turns start o.first o.middle o.between.begins first o.between.turns in
    let turns : new.turns ≡ o.middle.turns ++ length c.found ∷ [] = ap (λ (p : PassState). p.turns) c.pass in
    let house : new.house ≡ h = ap (λ (p : PassState). p.house) c.pass in
    let all : List ℕ = middle.0 ++ length c.found ∷ [] in
    let B : ℕ → Type 0 = λ t. t ≤ length c.found in
    let within : All B all =
    All-append B middle.0 (length c.found ∷ [])
    (turns_later (length o.middle.seen) (length c.found) middle.0 (prefix_le o.middle.seen c.found c.begins) middle.2)
    (All-cons B (length c.found) [] (omega arith) (All-nil B)) in
    let grown : length c.found ≤ length new.seen =
    by_answer (diary h c.found) (diary h new.seen) o.middle.caller o.offered.call answer (length c.found ≤ length new.seen) c.answered
    (λ l. let n = ap (λ d. length d.history) l.adds in omega (arith, n, length-append c.found (line_of o.middle.caller o.offered.call l.reply ∷ [])))
    (λ off same. let n = ap (λ d. length d.history) same in omega (arith, n)) in
    let each : (t : ℕ) → t ≤ length c.found →
    IsSettledTurn h sessions lead new.seen t =
    by_publication ((t : ℕ) → t ≤ length c.found →
    IsSettledTurn h sessions lead new.seen t)
    h c.found new.seen o.middle.caller o.offered.call position lead answer o.offered.publishes o.offered.least_is c.answered (
      (λ p changes e few same. absurd (newer p changes e)),
      (λ e full same t le not_left many. inr (ap vectors same ∙ full)),
      (λ reply e enough more t le not_left many.
          let x = line_of o.middle.caller o.offered.call reply in
          let publishes : is_publish x ≡ true = ap (λ a. is_some (published_position a)) o.offered.publishes in
          inl (subst (λ H. IsFollowed H t) (sym more) (turns_settle.published c.found x t le publishes))),
    ) in
    record {
      added = all;
      turns = turns ∙ ap (λ l. l ++ length c.found ∷ []) middle.1 ∙ append_assoc start.turns middle.0 (length c.found ∷ []);
      within = turns_later (length c.found) (length new.seen) all grown within;
      settled = subst (λ k. All (IsSettledTurn k sessions lead new.seen) all) (sym house)
          (All-weaker B (IsSettledTurn h sessions lead new.seen) each all within);
    }

pub offered_acts : (least position : ℕ) (old new : PassState) (answer : Answer) → HasOffered old new position least answer →
    HasActed least old new × NoCommand old new
offered_acts least position old new answer o =
    let look : HasLooked old o.middle = looked_again old o.first o.middle (looked old o.first o.looked) o.between in
    let at = o.caught_up in
    let le = prefix_le o.first.seen o.middle.seen o.between.begins in
    let two = offer_acts least position o.middle new answer o.offered (omega (arith, at, le)) in
    (acts_again least old o.middle new (look_acts least old o.middle look) two.0, two.1 ∙ ap commands_in look.calls)

pub round_acts : (least position : ℕ) (old new : PassState) (r : Round) → IsRound old new position least r → HasActed least old new × NoCommand old new
round_acts least position old new (Unchanged changes) r = let l = looked old new r.0 in (look_acts least old new l, ap commands_in l.calls)
round_acts least position old new (Published number) r = offered_acts least position old new (Logged (Vector number)) r
round_acts least position old new (Superseded p changes) r = offered_acts least position old new (LaterThere p changes) r
round_acts least position old new PublicationsFull r = offered_acts least position old new NoneLeft r

-- a worker that has made its rounds leaves
pub work_done : (sessions lead : ℕ) (pass mid left : PassState) (memory : Bool) → HasActed lead pass mid → NoCommand pass mid →
    (memory ≡ false → HaveLeft mid.seen sessions) → (memory ≡ false → AddsSettled sessions lead pass mid)
    → IsCalled mid left Leave (Logged Done) → AddsCall mid left Leave (Logged Done) → IsWork sessions lead pass left memory
work_done sessions lead pass mid left memory acted none sessions_left settled c adds =
    let l = c.answered in
    let reply : l.reply ≡ Done = cc_reply l.reply l.answer_is in
    let line : line_of mid.caller Leave l.reply ≡ line_of pass.caller Leave Done = ap (λ r. line_of mid.caller Leave r) reply ∙
    ap (λ n. line_of n Leave Done) acted.caller in
    let seen : left.seen ≡ c.found ++ line_of pass.caller Leave Done ∷ [] = ap (λ d. d.history) l.adds ∙ ap (λ x. c.found ++ x ∷ []) line in
    let turns : left.turns ≡ mid.turns ++ length c.found ∷ [] = ap (λ (p : PassState). p.turns) c.pass in
    let house : left.house ≡ mid.house = ap (λ (p : PassState). p.house) c.pass in
    let begins : IsPrefix mid.seen left.seen = (
      c.begins.0 ++ line_of pass.caller Leave Done ∷ [],
      seen ∙ ap (λ l. l ++ line_of pass.caller Leave Done ∷ []) c.begins.1 ∙
          append_assoc mid.seen c.begins.0 (line_of pass.caller Leave Done ∷ []),
    ) in
    let taken : take (length c.found) left.seen ≡ c.found = ap (take (length c.found)) seen ∙
    take-append-le (length c.found) c.found (line_of pass.caller Leave Done ∷ []) (omega arith) ∙ take-length c.found in
    let n = ap length seen in
    record {
      acted = acts_again lead pass mid left acted (call_acts lead mid left Leave (Logged Done) c (λ r e t. absurd (cc)));
      no_command = ap commands_in adds ∙ commands_push mid.calls (line_of mid.caller Leave Done) ∙ append-nil (commands_in mid.calls) ∙ none;
      before = c.found;
      leaves = seen;
      earlier = mid.calls;
      last = adds ∙ ap (λ n. mid.calls ++ line_of n Leave Done ∷ []) acted.caller;
      sessions_left = λ m. left_grows mid.seen c.found sessions c.begins (sessions_left m);
      settled = λ m. settled_more sessions lead pass mid left (length c.found) (settled m) begins house c.legal turns
          (omega (arith, n, length-append c.found (line_of pass.caller Leave Done ∷ [])))
          (subst (λ K. HaveLeft K sessions) (sym taken) (left_grows mid.seen c.found sessions c.begins (sessions_left m)));
    }
  where
    cc_reply : (r : Reply) → Logged Done ≡ Logged r → r ≡ Done
    cc_reply r e = cc

-- with a read before
pub settles_after : (sessions lead : ℕ) (old mid new : PassState) → HasRead old mid → SettlesAll sessions lead mid new → SettlesAll sessions lead old new
settles_after sessions lead old mid new read settles start added = settles start (adds_turns start old mid read.begins added (looked old mid read).turns)

-- no turn at all
pub settled_none : (sessions lead : ℕ) (p : PassState) → AddsSettled sessions lead p p
settled_none sessions lead p =
    record {
      added = [];
      turns = sym (append-nil p.turns);
      within = All-nil (λ t. t ≤ length p.seen);
      settled =
          All-nil (IsSettledTurn p.house sessions lead p.seen);
    }

-- a round that was not superseded settles all turns so far
pub round_settles : (sessions lead position : ℕ) (old new : PassState) (r : Round) → IsRound old new position lead r →
    ((p changes : ℕ) → r ≡ Superseded p changes → ⊥) → SettlesAll sessions lead old new
round_settles sessions lead position old new (Unchanged changes) r newer = unchanged_settles sessions lead changes old new r.0 r.1 r.2
round_settles sessions lead position old new (Published number) r newer =
    offered_settles sessions lead position old new (Logged (Vector number)) r (λ p changes e. absurd (cc))
round_settles sessions lead position old new (Superseded q more) r newer = absurd (newer q more refl)
round_settles sessions lead position old new PublicationsFull r newer = offered_settles sessions lead position old new NoneLeft r (λ p changes e. absurd (cc))

-- a step by what its round did
pub step_by_round : (sessions lead position : ℕ) (was again : Bool) (old mid new : PassState) (r : Round) → HasRead old mid →
    IsRound mid new position lead r → again ≡ is_superseded r → IsStep sessions lead was old new (Rounds again)
step_by_round sessions lead position was again old mid new r read is e = subst (λ b. IsStep sessions lead was old new (Rounds b)) (sym e) (by_round r is)
  where
    by_round : (r : Round) → IsRound mid new position lead r → IsStep sessions lead was old new (Rounds (is_superseded r))
    by_round (Unchanged changes) is =
        settles_after sessions lead old mid new read (round_settles sessions lead position mid new (Unchanged changes) is (λ p n e. absurd (cc)))
    by_round (Published number) is =
        settles_after sessions lead old mid new read (round_settles sessions lead position mid new (Published number) is (λ p n e. absurd (cc)))
    by_round (Superseded p changes) is = tt
    by_round PublicationsFull is =
        settles_after sessions lead old mid new read (round_settles sessions lead position mid new PublicationsFull is (λ p n e. absurd (cc)))

pub settles_on : (sessions lead : ℕ) (was again : Bool) (old new : PassState) → IsStep sessions lead was old new (Rounds again) → again ≡ false →
    SettlesAll sessions lead old new
settles_on sessions lead was true old new s e = absurd (cc)
settles_on sessions lead was false old new s e = s

-- the look at which all sessions had left
pub leaves_settled : (sessions lead : ℕ) (was : Bool) (first old new : PassState) → IsStep sessions lead was old new Leaves →
    (was ≡ false → AddsSettled sessions lead first old) → AddsSettled sessions lead first new
leaves_settled sessions lead was first old new s settled =
    let r = s.1 in
    settled_more sessions lead first old new (length new.seen) (settled s.0) r.begins (ap (λ (p : PassState). p.house) r.pass) r.legal
    (ap (λ (p : PassState). p.turns) r.pass) (omega arith)
    (subst (λ K. HaveLeft K sessions) (sym (take-length new.seen)) s.2)
