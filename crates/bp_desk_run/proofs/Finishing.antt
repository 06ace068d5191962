-- The whole history, once the desk is closed.
use Rattle.std.proofs.Common.{
  ◌≡◌,
  ◌≢◌,
  ◌⊎◌,
  inl,
  inr,
  ℕ,
  zero,
  suc,
  ◌+◌,
  ◌-◌,
  ◌<◌,
  ◌≤◌,
  Bool,
  true,
  false,
  ◌&&◌,
  cond,
  List,
  [],
  ◌∷◌,
  ◌++◌,
  length,
  take,
  drop,
  count_by,
  All,
  Contains,
  refl,
  sym,
  ap,
  subst,
  ◌∙◌,
  arith,
  append-nil,
  append_assoc,
  length-append,
}
use mathlib.Core.Logic.{dite}
use native.Mathlib.Decide.{dec_lt, dec_le, ℕ_discrete}
use Rattle.std.proofs.Math.Seq.{take-length, drop-length}
use Rattle.std.proofs.lemmas.Bool.{eq-eqb}
use Rattle.std.proofs.lemmas.List.{drop-append-le}
use Rattle.std.proofs.lemmas.List.Elements.{filter-append}
use Rattle.std.proofs.lemmas.List.Sums.{sum_by-cons}
use Rattle.bp_types.specs.House.{Inn}
use Rattle.bp_types.specs.declared.command.Command.{Command}
use Rattle.bp_turn.specs.Prefix.{IsPrefix}
use Rattle.bp_core.specs.declared.line.Act.{Act}
use Rattle.bp_core.specs.declared.line.Act.TheVariants.{Publish as PublishAct}
use Rattle.bp_core.specs.declared.line.Line.{Line}
use Rattle.bp_core.specs.declared.line.Reply.TheVariants.{Done}
use Rattle.bp_core.specs.declared.call.Call.TheVariants.{Enrol}
use Rattle.bp_core.specs.Lines.{History, line_at, is_by, is_publish, command_of, published_position, calls, last_position, vectors, commands_of}
use Rattle.bp_core.specs.Changes.{is_change, act_changes, changes_after}
use Rattle.bp_core.specs.Acting.{line_of}
use Rattle.bp_core.specs.Legal.{IsLegal}
use Rattle.bp_core.proofs.Pushes.{line_at-old, last_value-push}
use Rattle.bp_desk.specs.Passes.{PassState, HasAccounts}
use Rattle.bp_optimise.specs.declared.round.Round.{Round}
use Rattle.bp_optimise.specs.declared.round.Round.TheVariants.{Unchanged, Published, Superseded, PublicationsFull}
use Rattle.bp_optimise.proofs.Leading.{prefix_on}
use Rattle.bp_optimise.specs.Vectors.{IsLeastVector, OwnVectors}
use Rattle.bp_optimise.specs.Acts.{commands_in}
use Rattle.bp_desk_run.specs.DeskRun.{script_of, OpensAndCloses, IsComplete, IsClosed, IsCut, IsDeskRun, NoEntryLeft, NoVectorLeft, NoClosingVectorLeft}
use Rattle.bp_optimise.specs.declared.sessions.Stop.{Stop}
use Rattle.bp_optimise.specs.declared.sessions.Stop.TheVariants.{Finished, HistoryFull, PublicationsFull as NoNumberLeft, Memory}
use Rattle.bp_optimise.proofs.Owning.{own_push, own_longer}
use Rattle.bp_desk_run.specs.Beginnings.{first_lines, OpensWith}
use Rattle.bp_desk_run.specs.Endings.{HasWorked, IsEnded, EndsIn, IsRunTo}
use Rattle.bp_desk_run.specs.Closing.{HasAllBack, IsClosing, has_closed}
use Rattle.bp_desk_run.specs.Finals.{HasRunTo}
use Rattle.bp_desk_run.proofs.Opening.{length-first_lines}
use Rattle.bp_desk_run.proofs.Places.{line_at-prefix}
use Rattle.bp_desk_run.proofs.Closing.{nothing_logged, others_same, none_above, all_back, ended_calls}
use Rattle.bp_desk_run.proofs.Ending.{is_desk_run, is_complete, is_cut_short}

first_at : (o : Line) (n : ℕ) → line_at (first_lines o n) 0 ≡ o
first_at o zero = refl
first_at o (suc n) = line_at-old (first_lines o n) (line_of (suc n) Enrol Done) 0 (omega (arith, length-first_lines o n)) ∙ first_at o n

first_prefix : (o : Line) (n : ℕ) → IsPrefix (o ∷ []) (first_lines o n)
first_prefix o zero = ([], refl)
first_prefix o (suc n) = prefix_on Line (o ∷ []) (first_lines o n) (first_lines o (suc n)) (first_prefix o n) (line_of (suc n) Enrol Done ∷ [], refl)

publishes : (x : Line) (position : ℕ) → x.entry.act ≡ PublishAct position → is_publish x ≡ true
publishes x position e = ap (λ a. Rattle.std.specs.Prelude.is_some (published_position a)) e

by_opener : (x : Line) → x.entry.caller ≡ 0 → calls (x ∷ []) 0 ≡ x ∷ []
by_opener x e = ap (λ (b : Bool). cond b (x ∷ []) []) (eq-eqb x.entry.caller 0 e)

-- the opener's vectors, when it has published the first alone
first_vector : (house : Inn) (o : Line) → OpensWith house o → OwnVectors house 0 (o ∷ []) 0
first_vector house o w zero lt is = w.vector
first_vector house o w (suc i) lt is = absurd (omega (arith, lt))

pub opener_vectors : (house : Inn) (o : Line) (G : History) → OpensWith house o → IsPrefix (o ∷ []) G → calls G 0 ≡ o ∷ [] → OwnVectors house 0 G 0
opener_vectors house o G w begins own = own_longer house 0 0 (o ∷ []) G begins (own ∙ sym (by_opener o w.by)) (first_vector house o w)

weaker : (house : Inn) (G : History) (x : Line) → IsLeastVector house 1 G x → IsLeastVector house 0 G x
weaker house G x v = record { position = v.position; publishes = v.publishes; claim = v.claim; claims = v.claims; prices = v.prices; enough = omega arith }

no_commands : (x : Line) (position : ℕ) → x.entry.act ≡ PublishAct position → command_of x.entry.act ≡ Rattle.std.specs.Prelude.None
no_commands x position e = ap command_of e

none_in : (x : Line) (position : ℕ) (xs : History) → x.entry.act ≡ PublishAct position → commands_in (x ∷ xs) ≡ commands_in xs
none_in x position xs e = rw (ap command_of e) refl

-- after a vector for the position where it stands, no change is left
pub closed_after : (G : History) (x : Line) → x.entry.act ≡ PublishAct (length G) → IsClosed (G ++ x ∷ [])
closed_after G x e =
    let H = G ++ x ∷ [] in
    let at : last_position H ≡ length G = last_value-push (λ (y : Line). published_position y.entry.act) 0 G x ∙
    ap (λ o. Rattle.std.specs.Prelude.unwrap_or o (last_position G)) (ap published_position e) in
    let rest : drop (length G) H ≡ x ∷ [] = drop-append-le (length G) G (x ∷ []) (omega arith) ∙ ap (λ l. l ++ x ∷ []) (drop-length G) in
    let quiet : is_change x ≡ false = ap (λ a. act_changes a x.entry.reply) e in
    ap (changes_after H) at ∙ ap (λ l. count_by is_change (drop (length G) l)) (take-length H) ∙ ap (count_by is_change) rest ∙
    omega (arith, sum_by-cons (λ y. cond (is_change y) 1 0) x [], ap (λ (b : Bool). cond {A = ℕ} b 1 0) quiet)

-- the history of the closed desk is what the opener had seen
pub nothing_after : (most : ℕ) (q : PassState) (H : History) → HasAllBack most q → HasAccounts q → HasAccounts (record q { seen = H }) → IsPrefix q.seen H →
    H ≡ q.seen
nothing_after most q H b before after begins =
    nothing_logged most q (record q { seen = H }) H b before after refl refl refl begins (
      [],
      sym (append-nil H),
    ) (subst (λ k. calls H k ≡ q.calls) b.opener after.own)

-- the rest of the history, after the last round
abbrev pub LastVector : Inn → History → History → Type 0
LastVector house G H = (H ≡ G) ⊎ ((x : Line) × (H ≡ G ++ x ∷ []) × (x.entry.caller ≡ 0) × (x.entry.act ≡ PublishAct (length G)) × IsLeastVector house 1 G x)

grown : (house : Inn) (G H : History) → LastVector house G H → IsPrefix G H
grown house G H (inl same) = ([], same ∙ sym (append-nil G))
grown house G H (inr v) = (v.0 ∷ [], v.1)

pub run_to : (house : Inn) (scripts : List (List Command)) (workers : ℕ) (stops : ℕ → Stop) (p q : PassState) (H : History) →
    HasRunTo house scripts workers stops p → IsLegal house H → HasAccounts q → q.seen ≡ H
    → q.caller ≡ p.caller → q.free ≡ p.free → q.ended ≡ p.ended → LastVector house p.seen H → IsRunTo house scripts workers stops H
run_to house scripts workers stops p q H r legal accounts is caller free ended last =
    let n = length scripts + workers in
    let later : IsPrefix p.seen H = grown house p.seen H last in
    let begins : IsPrefix (first_lines r.opening n) H = prefix_on Line (first_lines r.opening n) p.seen H r.begins later in
    let first : line_at H 0 ≡ r.opening = line_at-prefix (first_lines r.opening n) H 0 begins (omega (arith, length-first_lines r.opening n)) ∙
    first_at r.opening n in
    let own : calls p.seen 0 ≡ r.opening ∷ [] = subst (λ k. calls p.seen k ≡ p.calls) r.all_back.opener r.accounts.own ∙ r.own in
    let vectors_before : OwnVectors house 0 p.seen 0 =
    opener_vectors house r.opening p.seen r.opens (prefix_on Line (r.opening ∷ []) (first_lines r.opening n) p.seen (first_prefix r.opening n) r.begins)
    own in
    let back : HasAllBack n q = all_back n p q r.all_back caller free ended in
    record {
      legal = legal;
      opening = r.opening;
      opens = r.opens;
      begins = begins;
      ends = λ c low high.
          let e = r.ended c low high in
          let kept : calls q.seen c ≡ e.left.calls =
          ended_calls q.seen p.ended c e.left.calls
          (subst (λ (l : List (ℕ × History)). All (λ (x : ℕ × History). calls q.seen x.0 ≡ x.1) l) ended accounts.ended) e.kept in
          record {
            left = e.left;
            done = e.done;
            end = e.end;
            begins = prefix_on Line e.left.seen p.seen H e.begins later;
            calls_are =
                subst (λ K. calls K c ≡ e.left.calls) is kept;
          };
      nobody = λ c high. subst (λ K. calls K c ≡ []) is (none_above n q back accounts c high);
      opener = opener last own first;
      opener_vectors = of_opener last vectors_before;
      opener_commands = of_commands last own;
    }
  where
    opener : LastVector house p.seen H → calls p.seen 0 ≡ r.opening ∷ [] → line_at H 0 ≡ r.opening → OpensAndCloses H
    opener (inl same) own first = inl (ap (λ K. calls K 0) same ∙ own ∙ ap (λ (x : Line). x ∷ []) (sym first))
    opener (inr (x, at, by, act, v)) own first = inr (
      p.seen,
      x,
      at,
      publishes x (length p.seen) act,
      ap (λ K. calls K 0) at ∙ filter-append (is_by 0) p.seen (x ∷ []) ∙ ap (λ l. l ++ calls (x ∷ []) 0) own ∙ ap (λ l. r.opening ∷ l) (by_opener x by) ∙
          ap (λ (y : Line). y ∷ x ∷ []) (sym first),
    )

    of_opener : LastVector house p.seen H → OwnVectors house 0 p.seen 0 → OwnVectors house 0 H 0
    of_opener (inl same) own = subst (λ K. OwnVectors house 0 K 0) (sym same) own
    of_opener (inr (x, at, by, act, v)) own = subst (λ K. OwnVectors house 0 K 0) (sym at) (own_push house 0 p.seen x 0 own (λ t. weaker house p.seen x v))

    of_commands : LastVector house p.seen H → calls p.seen 0 ≡ r.opening ∷ [] → commands_in (calls H 0) ≡ []
    of_commands (inl same) own = ap (λ K. commands_in (calls K 0)) same ∙ ap commands_in own ∙ none_in r.opening 0 [] r.opens.at_start
    of_commands (inr (x, at, by, act, v)) own =
        ap (λ K. commands_in (calls K 0)) at ∙
        ap commands_in (filter-append (is_by 0) p.seen (x ∷ []) ∙ ap (λ l. l ++ calls (x ∷ []) 0) own ∙ ap (λ l. r.opening ∷ l) (by_opener x by))
        ∙ none_in r.opening 0 (x ∷ []) r.opens.at_start ∙ none_in x (length p.seen) [] act

-- the last vector by the round
pub last_vector : (house : Inn) (G H : History) (r : Round) → IsClosing house G H r → LastVector house G H
last_vector house G H (Unchanged changes) c = inl c.0
last_vector house G H (Published number) c = inr c
last_vector house G H (Superseded p changes) c = absurd c
last_vector house G H PublicationsFull c = inl c.0

pub closed_by : (house : Inn) (G H : History) (r : Round) → IsClosing house G H r → has_closed r ≡ true → IsClosed H
closed_by house G H (Unchanged changes) c is = subst IsClosed (sym c.0) c.1
closed_by house G H (Published number) c is = subst IsClosed (sym c.1) (closed_after G c.0 c.3)
closed_by house G H (Superseded p changes) c is = absurd c
closed_by house G H PublicationsFull c is = absurd (cc)

pub full_by : (house : Inn) (G H : History) (r : Round) → IsClosing house G H r → has_closed r ≡ false →
    (vectors H ≡ house.limits.publications) × (1 ≤ changes_after H (last_position H))
full_by house G H (Unchanged changes) c is = absurd (cc)
full_by house G H (Published number) c is = absurd (cc)
full_by house G H (Superseded p changes) c is = absurd c
full_by house G H PublicationsFull c is = (ap vectors c.0 ∙ c.1, subst (λ K. 1 ≤ changes_after K (last_position K)) (sym c.0) c.2)

-- an optimiser that had the memory finished
pub worker_finished : (sessions number : ℕ) (left : PassState) (stop : Stop) → stop ≢ Memory → HasWorked sessions number left stop → stop ≡ Finished
worker_finished sessions number left Finished ample w = refl
worker_finished sessions number left HistoryFull ample w = absurd w
worker_finished sessions number left NoNumberLeft ample w = absurd w
worker_finished sessions number left Memory ample w = absurd (ample refl)

-- the run was cut short, by a session or by the last round
pub cut : (house : Inn) (scripts : List (List Command)) (workers : ℕ) (stops : ℕ → Stop) (G H : History) (round : Round) →
    IsRunTo house scripts workers stops H → ((c : ℕ) → stops c ≢ Memory) → IsClosing house G H round
    → ((c : ℕ) × (1 ≤ c) × (c ≤ length scripts + workers) × (stops c ≢ Finished)) ⊎
    (((c : ℕ) → 1 ≤ c → c ≤ length scripts → stops c ≡ Finished) × (has_closed round ≡ false)) → IsCut house scripts H
cut house scripts workers stops G H round r ample closing why = record { cause = cause why; closed = closed (has_closed round) refl }
  where
    closed : (b : Bool) → has_closed round ≡ b → IsClosed H ⊎ (vectors H ≡ house.limits.publications)
    closed true e = inl (closed_by house G H round closing e)
    closed false e = inr (full_by house G H round closing e).0

    cause : ((c : ℕ) × (1 ≤ c) × (c ≤ length scripts + workers) × (stops c ≢ Finished)) ⊎
        (((c : ℕ) → 1 ≤ c → c ≤ length scripts → stops c ≡ Finished) × (has_closed round ≡ false))
        → NoEntryLeft house scripts H ⊎ (NoVectorLeft house scripts H ⊎ NoClosingVectorLeft house scripts H)
    cause (inl (c, low, high, unfinished)) = dite (dec_lt (length scripts) c)
        (λ above. let e = r.ends c low high in absurd (unfinished (worker_finished (length scripts) c e.left (stops c) (ample c) (e.end.worked above))))
        (λ below. by_session (is_cut_short house scripts workers stops H r ample c low (omega (arith, below)) unfinished))
      where
        by_session : NoEntryLeft house scripts H ⊎ NoVectorLeft house scripts H →
            NoEntryLeft house scripts H ⊎ (NoVectorLeft house scripts H ⊎ NoClosingVectorLeft house scripts H)
        by_session (inl e) = inl e
        by_session (inr v) = inr (inl v)
    cause (inr (all, none)) = inr (inr (let f = full_by house G H round closing none in (is_complete house scripts workers stops H r all, f.0, f.1)))
