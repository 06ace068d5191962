-- The fields of a desk run, from what is known of each caller at its end.
use Rattle.std.proofs.Common.{
  ◌≡◌,
  ◌≢◌,
  ◌⊎◌,
  inl,
  inr,
  ℕ,
  zero,
  suc,
  ◌+◌,
  ◌-◌,
  ◌<◌,
  ◌≤◌,
  ◌==◌,
  ◌&&◌,
  Bool,
  true,
  false,
  cond,
  List,
  [],
  ◌∷◌,
  ◌++◌,
  length,
  take,
  drop,
  All,
  refl,
  sym,
  ap,
  subst,
  ◌∙◌,
  arith,
  append-nil,
  eq-eqb,
  length-append,
  take-append-drop,
  slice_index_or,
}
use mathlib.Core.Logic.{dite}
use native.Mathlib.Decide.{dec_lt, dec_le, ℕ_discrete}
use Rattle.std.proofs.lemmas.Bool.{ne_eqb}
use Rattle.std.proofs.lemmas.List.{length-take, length-take-le, get_or_past}
use Rattle.bp_types.specs.declared.command.Command.{Command}
use Rattle.bp_types.specs.House.{Inn}
use Rattle.bp_turn.specs.Prefix.{IsPrefix}
use Rattle.bp_core.specs.declared.line.Line.{Line}
use Rattle.bp_core.specs.declared.line.Reply.TheVariants.{Done}
use Rattle.bp_core.specs.declared.call.Call.TheVariants.{Leave, Enrol}
use Rattle.bp_core.specs.Lines.{History, no_line, line_at, calls, commands_of, is_publish, commands, vectors, last_position}
use Rattle.bp_core.specs.Callers.{is_leave, is_enrol}
use Rattle.bp_core.specs.Changes.{changes_after}
use Rattle.bp_core.specs.Acting.{line_of}
use Rattle.bp_desk.specs.Passes.{PassState}
use Rattle.bp_optimise.specs.Vectors.{IsLeastVector, OwnVectors}
use Rattle.bp_optimise.specs.Acts.{commands_in}
use Rattle.bp_optimise.specs.Works.{HaveLeft}
use Rattle.bp_optimise.specs.Sessions.{IsStop}
use Rattle.bp_desk_run.specs.DeskRun.{
  lead_of,
  script_of,
  LeavesLast,
  IsDeskRun,
  IsComplete,
  IsClosed,
  IsCut,
  LacksCommands,
  NoEntryLeft,
  NoVectorLeft,
  NoClosingVectorLeft,
}
use Rattle.bp_optimise.specs.declared.sessions.Stop.{Stop}
use Rattle.bp_optimise.specs.declared.sessions.Stop.TheVariants.{Finished, HistoryFull, PublicationsFull, Memory}
use Rattle.bp_optimise.proofs.Ends.{vectors_at_end}
use Rattle.bp_optimise.proofs.Stopping.{stop_later}
use Rattle.bp_desk_run.specs.Beginnings.{first_lines}
use Rattle.bp_desk_run.specs.Endings.{HasWorked, IsEnd, EndsIn, IsRunTo}
use Rattle.bp_desk_run.proofs.Places.{callers_within, before_leave, line_at-prefix, prefix_length}
use Rattle.bp_desk_run.proofs.Opening.{length-first_lines, enrol_at}

-- all vectors, where each caller's are as they must be
vectors_of_all : (h : Inn) (most : ℕ) (H : History) → All (λ (x : Line). x.entry.caller ≤ most) H → OwnVectors h 0 H 0 →
    ((c : ℕ) → 1 ≤ c → c ≤ most → OwnVectors h (lead_of h) H c)
    → (i : ℕ) → i < length H → is_publish (line_at H i) ≡ true → IsLeastVector h (cond ((line_at H i).entry.caller == 0) 0 (lead_of h)) (take i H) (line_at H i)
vectors_of_all h most H callers zeroth each i lt is =
    let c = (line_at H i).entry.caller in
    let V : Bool → Type 0 = λ b. IsLeastVector h (cond b 0 (lead_of h)) (take i H) (line_at H i) in
    dite (ℕ_discrete c 0)
    (λ z. subst V (sym (eq-eqb c 0 z)) (zeroth i lt (ap (λ n. (c == n) && is_publish (line_at H i)) (sym z) ∙ both c (is_publish (line_at H i)) is)))
    (λ nz. subst V (sym (ne_eqb c 0 nz)) (each c (omega (arith, nz)) (callers i no_line lt) i lt (both c (is_publish (line_at H i)) is)))
  where
    both : (n : ℕ) (b : Bool) → b ≡ true → ((n == n) && b) ≡ true
    both n b e = ap (λ t. t && b) (eq-eqb n n refl) ∙ e

-- point 1
pub callers : (house : Inn) (scripts : List (List Command)) (workers : ℕ) (stops : ℕ → Stop) (H : History) → IsRunTo house scripts workers stops H →
    All (λ (x : Line). x.entry.caller ≤ length scripts + workers) H
callers house scripts workers stops H r = callers_within H (length scripts + workers) r.nobody

-- point 2
pub enrolled : (house : Inn) (scripts : List (List Command)) (workers : ℕ) (stops : ℕ → Stop) (H : History) → IsRunTo house scripts workers stops H →
    (c : ℕ) → 1 ≤ c → c ≤ length scripts + workers
    → (c < length H) × ((line_at H c).entry.caller ≡ c) × (is_enrol (line_at H c).entry.act ≡ true)
enrolled house scripts workers stops H r c low high =
    let n = length scripts + workers in
    let F = first_lines r.opening n in
    let many = length-first_lines r.opening n in
    let le = prefix_length F H r.begins in
    let at : line_at H c ≡ line_of c Enrol Done = line_at-prefix F H c r.begins (omega (arith, many, high)) ∙ enrol_at r.opening n c low high in
    (omega (arith, many, le, high), ap (λ (x : Line). x.entry.caller) at, ap (λ (x : Line). is_enrol x.entry.act) at)

pub left : (house : Inn) (scripts : List (List Command)) (workers : ℕ) (stops : ℕ → Stop) (H : History) → IsRunTo house scripts workers stops H → (c : ℕ) →
    1 ≤ c → c ≤ length scripts + workers → LeavesLast H c
left house scripts workers stops H r c low high =
    let e = r.ends c low high in
    (e.end.earlier, line_of c Leave Done, e.calls_are ∙ e.end.last, refl)

-- where want of memory is out of the question, an optimiser left after the sessions
worked : (sessions number : ℕ) (left : PassState) (stop : Stop) → stop ≢ Memory → HasWorked sessions number left stop
    → (before : History) × (left.seen ≡ before ++ line_of number Leave Done ∷ []) × HaveLeft before sessions
worked sessions number left Finished ample w = w
worked sessions number left HistoryFull ample w = absurd w
worked sessions number left PublicationsFull ample w = absurd w
worked sessions number left Memory ample w = absurd (ample refl)

pub sessions_first : (house : Inn) (scripts : List (List Command)) (workers : ℕ) (stops : ℕ → Stop) (H : History) → IsRunTo house scripts workers stops H →
    ((c : ℕ) → stops c ≢ Memory)
    → (i : ℕ) → i < length H → is_leave (line_at H i).entry.act ≡ true → length scripts < (line_at H i).entry.caller → HaveLeft (take i H) (length scripts)
sessions_first house scripts workers stops H r ample i lt leaves above =
    let c = (line_at H i).entry.caller in
    let n = length scripts + workers in
    let high : c ≤ n = callers house scripts workers stops H r i no_line lt in
    let e = r.ends c (omega (arith, above)) high in
    let w = worked (length scripts) c e.left (stops c) (ample c) (e.end.worked above) in
    let begins : IsPrefix (w.0 ++ line_of c Leave Done ∷ []) H = subst (λ G. IsPrefix G H) w.1 e.begins in
    let own : calls e.left.seen c ≡ e.left.calls = subst (λ k. calls e.left.seen k ≡ e.left.calls) e.end.caller e.end.actor.own in
    let same : calls H c ≡ calls (w.0 ++ line_of c Leave Done ∷ []) c = e.calls_are ∙ sym own ∙ ap (λ G. calls G c) w.1 in
    let cut : take i H ≡ w.0 = before_leave house H w.0 c i r.legal begins same lt refl leaves in
    subst (λ G. HaveLeft G (length scripts)) (sym cut) w.2

-- point 3
made : (house : Inn) (sessions c : ℕ) (cs : List Command) (H : History) (stop : Stop) (e : EndsIn house sessions c cs H stop) → commands_of H c ≡ take e.done cs
made house sessions c cs H stop e = ap commands_in e.calls_are ∙ e.end.made

script_at : (scripts : List (List Command)) (i : ℕ) → script_of scripts (i + 1 - 1) ≡ script_of scripts i
script_at scripts i = ap (script_of scripts) (let e : i + 1 - 1 ≡ i = omega arith in e)

first_of : (cs : List Command) (done : ℕ) (made : List Command) → made ≡ take done cs → IsPrefix made cs
first_of cs done made is = (drop done cs, sym (ap (λ l. l ++ drop done cs) is ∙ take-append-drop done cs))

pub in_order : (house : Inn) (scripts : List (List Command)) (workers : ℕ) (stops : ℕ → Stop) (H : History) → IsRunTo house scripts workers stops H →
    (i : ℕ) → i < length scripts → IsPrefix (commands_of H (i + 1)) (script_of scripts i)
in_order house scripts workers stops H r i lt =
    let e = r.ends (i + 1) (omega arith) (omega (arith, lt)) in
    subst (IsPrefix (commands_of H (i + 1))) (script_at scripts i)
    (first_of (script_of scripts (i + 1 - 1)) e.done (commands_of H (i + 1))
    (made house (length scripts) (i + 1) (script_of scripts (i + 1 - 1)) H (stops (i + 1)) e))

take_nil : (done : ℕ) (cs : List Command) → cs ≡ [] → take done cs ≡ []
take_nil zero cs e = refl
take_nil (suc done) cs e = ap (take (suc done)) e

no_script : (scripts : List (List Command)) (i : ℕ) → length scripts ≤ i → script_of scripts i ≡ []
no_script scripts i le = get_or_past scripts i [] le

pub no_command : (house : Inn) (scripts : List (List Command)) (workers : ℕ) (stops : ℕ → Stop) (H : History) → IsRunTo house scripts workers stops H →
    (c : ℕ) → (c ≡ 0) ⊎ (length scripts < c) → commands_of H c ≡ []
no_command house scripts workers stops H r c (inl z) = subst (λ k. commands_of H k ≡ []) (sym z) r.opener_commands
no_command house scripts workers stops H r c (inr above) = dite (dec_lt (length scripts + workers) c)
    (λ high. ap commands_in (r.nobody c high))
    (λ low.
    let e = r.ends c (omega (arith, above)) (omega (arith, low)) in
    made house (length scripts) c (script_of scripts (c - 1)) H (stops c) e ∙
    take_nil e.done (script_of scripts (c - 1)) (no_script scripts (c - 1) (omega (arith, above))))

-- point 4
pub least_prices : (house : Inn) (scripts : List (List Command)) (workers : ℕ) (stops : ℕ → Stop) (H : History) → IsRunTo house scripts workers stops H →
    (i : ℕ) → i < length H → is_publish (line_at H i) ≡ true
    → IsLeastVector house (cond ((line_at H i).entry.caller == 0) 0 (lead_of house)) (take i H) (line_at H i)
least_prices house scripts workers stops H r =
    vectors_of_all house (length scripts + workers) H (callers house scripts workers stops H r) r.opener_vectors (λ c low high.
    let e = r.ends c low high in
    let n : e.left.caller ≡ c = e.end.caller in
    let vs : OwnVectors e.left.house (lead_of house) H e.left.caller =
    vectors_at_end (lead_of house) e.left H e.end.actor e.begins (ap (calls H) n ∙ e.calls_are) in
    subst (λ h. OwnVectors h (lead_of house) H c) e.end.house_is (subst (λ k. OwnVectors e.left.house (lead_of house) H k) n vs))

-- a desk run
pub is_desk_run : (house : Inn) (scripts : List (List Command)) (workers : ℕ) (stops : ℕ → Stop) (H : History) → IsRunTo house scripts workers stops H →
    ((c : ℕ) → stops c ≢ Memory) → IsDeskRun house scripts workers H
is_desk_run house scripts workers stops H r ample = record {
  legal = r.legal;
  callers = callers house scripts workers stops H r;
  enrolled = enrolled house scripts workers stops H r;
  left = left house scripts workers stops H r;
  sessions_first = sessions_first house scripts workers stops H r ample;
  in_order = in_order house scripts workers stops H r;
  no_command = no_command house scripts workers stops H r;
  least_prices = least_prices house scripts workers stops H r;
  opener = r.opener;
}

-- why a session stopped, in the whole history
stop_at : (house : Inn) (scripts : List (List Command)) (workers : ℕ) (stops : ℕ → Stop) (H : History) → (r : IsRunTo house scripts workers stops H) →
    (i : ℕ) → (lt : i < length scripts)
    → (done : ℕ) × IsStop house (script_of scripts i) H done (stops (i + 1)) × (commands_of H (i + 1) ≡ take done (script_of scripts i))
stop_at house scripts workers stops H r i lt =
    let e = r.ends (i + 1) (omega arith) (omega (arith, lt)) in
    let later : IsStop house (script_of scripts (i + 1 - 1)) H e.done (stops (i + 1)) =
    stop_later house (script_of scripts (i + 1 - 1)) e.left.seen H e.done (stops (i + 1)) e.begins r.legal (e.end.stops (omega (arith, lt))) in (
      e.done,
      subst (λ cs. IsStop house cs H e.done (stops (i + 1))) (script_at scripts i) later,
      subst (λ cs. commands_of H (i + 1) ≡
          take e.done cs) (script_at scripts i) (made house (length scripts) (i + 1) (script_of scripts (i + 1 - 1)) H (stops (i + 1)) e),
    )

take_all : (cs : List Command) (done : ℕ) → done ≡ length cs → take done cs ≡ cs
take_all cs done is = ap (λ k. take k cs) is ∙ Rattle.std.proofs.Math.Seq.take-length cs

-- a run in which all finished is complete
pub is_complete : (house : Inn) (scripts : List (List Command)) (workers : ℕ) (stops : ℕ → Stop) (H : History) → IsRunTo house scripts workers stops H →
    ((c : ℕ) → 1 ≤ c → c ≤ length scripts → stops c ≡ Finished) → IsComplete scripts H
is_complete house scripts workers stops H r all i lt =
    let s = stop_at house scripts workers stops H r i lt in
    let finished : IsStop house (script_of scripts i) H s.0 Finished =
    subst (IsStop house (script_of scripts i) H s.0) (all (i + 1) (omega arith) (omega (arith, lt))) s.1 in
    s.2 ∙ take_all (script_of scripts i) s.0 finished

-- fewer commands than there are
lacks : (cs made : List Command) (done : ℕ) → made ≡ take done cs → done < length cs → made ≢ cs
lacks cs made done is lt same =
    let a = ap length (sym is ∙ same) in
    let b = length-take-le done cs (omega (arith, lt)) in
    absurd (omega (arith, a, b, lt))

-- a session that did not finish, and had the memory, found no entry or no vector left
pub is_cut_short : (house : Inn) (scripts : List (List Command)) (workers : ℕ) (stops : ℕ → Stop) (H : History) → IsRunTo house scripts workers stops H →
    ((c : ℕ) → stops c ≢ Memory) → (c : ℕ) → 1 ≤ c → c ≤ length scripts → stops c ≢ Finished
    → NoEntryLeft house scripts H ⊎ NoVectorLeft house scripts H
is_cut_short house scripts workers stops H r ample (suc i) low high unfinished =
    let lt : i < length scripts = omega (arith, high) in
    let s = stop_at house scripts workers stops H r i lt in
    let same : stops (i + 1) ≡ stops (suc i) = ap stops (let e : i + 1 ≡ suc i = omega arith in e) in
    by_stop (stops (suc i)) refl s.0 (subst (IsStop house (script_of scripts i) H s.0) same s.1) (lacks (script_of scripts i) (commands_of H (i + 1)) s.0 s.2)
  where
    by_stop : (stop : Stop) → stops (suc i) ≡ stop → (done : ℕ) → IsStop house (script_of scripts i) H done stop →
        (done < length (script_of scripts i) → commands_of H (i + 1) ≢ script_of scripts i)
        → NoEntryLeft house scripts H ⊎ NoVectorLeft house scripts H
    by_stop Finished is done s few = absurd (unfinished is)
    by_stop HistoryFull is done s few = inl (s.1, (i, omega (arith, high), few s.0))
    by_stop PublicationsFull is done s few = inr (s.2, s.3, (i, omega (arith, high), few s.0))
    by_stop Memory is done s few = absurd (ample (suc i) is)
is_cut_short house scripts workers stops H r ample zero low high unfinished = absurd (omega (arith, low))
