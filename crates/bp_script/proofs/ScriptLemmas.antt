-- What holds of each request that was read holds of the commands of every session.
use Rattle.std.proofs.Common.{
  ◌≡◌,
  ℕ,
  zero,
  suc,
  ◌+◌,
  ◌<◌,
  ◌≤◌,
  ◌==◌,
  refl,
  ap,
  ◌∙◌,
  Bool,
  cond,
  inl,
  inr,
  List,
  [],
  ◌∷◌,
  ◌++◌,
  map,
  length,
  get_or,
  Option,
  Some,
  None,
  Result,
  Ok,
  Err,
  IsTrue,
  arith,
  length-append,
}
use Rattle.std.specs.Prelude.{max, fold, filter, count_by, All}
use Rattle.std.specs.List.{range_with_len, sum_by}
use Rattle.std.proofs.lemmas.Bool.{cases_Bool, eqb-true}
use Rattle.std.proofs.lemmas.List.Sums.{sum_by-cons}
use Rattle.std.proofs.lemmas.List.FromFn.{length-map-range_with_len}
use Rattle.std.proofs.lemmas.List.Elements.{All-nil, All-push, All-head, All-tail, All-map, All-filter, All-from_get_or}
use Rattle.bp_types.specs.declared.command.Command.{Command}
use Rattle.bp_core.specs.Legal.{is_command_in_range}
use Rattle.bp_hotelfile.specs.Season.{Season}
use Rattle.bp_hotelfile.specs.Steps.{◌>>=◌}
use Rattle.bp_stayfile.specs.declared.column.Column.{Column}
use Rattle.bp_stayfile.specs.declared.error.TableRefusal.{TableRefusal}
use Rattle.bp_stayfile.specs.Tables.{Record, Table, table_of}
use Rattle.bp_stayfile.specs.Reading.{rows_read, table_read, unless_stopped}
use Rattle.bp_script.specs.declared.request.Request.{Request}
use Rattle.bp_types.specs.declared.limits.TheConstants.{MOST_ENTRIES, MOST_SESSIONS}
use Rattle.bp_script.specs.Scripts.{request_in, request_rule, script_columns, commands_of, greatest_session, by_session, requests_file, script_file}
use Rattle.bp_script.specs.Laws.{SessionsAreFew, CommandsAreFew, CommandsAreInRange}
use Rattle.bp_script.proofs.RequestLemmas.{passed, request_fits, request-session, request-room}

-- what was read of a table that is not stopped is the answer
unstopped : {A : Type 0} (stop : Option ℕ) (read answers : List A) → unless_stopped stop read ≡ Ok answers → read ≡ answers
unstopped None read answers e = (cc)
unstopped (Some line) read answers e = absurd (cc)

module _ {A : Type 0} (P : List A → Type 0) (rule : List A → Record → Result A TableRefusal) (none : P []) (more : (before : List A) (row : Record) (a : A) →
    rule before row ≡ Ok a → P before → P (before ++ a ∷ [])) where
  -- what holds of no answers, and of one answer more by the rule, holds of the answers of all rows
  rows_keep : (rows : List Record) (n : ℕ) (answers : List A) → rows_read rule rows n ≡ Ok answers → P answers
  rows_keep rows zero answers e = let nothing : [] ≡ answers = (cc) in rw (← nothing) none
  rows_keep rows (suc n) answers e =
      let (before, so_far, next) =
      passed (rows_read rule rows n) (λ before. rule before (get_or rows n []) >>= (λ answer. Ok (before ++ answer ∷ []))) answers e in
      let (answer, here, is) = passed (rule before (get_or rows n [])) (λ answer. Ok (before ++ answer ∷ [])) answers next in
      let same : before ++ answer ∷ [] ≡ answers = (cc) in
      rw (← same) (more before (get_or rows n []) answer here (rows_keep rows n before so_far))

  table_keeps : (table : Table) (answers : List A) → table_read rule table ≡ Ok answers → P answers
  table_keeps table answers e =
      let (read, rows, is) = passed (rows_read rule table.rows (length table.rows)) (unless_stopped table.stop) answers e in
      rows_keep table.rows (length table.rows) answers (rw (← unstopped table.stop read answers is) rows)

  file_keeps : (columns : List Column) (bytes : List ℕ) (answers : List A) → (table_of columns bytes >>= table_read rule) ≡ Ok answers → P answers
  file_keeps columns bytes answers e =
      let (table, here, is) = passed (table_of columns bytes) (table_read rule) answers e in
      table_keeps table answers is

-- each answer keeps what the rule gives
each_keeps : {A : Type 0} (P : A → Type 0) (rule : List A → Record → Result A TableRefusal) →
    ((before : List A) (row : Record) (a : A) → rule before row ≡ Ok a → P a)
    → (columns : List Column) (bytes : List ℕ) (answers : List A) → (table_of columns bytes >>= table_read rule) ≡ Ok answers → All P answers
each_keeps P rule each = file_keeps (All P) rule (All-nil P) (λ before row a h all. All-push P before a all (each before row a h))

-- the commands of each session keep what each request's command keeps
by_session-keeps : (P : Command → Type 0) (requests : List Request) → All (λ r. P r.command) requests → All (All P) (by_session requests)
by_session-keeps P requests all =
    All-map (All P) (commands_of requests) (range_with_len 1 (greatest_session requests))
    (All-from_get_or (λ s. All P (commands_of requests s)) (range_with_len 1 (greatest_session requests)) 0
    (λ i below. All-map P (λ r. r.command) (filter (λ r. r.session == get_or (range_with_len 1 (greatest_session requests)) i 0) requests)
    (All-filter (λ r. r.session == get_or (range_with_len 1 (greatest_session requests)) i 0) (λ r. P r.command) requests all)))

-- the greatest session is one that there may be
greatest-few : (requests : List Request) (most : ℕ) → most ≤ MOST_SESSIONS → All (λ r. r.session ≤ MOST_SESSIONS) requests →
    fold (λ most r. max most r.session) most requests ≤ MOST_SESSIONS
greatest-few [] most few all = few
greatest-few (r ∷ requests) most few all =
    let P : Request → Type 0 = λ r. r.session ≤ MOST_SESSIONS in
    greatest-few requests (max most r.session) (omega (arith, All-head P r requests all)) (All-tail P r requests all)

-- a request is read where there is room for it
request_has_room : (season : Season) (codes : List (List ℕ)) (before : List Request) (row : Record) (r : Request) →
    request_rule season codes before row ≡ Ok r → length before ≤ MOST_ENTRIES → length (before ++ r ∷ []) ≤ MOST_ENTRIES
request_has_room season codes before row r e few = omega (arith, request-room season codes (length before) row r e, length-append before (r ∷ []))

-- a number stands at most once among numbers that count up
once : (s first n : ℕ) → (s < first → count_by (λ k. s == k) (range_with_len first n) ≡ 0) × (count_by (λ k. s == k) (range_with_len first n) ≤ 1)
once s first zero = (λ before. refl, omega arith)
once s first (suc n) =
    let rest = once s (first + 1) n in
    let step = sum_by-cons (λ k. cond {A = ℕ} (s == k) 1 0) first (range_with_len (first + 1) n) in
    elim (cases_Bool (s == first)) [
      | inl t ↦
          let same : s ≡ first = eqb-true s first t in
          let none = rest.0 (omega arith) in
          let one = ap (λ (b : Bool). cond {A = ℕ} b 1 0) t in
          (λ before. absurd (omega arith), omega (arith, step, none, one))
      | inr f ↦
          let zero_here = ap (λ (b : Bool). cond {A = ℕ} b 1 0) f in
          (λ before. omega (arith, step, zero_here, rest.0 (omega arith)), omega (arith, step, zero_here, rest.1))
    ]

-- a session's commands, with one request more
one_more : (r : Request) (requests : List Request) (s : ℕ) → length (commands_of (r ∷ requests) s) ≡ cond (r.session == s) 1 0 + length (commands_of requests s)
one_more r requests s =
    elim (cases_Bool (r.session == s)) [
      | inl t ↦ ap (λ b. length
          (map (λ (q : Request). q.command) (cond b (r ∷ filter (λ q. q.session == s) requests) (filter (λ q. q.session == s) requests)))) t ∙
          omega (arith, ap (λ (b : Bool). cond {A = ℕ} b 1 0) t)
      | inr f ↦ ap (λ b. length
          (map (λ (q : Request). q.command) (cond b (r ∷ filter (λ q. q.session == s) requests) (filter (λ q. q.session == s) requests)))) f ∙
          omega (arith, ap (λ (b : Bool). cond {A = ℕ} b 1 0) f)
    ]

-- the same over some sessions
one_more_of : (r : Request) (requests : List Request) (sessions : List ℕ) →
    sum_by length (map (commands_of (r ∷ requests)) sessions) ≡ count_by (λ s. r.session == s) sessions + sum_by length (map (commands_of requests) sessions)
one_more_of r requests [] = refl
one_more_of r requests (s ∷ sessions) =
    omega (
      arith,
      one_more r requests s,
      one_more_of r requests sessions,
      sum_by-cons (λ (c : List Command). length c) (commands_of (r ∷ requests) s) (map (commands_of (r ∷ requests)) sessions),
      sum_by-cons (λ (c : List Command). length c) (commands_of requests s) (map (commands_of requests) sessions),
      sum_by-cons (λ k. cond {A = ℕ} (r.session == k) 1 0) s sessions,
    )

-- no command is in two sessions
none_of_none : (sessions : List ℕ) → sum_by length (map (commands_of []) sessions) ≡ 0
none_of_none [] = refl
none_of_none (s ∷ sessions) = omega (arith, none_of_none sessions, sum_by-cons (λ (c : List Command). length c) [] (map (commands_of []) sessions))

each_once : (requests : List Request) (first n : ℕ) → sum_by length (map (commands_of requests) (range_with_len first n)) ≤ length requests
each_once [] first n = omega (arith, none_of_none (range_with_len first n))
each_once (r ∷ requests) first n =
    omega (arith, one_more_of r requests (range_with_len first n), (once r.session first n).1, each_once requests first n)

-- a script has no more commands than a history may have
pub commands_few : CommandsAreFew
commands_few season codes bytes script e =
    let (requests, here, is) = passed (requests_file season codes bytes) (λ requests. Ok (by_session requests)) script e in
    let same : by_session requests ≡ script = (cc) in
    let P : List Request → Type 0 = λ rs. length rs ≤ MOST_ENTRIES in
    let few = file_keeps P (request_rule season codes) (omega arith) (request_has_room season codes) script_columns bytes requests here in
    rw (← same) (omega (arith, few, each_once requests 1 (greatest_session requests)))

-- a script has no more sessions than there may be
pub sessions_few : SessionsAreFew
sessions_few season codes bytes script e =
    let (requests, here, is) = passed (requests_file season codes bytes) (λ requests. Ok (by_session requests)) script e in
    let same : by_session requests ≡ script = (cc) in
    let P : Request → Type 0 = λ r. r.session ≤ MOST_SESSIONS in
    let all = each_keeps P (request_rule season codes) (λ before row r h. request-session season codes (length before) row r h)
    script_columns bytes requests here in
    let size = length-map-range_with_len (commands_of requests) 1 (greatest_session requests) in
    rw (← same) (omega (arith, size, greatest-few requests 0 (omega arith) all))

-- the commands of a script keep their limits
pub commands_fit : CommandsAreInRange
commands_fit season codes bytes script h nights stays e =
    let (requests, here, is) = passed (requests_file season codes bytes) (λ requests. Ok (by_session requests)) script e in
    let same : by_session requests ≡ script = (cc) in
    let P : Command → Type 0 = λ c. IsTrue (is_command_in_range h c) in
    let all = each_keeps (λ r. P r.command) (request_rule season codes) (λ before row r is. request_fits h season codes nights stays (length before) row r is)
    script_columns bytes requests here in
    rw (← same) (by_session-keeps P requests all)
