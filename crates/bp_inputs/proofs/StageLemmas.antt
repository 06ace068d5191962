-- How what is said of plans joins. A call that reads files one after another cites `follows_stage` for each file that
-- gave its value, and ends with `follows_stop`, `follows_nothing` or `follows_made`; one that reads a plan and then
-- another that rests on it cites `follows_both`.
use Rattle.std.proofs.Common.{◌≡◌, inl, inr, ℕ, ◌+◌, ◌<◌, refl, sym, subst, ◌∙◌, arith, List, length, Option, Some, IsSomeAnd, Result, Ok, Err}
use Rattle.std.specs.Option.{ForSome}
use Rattle.std.specs.FinMap.{get}
use Rattle.bp_edges.specs.Held.{Files}
use Rattle.bp_inputs.specs.Stages.{Stage, Plan, done, ask, followed_by, one, IsRead, IsReadAs, Gives, ComesAt, HoldsFiles}
use Rattle.bp_inputs.specs.Fetches.{Shelved, Fetches, Leaves, Fails, IsRefusedFor}
use Rattle.bp_inputs.specs.Unread.{IfRefused}
use Rattle.bp_inputs.specs.Stops.{Follows, StopsIn, stop_by_reader}
use Rattle.bp_inputs.specs.declared.cause.Cause.{Cause}
use Rattle.bp_inputs.specs.declared.cause.Cause.TheVariants.{TooLong, Reader}
use Rattle.bp_inputs.specs.declared.unread.Unread.{Unread}
use Rattle.bp_inputs.specs.declared.unread.Unread.TheVariants.{Memory as NoMemory, Refused as NotTaken}
use Rattle.bp_inputs.specs.declared.stop.Stop.{Stop}
use Rattle.bp_inputs.specs.declared.stop.Stop.TheVariants.{Memory, Fault, Refused}

-- a plan, and behind it another that rests on what it gives
module _ {A B : Type 0} (held : Option Files) (after : A → Plan B) where
  -- the files of both give what the second gives
  pub gives_then : (plan : Plan A) (first middle next : ℕ) (a : A) (b : B)
      → Gives held plan first middle a → Gives held (after a) middle next b → Gives held (followed_by plan after) first next b
  gives_then (done x) first middle next a b (is, same) gives =
      let P : ℕ → Type 0 = λ n. Gives held (after x) n next b in
      let Q : A → Type 0 = λ y. Gives held (after y) middle next b in
      subst P (sym same) (subst Q (sym is) gives)
  gives_then (ask s rest) first middle next a b (v, was_read, given) gives =
      (v, was_read, gives_then (rest v) (first + 1) middle next a b given gives)

  -- a file of the first plan comes in both
  pub comes_in : (P : Stage → Type 0) (plan : Plan A) (first k : ℕ) → ComesAt held P plan first k → ComesAt held P (followed_by plan after) first k
  comes_in P (done x) first k comes = absurd comes
  comes_in P (ask s rest) first k (inl here) = inl here
  comes_in P (ask s rest) first k (inr (v, was_read, comes)) = inr (v, was_read, comes_in P (rest v) (first + 1) k comes)

  -- a file of the second plan comes in both
  pub comes_behind : (P : Stage → Type 0) (plan : Plan A) (first middle k : ℕ) (a : A)
      → Gives held plan first middle a → ComesAt held P (after a) middle k → ComesAt held P (followed_by plan after) first k
  comes_behind P (done x) first middle k a (is, same) comes =
      let R : ℕ → Type 0 = λ n. ComesAt held P (after x) n k in
      let Q : A → Type 0 = λ y. ComesAt held P (after y) middle k in
      subst R (sym same) (subst Q (sym is) comes)
  comes_behind P (ask s rest) first middle k a (v, was_read, given) comes =
      inr (v, was_read, comes_behind P (rest v) (first + 1) middle k a given comes)

  -- where every file that both come to is there, so is every file of the second
  pub holds_behind : (files : Files) (plan : Plan A) (first middle : ℕ) (a : A)
      → held ≡ Some files → Gives held plan first middle a → HoldsFiles files (followed_by plan after) → HoldsFiles files (after a)
  holds_behind files (done x) first middle a told (is, same) holds =
      let Q : A → Type 0 = λ y. HoldsFiles files (after y) in subst Q is holds
  holds_behind files (ask s rest) first middle a told (v, was_read, given) holds =
      let R : Option Files → Type 0 = λ h. IsReadAs h s v in
      holds_behind files (rest v) (first + 1) middle a told given (holds.1 v (subst R told was_read))

-- and every file of the first
pub holds_in : {A B : Type 0} (files : Files) (plan : Plan A) (after : A → Plan B) → HoldsFiles files (followed_by plan after) → HoldsFiles files plan
holds_in files (done x) after holds = tt
holds_in files (ask s rest) after holds = (holds.0, λ v was_read. holds_in files (rest v) after (holds.1 v was_read))

-- a reader that gives no value, where no more was read than the file may have
pub stops_by_reader : (shelf : Fetches) (s : Stage) (file most : ℕ) (bytes now : List ℕ) (unread : Unread) (stop : Stop)
    → Leaves shelf → most ≡ s.most → IsRead shelf.before.held s.name most bytes → now ≡ bytes → IfRefused unread (s.Refuses now)
    → stop ≡ stop_by_reader file unread → Follows shelf (one s) file (file + 1) (Err stop)
stops_by_reader shelf s file most bytes now NoMemory stop leaves limit is_read same refuses is =
    let P : Stop → Type 0 = λ x. Follows shelf (one s) file (file + 1) (Err x) in
    subst P (sym is) (record { answers = tt; unfailing = λ steady files e holds fault. fault; leaves = leaves })
stops_by_reader shelf s file most bytes now (NotTaken error) stop leaves limit is_read same refuses is =
    let P : Stop → Type 0 = λ x. Follows shelf (one s) file (file + 1) (Err x) in
    let Q : List ℕ → Type 0 = λ b. s.Refuses b error in
    let R : ℕ → Type 0 = λ n. IsRead shelf.before.held s.name n bytes in
    subst P (sym is) (record {
      answers = inl (refl, (bytes, subst R limit is_read, subst Q same refuses));
      unfailing = λ steady files e holds fault. fault;
      leaves = leaves;
    })

-- the moments of a call
abbrev moments : Shelved → Shelved → Fetches
moments old new = record { before = old; now = new }

-- two calls, one after the other
module _ (old mid new : Shelved) (early : Leaves (moments old mid)) where
  leaves_both : Leaves (moments mid new) → Leaves (moments old new)
  leaves_both late = record {
    held = late.held ∙ early.held;
    steady = λ s. late.steady (early.steady s);
    faults = omega (arith, early.faults, late.faults);
    fetches = omega (arith, early.fetches, late.fetches);
  }

  fails_both : (s : Stage) → Fails (moments mid new) s.name → Fails (moments old new) s.name
  fails_both s fails = record { rose = omega (arith, early.faults, fails.rose); named = fails.named; failed = fails.failed }

  refused_both : (cause : Cause) (s : Stage) → IsRefusedFor (moments mid new) cause s → IsRefusedFor (moments old new) cause s
  refused_both TooLong s long = record {
    told = (let P : Option Files → Type 0 = λ h. ForSome h (λ files. IsSomeAnd (get files s.name) (λ bytes. s.most < length bytes)) in
        subst P early.held long.told);
    rose = omega (arith, early.fetches, long.rose);
    named = long.named;
    more = long.more;
  }
  refused_both (Reader e) s (bytes, is_read, refuses) =
      let P : Option Files → Type 0 = λ h. IsRead h s.name s.most bytes in (bytes, subst P early.held is_read, refuses)

  -- what holds of a file over the second call holds of it over both
  comes_both : {A : Type 0} (P Q : Stage → Type 0) (plan : Plan A) (first k : ℕ) → ((s : Stage) → P s → Q s)
      → ComesAt mid.held P plan first k → ComesAt old.held Q plan first k
  comes_both P Q (done x) first k so comes = absurd comes
  comes_both P Q (ask s rest) first k so (inl (is, here)) = inl (is, so s here)
  comes_both P Q (ask s rest) first k so (inr (v, was_read, comes)) =
      let R : Option Files → Type 0 = λ h. IsReadAs h s v in
      inr (v, subst R early.held was_read, comes_both P Q (rest v) (first + 1) k so comes)

  gives_both : {A : Type 0} (plan : Plan A) (first next : ℕ) (a : A) → Gives mid.held plan first next a → Gives old.held plan first next a
  gives_both plan first next a gives = let P : Option Files → Type 0 = λ h. Gives h plan first next a in subst P early.held gives

  stops_both : {A B : Type 0} (plan : Plan A) (after : A → Plan B) (first middle : ℕ) (a : A) (stop : Stop)
      → Gives old.held plan first middle a → StopsIn (moments mid new) (after a) middle stop → StopsIn (moments old new) (followed_by plan after) first stop
  stops_both plan after first middle a Memory gives stops = tt
  stops_both plan after first middle a (Fault k) gives stops =
      comes_behind old.held after (λ s. Fails (moments old new) s.name) plan first middle k a gives
      (comes_both (λ s. Fails (moments mid new) s.name) (λ s. Fails (moments old new) s.name) (after a) middle k fails_both stops)
  stops_both plan after first middle a (Refused k cause) gives stops =
      comes_behind old.held after (IsRefusedFor (moments old new) cause) plan first middle k a gives
      (comes_both (IsRefusedFor (moments mid new) cause) (IsRefusedFor (moments old new) cause) (after a) middle k (refused_both cause) stops)

-- a plan that gave its value, and then one that rests on it
pub follows_both : {A B : Type 0} (old mid new : Shelved) (plan : Plan A) (after : A → Plan B) (first middle next : ℕ) (a : A) (result : Result B Stop)
    → Follows (moments old mid) plan first middle (Ok a) → Follows (moments mid new) (after a) middle next result
    → Follows (moments old new) (followed_by plan after) first next result
follows_both old mid new plan after first middle next a (Ok b) early late = record {
  answers = gives_then old.held after plan first middle next a b early.answers (gives_both old mid new early.leaves (after a) middle next b late.answers);
  unfailing = tt;
  leaves = leaves_both old mid new early.leaves late.leaves;
}
follows_both old mid new plan after first middle next a (Err stop) early late = record {
  answers = stops_both old mid new early.leaves plan after first middle a stop early.answers late.answers;
  unfailing = λ steady files e holds fault. late.unfailing (early.leaves.steady steady) files (early.leaves.held ∙ e)
      (holds_behind old.held after files plan first middle a e early.answers holds) fault;
  leaves = leaves_both old mid new early.leaves late.leaves;
}

stops_first : {A B : Type 0} (shelf : Fetches) (plan : Plan A) (after : A → Plan B) (first : ℕ) (stop : Stop) → StopsIn shelf plan first stop →
    StopsIn shelf (followed_by plan after) first stop
stops_first shelf plan after first Memory stops = tt
stops_first shelf plan after first (Fault k) stops = comes_in shelf.before.held after (λ s. Fails shelf s.name) plan first k stops
stops_first shelf plan after first (Refused k cause) stops = comes_in shelf.before.held after (IsRefusedFor shelf cause) plan first k stops

-- a plan one of whose files gave no value, whatever would have come behind it
pub follows_first : {A B : Type 0} (shelf : Fetches) (plan : Plan A) (after : A → Plan B) (first middle next : ℕ) (stop : Stop)
    → Follows shelf plan first middle (Err stop) → Follows shelf (followed_by plan after) first next (Err stop)
follows_first shelf plan after first middle next stop early = record {
  answers = stops_first shelf plan after first stop early.answers;
  unfailing = λ steady files e holds. early.unfailing steady files e (holds_in files plan after holds);
  leaves = early.leaves;
}

-- a file that gave its value, and then the stages that rest on it
pub follows_stage : {B : Type 0} {old mid new : Shelved} (s : Stage) (rest : s.Value →
    Plan B) (first middle start next : ℕ) (v : s.Value) (result : Result B Stop)
    → middle ≡ start
    → Follows (record { before = old; now = mid }) (one s) first middle (Ok v)
    → Follows (record { before = mid; now = new }) (rest v) start next result
    → Follows (record { before = old; now = new }) (ask s rest) first next result
follows_stage {B} {old} {mid} {new} s rest first middle start next v result same early late =
    let P : ℕ → Type 0 = λ n. Follows (record { before = mid; now = new }) (rest v) n next result in
    follows_both old mid new (one s) rest first middle next v result early (subst P (sym same) late)

-- a file that gave none
pub follows_stop : {B : Type 0} {shelf : Fetches} (s : Stage) (rest : s.Value → Plan B) (first middle next : ℕ) (stop : Stop)
    → Follows shelf (one s) first middle (Err stop) → Follows shelf (ask s rest) first next (Err stop)
follows_stop {B} {shelf} s rest first middle next stop early = follows_first shelf (one s) rest first middle next stop early

-- want of memory behind the last file
pub follows_nothing : {A : Type 0} (shelf : Fetches) (plan : Plan A) (first next : ℕ) (stop : Stop) → stop ≡ Memory → Leaves shelf →
    Follows shelf plan first next (Err stop)
follows_nothing shelf plan first next stop is leaves =
    let P : Stop → Type 0 = λ s. Follows shelf plan first next (Err s) in
    subst P (sym is) (record { answers = tt; unfailing = λ steady files e holds fault. fault; leaves = leaves })

-- behind the last file: what the values make
pub follows_made : {A : Type 0} (shelf : Fetches) (made a : A) (first next : ℕ) → made ≡ a → first ≡ next → Leaves shelf →
    Follows shelf (done made) first next (Ok a)
follows_made shelf made a first next is same leaves = record { answers = (is, same); unfailing = tt; leaves = leaves }

-- a call that touches no file
pub leaves_same : (at : Shelved) → Leaves (record { before = at; now = at })
leaves_same at = record { held = refl; steady = λ s. s; faults = omega arith; fetches = omega arith }

-- want of memory behind a plan that gave its value
pub follows_then_nothing : {A : Type 0} (shelf : Fetches) (plan : Plan A) (first next : ℕ) (a : A) (stop : Stop) → stop ≡ Memory →
    Follows shelf plan first next (Ok a) → Follows shelf plan first next (Err stop)
follows_then_nothing shelf plan first next a stop is follows = follows_nothing shelf plan first next stop is follows.leaves
