-- Good files are not refused. A command is known to a complete call by `IsSound` alone.
use Rattle.std.proofs.Common.{◌≡◌, ◌≢◌, ◌≤◌, ◌<◌, inl, inr, ℕ, ◌+◌, refl, sym, subst, arith, List, length, Option, Some, IsSome, IsSomeAnd}
use Rattle.std.specs.FinMap.{get}
use Rattle.bp_edges.specs.Held.{Files}
use Rattle.bp_cli.specs.Words.{Word}
use Rattle.bp_cli.specs.Tasks.{Task}
use Rattle.bp_run.specs.Statuses.{status_number}
use Rattle.bp_inputs.specs.Stages.{Stage, Plan, done, ask, IsRead, IsReadAs, Gives, ComesAt, HoldsFiles, AreGood, IsReadOneWay, AreReadOneWay}
use Rattle.bp_inputs.specs.Fetches.{Fetches, IsRefusedFor}
use Rattle.bp_run.specs.Command.{Command}
use Rattle.bp_run.specs.Commands.{command_of, answer_status}
use Rattle.bp_run.specs.Lines.{end_status}
use Rattle.bp_run.specs.Ends.{HasEnd, IsComplete, HoldsAll}
use Rattle.bp_run.specs.declared.status.Status.TheVariants as status
use Rattle.bp_inputs.specs.declared.cause.Cause.{Cause}
use Rattle.bp_inputs.specs.declared.cause.Cause.TheVariants.{TooLong, Reader}
use Rattle.bp_run.specs.declared.end.Answer.{Answer}
use Rattle.bp_run.specs.declared.end.End.{End}
use Rattle.bp_run.specs.declared.end.End.TheVariants.{NotPlain, Fault, Refused, Answered}

-- what a command owes: its files are read in one way, and an answer to what is served is done or wrong
pub record IsSound (command : Command) : Type 0 where
  pub one_way : AreReadOneWay command.plan
  pub ends : (given : command.Given) (own : command.Own) → command.IsServed given → command.IsRight given own
      → status_number (answer_status (command.among own)) ≤ 1

-- a file that is read in one way, on a shelf that tells what it holds
module _ (files : Files) (held : Option Files) (told : held ≡ Some files) (s : Stage) (one_way : IsReadOneWay s) where
  same_bytes : (a b : List ℕ) → IsRead (Some files) s.name s.most a → IsRead held s.name s.most b → b ≡ a
  same_bytes a b first second =
      let x : get files s.name ≡ Some a = first.told files refl in
      let y : get files s.name ≡ Some b = second.told files told in
      cc

  same_value : (v w : s.Value) → IsReadAs (Some files) s v → IsReadAs held s w → w ≡ v
  same_value v w first second =
      let P : List ℕ → Type 0 = λ b. s.Accepts b w in
      one_way.one_value first.bytes w v (subst P (same_bytes first.bytes second.bytes first.is_read second.is_read) second.accepted) first.accepted

never_refused : (shelf : Fetches) (files : Files) → shelf.before.held ≡ Some files → (s : Stage) → IsReadOneWay s → (v : s.Value) → IsReadAs (Some files) s v
    → (cause : Cause) → IsRefusedFor shelf cause s → ⊥
never_refused shelf files told s one_way v first TooLong long =
    let P : Option (List ℕ) → Type 0 = λ o. IsSomeAnd o (λ bytes. s.most < length bytes) in
    let more = subst P (first.is_read.told files refl) (long.told files told) in
    omega (arith, first.is_read.short, more)
never_refused shelf files told s one_way v first (Reader e) (bytes, is_read, refuses) =
    let P : List ℕ → Type 0 = λ b. s.Refuses b e in
    one_way.not_both first.bytes v e first.accepted
    (subst P (same_bytes files shelf.before.held told s one_way first.bytes bytes first.is_read is_read) refuses)

-- none of good files is refused
pub not_refused : {A : Type 0} (shelf : Fetches) (files : Files) (Q : A → Type 0) (plan : Plan A) (first k : ℕ) (cause : Cause)
    → shelf.before.held ≡ Some files → AreReadOneWay plan → AreGood files Q plan → ComesAt shelf.before.held (IsRefusedFor shelf cause) plan first k → ⊥
not_refused shelf files Q (done x) first k cause told one_way good comes = comes
not_refused shelf files Q (ask s rest) first k cause told (here, later) (v, was_read, good) (inl (is, refused)) =
    never_refused shelf files told s here v was_read cause refused
not_refused shelf files Q (ask s rest) first k cause told (here, later) (v, was_read, good) (inr (w, read_too, comes)) =
    let P : s.Value → Type 0 = λ x. ComesAt shelf.before.held (IsRefusedFor shelf cause) (rest x) (first + 1) k in
    not_refused shelf files Q (rest v) (first + 1) k cause told (later v) good
    (subst P (same_value files shelf.before.held told s here v w was_read read_too) comes)

-- what good files give is served
pub given_is_served : {A : Type 0} (files : Files) (held : Option Files) (Q : A → Type 0) (plan : Plan A) (first next : ℕ) (a : A)
    → held ≡ Some files → AreReadOneWay plan → AreGood files Q plan → Gives held plan first next a → Q a
given_is_served files held Q (done x) first next a told one_way good (is, same) = subst Q is good
given_is_served files held Q (ask s rest) first next a told (here, later) (v, was_read, good) (w, read_too, gives) =
    let P : s.Value → Type 0 = λ x. Gives held (rest x) (first + 1) next a in
    given_is_served files held Q (rest v) (first + 1) next a told (later v) good (subst P (same_value files held told s here v w was_read read_too) gives)

some_there : {X : Type 0} (there : Option X) (x : X) → there ≡ Some x → IsSome there
some_there there x is = rw is refl

-- good files are there
pub good_are_there : {A : Type 0} (files : Files) (Q : A → Type 0) (plan : Plan A) → AreReadOneWay plan → AreGood files Q plan → HoldsFiles files plan
good_are_there files Q (done x) one_way good = tt
good_are_there files Q (ask s rest) (here, later) (v, was_read, good) =
    let P : s.Value → Type 0 = λ x. HoldsFiles files (rest x) in (
      some_there (get files s.name) was_read.bytes (was_read.is_read.told files refl),
      λ w read_too. subst P (sym (same_value files (Some files) refl s here v w was_read read_too)) (good_are_there files Q (rest v) (later v) good),
    )

-- where each command is sound
module _ (sound : (task : Task) → IsSound (command_of task)) where
  -- a call on complete words ends with an answer that is done or wrong, or by a fault
  pub complete : (words : List Word) (shelf : Fetches) (end : End) → IsComplete words shelf.before.held
      → HasEnd words shelf end → end_status end ≢ status.Fault → status_number (end_status end) ≤ 1
  complete words shelf NotPlain all has none = absurd (has all.plain)
  complete words shelf (Fault file) all has none = absurd (none refl)
  complete words shelf (Refused file cause) all (task, asks, comes) none =
      let command = command_of task in
      absurd (not_refused shelf all.all command.IsServed command.plan 1 file cause all.told (sound task).one_way (all.each task asks) comes)
  complete words shelf (Answered answer) all (task, asks, of) none =
      let command = command_of task in
      let given = of.answered.given in
      let P : Answer → Type 0 = λ a. status_number (answer_status a) ≤ 1 in
      subst P (sym of.is)
      ((sound task).ends given of.own
      (given_is_served all.all shelf.before.held command.IsServed command.plan 1 of.answered.next given all.told (sound task).one_way (all.each task asks)
      of.answered.gives)
      of.answered.right)

  -- every file of complete words is there
  pub holds_all : (words : List Word) (held : Option Files) → IsComplete words held → HoldsAll words held
  holds_all words held all = record {
    files = all.all;
    told = all.told;
    each = λ task asks. good_are_there all.all (command_of task).IsServed (command_of task).plan (sound task).one_way (all.each task asks);
  }
