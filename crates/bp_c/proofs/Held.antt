-- The files of a task are those that hold the texts of a call.
use Rattle.std.proofs.Common.{◌≡◌, ◌∙◌, ℕ, refl, sym, ap, subst, cond, nat_eq, List, [], ◌∷◌, Option, Some, IsSome}
use Rattle.std.specs.Prelude.{codes}
use Rattle.std.specs.Cmp.Lexicographic.{nat_list_cmp_total, texts_ties}
use Rattle.std.specs.FinMap.{get, get-insert}
use lib.Pointwise.{pointwise}
use Rattle.bp_edges.specs.Memory.{NamedBytes, files_of}
use Rattle.bp_cli.specs.Words.{Word}
use Rattle.bp_cli.specs.Tasks.{Task, Asks, check, solve, group, judge, scenarios, sheet}
use Rattle.bp_cli.specs.Laws.{TasksAreUnique}
use Rattle.bp_run.specs.Served.{AreServed}
use Rattle.bp_inputs.specs.Stages.{Plan, HoldsFiles}
use Rattle.bp_run.specs.Commands.{command_of}
use Rattle.bp_run.specs.Ends.{HoldsAll}
use Rattle.bp_c.specs.Calls.{one_file, two_files}

get_front : (file : NamedBytes) (rest : List NamedBytes) (name : List ℕ)
    → get (files_of (file ∷ rest)) name ≡ cond (pointwise nat_eq name file.name) (Some file.bytes) (get (files_of rest) name)
get_front file rest name =
    get-insert nat_list_cmp_total (files_of rest) file.name file.bytes name
    ∙ ap (λ b. cond b (Some file.bytes) (get (files_of rest) name)) (sym (texts_ties name file.name))

some_is : {X : Type 0} (o : Option X) (x : X) → o ≡ Some x → IsSome o
some_is {X = X} o x e = let P : Option X → Type 0 = λ q. IsSome q in subst P (sym e) refl

one_there : (first : List ℕ) → IsSome (get (files_of (one_file first)) (codes "first"))
one_there first = some_is _ first (get_front (record { name = codes "first"; bytes = first }) [] (codes "first"))

first_there : (first second : List ℕ) → IsSome (get (files_of (two_files first second)) (codes "first"))
first_there first second =
    some_is _ first (get_front (record { name = codes "first"; bytes = first }) (record { name = codes "second"; bytes = second } ∷ []) (codes "first"))

second_there : (first second : List ℕ) → IsSome (get (files_of (two_files first second)) (codes "second"))
second_there first second =
    some_is _ second (get_front (record { name = codes "first"; bytes = first }) (record { name = codes "second"; bytes = second } ∷ []) (codes "second")
    ∙ get_front (record { name = codes "second"; bytes = second }) [] (codes "second"))

-- each file of the line that asks for a task is there, where those of the task are
pub holds : TasksAreUnique → (words : List Word) (task : Task) (files : List NamedBytes) → Asks words task → HoldsFiles (files_of files) (command_of task).plan
    → HoldsAll words (Some (files_of files))
holds unique words task files asks there =
    let P : Task → Type 0 = λ t. HoldsFiles (files_of files) (command_of t).plan in record {
      files = files_of files;
      told = refl;
      each = λ t asks_t. subst P (unique words task t asks asks_t) there;
    }

-- a line that asks for no task comes to no file
pub holds_none : (words : List Word) (files : List NamedBytes) → (AreServed words → ⊥) → HoldsAll words (Some (files_of files))
holds_none words files none = record { files = files_of files; told = refl; each = λ task asks. absurd (none (task, asks)) }

-- the same of files that are these
pub held_as : {A : Type 0} (all those : List NamedBytes) (plan : Plan A) → all ≡ those → HoldsFiles (files_of those) plan → HoldsFiles (files_of all) plan
held_as all those plan are there = let P : List NamedBytes → Type 0 = λ f. HoldsFiles (files_of f) plan in subst P (sym are) there

-- the name of one file
module _ (p : Word) (first : List ℕ) (is : p ≡ codes "first") where
  named : IsSome (get (files_of (one_file first)) p)
  named = let P : Word → Type 0 = λ w. IsSome (get (files_of (one_file first)) w) in subst P (sym is) (one_there first)

  pub solve_there : HoldsFiles (files_of (one_file first)) (command_of (solve p)).plan
  solve_there = (named, λ v read. tt)

  pub sheet_there : HoldsFiles (files_of (one_file first)) (command_of (sheet p)).plan
  sheet_there = (named, λ v read. tt)

  pub group_there : (from to rooms : ℕ) → HoldsFiles (files_of (one_file first)) (command_of (group p from to rooms)).plan
  group_there from to rooms = (named, λ v read. tt)

-- the names of two files
module _ (p q : Word) (first second : List ℕ) (p_is : p ≡ codes "first") (q_is : q ≡ codes "second") where
  first_named : IsSome (get (files_of (two_files first second)) p)
  first_named = let P : Word → Type 0 = λ w. IsSome (get (files_of (two_files first second)) w) in subst P (sym p_is) (first_there first second)

  second_named : IsSome (get (files_of (two_files first second)) q)
  second_named = let P : Word → Type 0 = λ w. IsSome (get (files_of (two_files first second)) w) in subst P (sym q_is) (second_there first second)

  pub check_there : HoldsFiles (files_of (two_files first second)) (command_of (check p q)).plan
  check_there = (first_named, λ v read. (second_named, λ w read_w. tt))

  pub judge_there : HoldsFiles (files_of (two_files first second)) (command_of (judge p q)).plan
  judge_there = (first_named, λ v read. (second_named, λ w read_w. tt))

  pub scenarios_there : HoldsFiles (files_of (two_files first second)) (command_of (scenarios p q)).plan
  scenarios_there = (first_named, λ v read. (second_named, λ w read_w. tt))
