-- From what is read of the words behind a command to what a whole line is answered.
use Rattle.std.proofs.Common.{
  ◌≡◌,
  ◌∙◌,
  ℕ,
  ◌<◌,
  refl,
  ap,
  arith,
  codes,
  Bool,
  true,
  false,
  cond,
  List,
  [],
  ◌∷◌,
  length,
  drop,
  get_or,
  Option,
  Some,
  None,
  MatchOption,
  String,
  string_bytes,
}
use Rattle.std.specs.Option.{ok_or}
use Rattle.std.specs.Str.{bytes_eq}
use Rattle.std.specs.declared.alloc.Global.{Global}
use Rattle.std.proofs.lemmas.Slice.Eq.{bytes_eq-Decides}
use Rattle.bp_cli.specs.declared.error.WordsError.TheVariants.{Usage}
use Rattle.bp_cli.specs.declared.form.Form.{Form}
use Rattle.bp_cli.specs.declared.form.Form.TheVariants.{Check, Solve, Group, Judge, Desk, Replay, Report, Demo, Scenarios, Sheet, Portfolio}
use Rattle.bp_cli.specs.declared.task.Task.{Task as ReadTask}
use Rattle.bp_cli.specs.Words.{Word, texts}
use Rattle.bp_cli.specs.Tasks.{Asks}
use Rattle.bp_cli.specs.Asked.{asked, IsReadOf, IsAnswered}
use Rattle.bp_cli.specs.Forms.{form_of, command_of}

-- where nothing was read, the words are not plain
pub read_answered : (words : List Word) (read : Option ReadTask) → IsReadOf words read → IsAnswered words (ok_or read Usage)
read_answered words None not_plain = λ _ plain. not_plain plain
read_answered words (Some task) asks = asks

-- something was read
pub task_answered : (words : List Word) (read : Option ReadTask) → MatchOption read ⊥ (λ t. Asks words (asked t)) → IsAnswered words (ok_or read Usage)
task_answered words None never = absurd never
task_answered words (Some task) asks = asks

-- one command is named, or one of those after it
named : (t : Word) (f g : Form) (rest : Option Form) → (rest ≡ Some g → t ≡ command_of g) → cond (bytes_eq t (command_of f)) (Some f) rest ≡ Some g →
    t ≡ command_of g
named t f g rest next e = by_test (bytes_eq t (command_of f)) e (bytes_eq-Decides t (command_of f)).0
  where
    by_test : (b : Bool) → cond b (Some f) rest ≡ Some g → (b ≡ true → t ≡ command_of f) → t ≡ command_of g
    by_test true e same = let is : f ≡ g = (cc) in same refl ∙ ap command_of is
    by_test false e same = next e

-- the word of a form names its command
pub form_tells : (t : Word) (g : Form) → form_of t ≡ Some g → t ≡ command_of g
form_tells t g e =
    named t Check g _ (named t Solve g _ (named t Group g _ (named t Judge g _ (named t Desk g _ (named t Replay g _ (named t Report g _
    (named t Demo g _ (named t Scenarios g _ (named t Sheet g _ (named t Portfolio g None (λ none. absurd (cc)))))))))))) e

-- the first word, and those behind it
pub first_and_rest : (words : List (String Global)) (first : String Global) → 0 < length words → first ≡ get_or words 0 first →
    texts words ≡ string_bytes first ∷ texts (drop 1 words)
first_and_rest [] first some is = absurd (omega arith)
first_and_rest (word ∷ words) first some is = let same : first ≡ word = is in cc
