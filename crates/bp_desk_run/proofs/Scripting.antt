-- Callers made of scripts.
use Rattle.std.proofs.Common.{
  ◌≡◌,
  ◌≢◌,
  ℕ,
  zero,
  suc,
  ◌+◌,
  ◌-◌,
  ◌<◌,
  ◌≤◌,
  List,
  [],
  ◌∷◌,
  ◌++◌,
  length,
  All,
  refl,
  sym,
  ap,
  subst,
  ◌∙◌,
  arith,
  length-append,
  append_assoc,
  slice_index_or,
  IsTrue,
}
use mathlib.Core.Logic.{dite}
use native.Mathlib.Decide.{dec_lt, dec_le}
use Rattle.std.proofs.Math.ListN.{get_or-append}
use Rattle.std.proofs.Math.Seq.{get_or-append_seam}
use Rattle.std.proofs.lemmas.List.{get_or_past}
use Rattle.std.proofs.lemmas.List.Elements.{All-nil}
use Rattle.bp_types.specs.House.{Inn}
use Rattle.bp_types.specs.declared.command.Command.{Command}
use Rattle.bp_turn.specs.Prefix.{IsPrefix}
use Rattle.bp_core.specs.Legal.{is_command_in_range}
use Rattle.bp_optimise.specs.Sessions.{AreInRange}
use Rattle.bp_desk_run.specs.DeskRun.{script_of}
use Rattle.bp_desk_run.specs.declared.actor.Actor.{Actor}
use Rattle.bp_desk_run.specs.Finals.{AreScripted}

-- the first callers of a run have their commands, those of the last number first
abbrev pub AreFirst : List (List Command) → ℕ → List Actor → Type 0
AreFirst scripts workers actors = (k : ℕ) (a : Actor) → k < length actors →
    (slice_index_or actors k a).commands.items ≡ script_of scripts (length scripts + workers - (k + 1))

pub none_first : (scripts : List (List Command)) (workers : ℕ) (xs : List Actor) → xs ≡ [] → AreFirst scripts workers xs
none_first scripts workers xs is k a lt = absurd (let e = ap length is in omega (arith, e, lt))

pub no_script : (scripts : List (List Command)) (i : ℕ) → length scripts ≤ i → script_of scripts i ≡ []
no_script scripts i le = get_or_past scripts i [] le

-- one caller more
pub first_more : (scripts : List (List Command)) (workers : ℕ) (xs ys : List Actor) (x : Actor) → ys ≡ xs ++ x ∷ [] → AreFirst scripts workers xs →
    x.commands.items ≡ script_of scripts (length scripts + workers - (length xs + 1)) → AreFirst scripts workers ys
first_more scripts workers xs ys x is old new k a lt = dite (dec_lt k (length xs))
    (λ low. ap (λ (l : List Actor). (slice_index_or l k a).commands.items) is ∙ ap (λ (y : Actor). y.commands.items) (get_or-append xs (x ∷ []) a k low) ∙
    old k a low)
    (λ high.
    let n = ap length is in
    let e : k ≡ length xs = omega (arith, high, lt, n, length-append xs (x ∷ [])) in
    ap (λ (l : List Actor). (slice_index_or l k a).commands.items) is ∙ ap (λ j. (slice_index_or (xs ++ x ∷ []) j a).commands.items) e ∙
    ap (λ (y : Actor). y.commands.items) (get_or-append_seam xs x [] a)
    ∙ new ∙ ap (λ j. script_of scripts (length scripts + workers - (j + 1))) (sym e))

-- a worker has no command
pub worker_more : (scripts : List (List Command)) (workers : ℕ) (xs ys : List Actor) (x : Actor) → ys ≡ xs ++ x ∷ [] → AreFirst scripts workers xs →
    length xs < workers → x.commands.items ≡ [] → AreFirst scripts workers ys
worker_more scripts workers xs ys x is old few none =
    first_more scripts workers xs ys x is old (none ∙ sym (no_script scripts (length scripts + workers - (length xs + 1)) (omega (arith, few))))

-- a session has the last script that is left
pub session_more : (init left rest : List (List Command)) (script : List Command) (workers j : ℕ) (xs ys : List Actor) (x : Actor) → ys ≡ xs ++ x ∷ [] →
    AreFirst init workers xs → length xs ≡ workers + j → length left + j ≡ length init → IsPrefix left init
    → left ≡ rest ++ script ∷ [] → x.commands.items ≡ script → AreFirst init workers ys × IsPrefix rest init
session_more init left rest script workers j xs ys x is old many some (more, begins) last made =
    let whole : init ≡ rest ++ (script ∷ more) = begins ∙ ap (λ l. l ++ more) last ∙ append_assoc rest (script ∷ []) more in
    let n = ap length last in
    let at : length init + workers - (length xs + 1) ≡ length rest = omega (arith, many, some, n, length-append rest (script ∷ [])) in
    let there : script_of init (length rest) ≡ script = ap (λ l. script_of l (length rest)) whole ∙ get_or-append_seam rest script more [] in
    (first_more init workers xs ys x is old (made ∙ sym there ∙ ap (script_of init) (sym at)), (script ∷ more, whole))

pub scripted : (scripts : List (List Command)) (workers : ℕ) (xs : List Actor) → length xs ≡ length scripts + workers → AreFirst scripts workers xs →
    AreScripted scripts workers (length scripts) xs
scripted scripts workers xs many first = record {
  sessions_are = refl;
  callers = many;
  commands = λ c a low high.
      let e : length scripts + workers - (length xs - c + 1) ≡ c - 1 = omega (arith, many, low, high) in
      first (length xs - c) a (omega (arith, low, high)) ∙ ap (script_of scripts) e;
}

-- the commands of all callers are in range
pub all_in_range : (house : Inn) (scripts : List (List Command)) (workers sessions : ℕ) (xs : List Actor) →
    ((i : ℕ) (cs : List Command) → i < length scripts → AreInRange house (slice_index_or scripts i cs)) → AreScripted scripts workers sessions xs
    → (i : ℕ) (a : Actor) → i < length xs → AreInRange house (slice_index_or xs i a).commands.items
all_in_range house scripts workers sessions xs range s i a lt =
    let place : length xs - (length xs - i) ≡ i = omega (arith, lt) in
    let made : (slice_index_or xs i a).commands.items ≡ script_of scripts (length xs - i - 1) = ap (λ k. (slice_index_or xs k a).commands.items) (sym place) ∙
    s.commands (length xs - i) a (omega (arith, lt)) (omega arith) in
    subst (AreInRange house) (sym made) (by_script (length xs - i - 1))
  where
    by_script : (k : ℕ) → AreInRange house (script_of scripts k)
    by_script k = dite (dec_lt k (length scripts))
        (λ low. range k [] low)
        (λ high. subst (AreInRange house) (sym (no_script scripts k (omega (arith, high)))) (All-nil (λ (c : Command). IsTrue (is_command_in_range house c))))

pub workers_have_none : (scripts : List (List Command)) (workers sessions : ℕ) (xs : List Actor) → AreScripted scripts workers sessions xs →
    (c : ℕ) (a : Actor) → sessions < c → c ≤ length xs → (slice_index_or xs (length xs - c) a).commands.items ≡ []
workers_have_none scripts workers sessions xs s c a above high =
    let e = s.sessions_are in
    s.commands c a (omega (arith, above)) high ∙ no_script scripts (c - 1) (omega (arith, above, e))

-- the same of a slice of them, with the number of sessions told
pub scripted_there : (scripts : List (List Command)) (workers sessions : ℕ) (xs ys : List Actor) → length scripts ≡ sessions → xs ≡ ys →
    AreScripted scripts workers (length scripts) xs → AreScripted scripts workers sessions ys
scripted_there scripts workers sessions xs ys told same s =
    subst (AreScripted scripts workers sessions) same (subst (λ k. AreScripted scripts workers k xs) told s)
