-- The commands of a run, and those of its scripts.
use Rattle.std.proofs.Common.{
  ◌≡◌,
  ◌≢◌,
  ℕ,
  zero,
  suc,
  ◌+◌,
  ◌-◌,
  ◌<◌,
  ◌≤◌,
  ◌==◌,
  Bool,
  true,
  false,
  ◌&&◌,
  cond,
  List,
  [],
  ◌∷◌,
  ◌++◌,
  length,
  take,
  count_by,
  filter,
  All,
  Option,
  Some,
  None,
  is_some,
  refl,
  sym,
  ap,
  subst,
  ◌∙◌,
  arith,
  length-append,
  eq-eqb,
  slice_index_or,
}
use mathlib.Core.Logic.{dite}
use native.Mathlib.Decide.{ℕ_discrete, dec_le}
use Rattle.std.specs.List.{filter_map}
use Rattle.std.proofs.lemmas.Bool.{ne_eqb}
use Rattle.std.proofs.lemmas.List.{get_or_past}
use Rattle.std.proofs.lemmas.List.Sums.{sum_by-cons}
use Rattle.std.proofs.lemmas.List.Elements.{All-head, All-tail}
use Rattle.bp_types.specs.House.{Inn}
use Rattle.bp_types.specs.Sums.{sum_below}
use Rattle.bp_types.proofs.SumLemmas.{sum_below-cong, sum_below-le, sum_below-zero, sum_below-first, sum_below-tight}
use Rattle.bp_types.specs.declared.command.Command.{Command}
use Rattle.bp_turn.specs.Prefix.{IsPrefix}
use Rattle.bp_core.specs.declared.line.Act.{Act}
use Rattle.bp_core.specs.declared.line.Act.TheVariants.{Do, Publish, Enrol, Leave}
use Rattle.bp_core.specs.declared.line.Line.{Line}
use Rattle.bp_core.specs.Lines.{History, is_by, is_command, command_of, commands, commands_of, calls}
use Rattle.bp_core.proofs.Adding.{commands_add_up}
use Rattle.bp_desk_run.specs.DeskRun.{script_of, IsDeskRun, all_commands}

-- the number of commands that a caller has
abbrev pub given : List (List Command) → ℕ → ℕ
given scripts zero = 0
given scripts (suc i) = length (script_of scripts i)

past_given : (scripts : List (List Command)) (c : ℕ) → length scripts < c → given scripts c ≡ 0
past_given scripts zero high = refl
past_given scripts (suc i) high = ap length (get_or_past scripts i [] (omega (arith, high)))

lengths : (scripts : List (List Command)) (n : ℕ) → length scripts ≤ n → sum_below (λ i. length (script_of scripts i)) n ≡ all_commands scripts
lengths [] n le = sum_below-zero n
lengths (cs ∷ rest) zero le = absurd (omega (arith, le))
lengths (cs ∷ rest) (suc n) le =
    let f : ℕ → ℕ = λ i. length (script_of (cs ∷ rest) i) in
    let next = sum_below-cong (λ i. f (i + 1)) (λ i. length (script_of rest i)) n (λ i lt. let e : i + 1 ≡ suc i = omega arith in ap f e) in
    omega (arith, sum_below-first f n, next, lengths rest n (omega (arith, le)))

-- what all callers were given is what there is
sum_given : (scripts : List (List Command)) (n : ℕ) → length scripts ≤ n → sum_below (given scripts) (suc n) ≡ all_commands scripts
sum_given scripts n le =
    let next = sum_below-cong (λ i. given scripts (i + 1)) (λ i. length (script_of scripts i)) n (λ i lt. let e : i + 1 ≡ suc i = omega arith in
    ap (given scripts) e) in
    omega (arith, sum_below-first (given scripts) n, next, lengths scripts n le)

prefix_few : (xs ys : List Command) → IsPrefix xs ys → length xs ≤ length ys
prefix_few xs ys (rest, is) = let n = ap length is in omega (arith, n, length-append xs rest)

same_prefix : (xs ys : List Command) → IsPrefix xs ys → length ys ≤ length xs → xs ≡ ys
same_prefix xs ys ([], is) le = sym (is ∙ Rattle.std.proofs.Common.append-nil xs)
same_prefix xs ys (x ∷ rest, is) le = absurd (let n = ap length is in omega (arith, n, le, length-append xs (x ∷ rest)))

-- nobody makes more commands than it was given
within_given : (house : Inn) (scripts : List (List Command)) (workers : ℕ) (H : History) → IsDeskRun house scripts workers H → (c : ℕ) →
    length (commands_of H c) ≤ given scripts c
within_given house scripts workers H r zero = let n = ap length (r.no_command 0 (Rattle.std.proofs.Common.inl refl)) in omega (arith, n)
within_given house scripts workers H r (suc i) = dite (dec_le (length scripts) i)
    (λ high. let n = ap length (r.no_command (suc i) (Rattle.std.proofs.Common.inr (omega (arith, high)))) in omega (arith, n))
    (λ low.
    let e : i + 1 ≡ suc i = omega arith in
    let first : IsPrefix (commands_of H (suc i)) (script_of scripts i) =
    subst (λ k. IsPrefix (commands_of H k) (script_of scripts i)) e (r.in_order i (omega (arith, low))) in
    prefix_few (commands_of H (suc i)) (script_of scripts i) first)

callers_below : (H : History) (n : ℕ) → All (λ (x : Line). x.entry.caller ≤ n) H → All (λ (x : Line). x.entry.caller < suc n) H
callers_below H n all i d lt = let le = all i d lt in omega (arith, le)

-- the commands of a run, caller by caller
by_caller : (house : Inn) (scripts : List (List Command)) (workers : ℕ) (H : History) → IsDeskRun house scripts workers H →
    commands H ≡ sum_below (λ c. length (commands_of H c)) (suc (length scripts + workers))
by_caller house scripts workers H r = commands_add_up H (suc (length scripts + workers)) (callers_below H (length scripts + workers) r.callers)

-- a run has no more commands than its scripts
pub commands_at_most : (house : Inn) (scripts : List (List Command)) (workers : ℕ) (H : History) → IsDeskRun house scripts workers H →
    commands H ≤ all_commands scripts
commands_at_most house scripts workers H r =
    let n = length scripts + workers in
    let le = sum_below-le (λ c. length (commands_of H c)) (given scripts) (suc n) (λ c low. within_given house scripts workers H r c) in
    omega (arith, by_caller house scripts workers H r, le, sum_given scripts n (omega arith))

-- where a session lacks commands there are fewer
pub commands_lacking : (house : Inn) (scripts : List (List Command)) (workers : ℕ) (H : History) → IsDeskRun house scripts workers H → (i : ℕ) →
    i < length scripts → commands_of H (i + 1) ≢ script_of scripts i → commands H < all_commands scripts
commands_lacking house scripts workers H r i lt other =
    dite (dec_le (all_commands scripts) (commands H)) (λ le. absurd (other (whole le))) (λ less. omega (arith, less))
  where
    n : ℕ
    n = length scripts + workers

    e : i + 1 ≡ suc i
    e = omega arith

    whole : all_commands scripts ≤ commands H → commands_of H (i + 1) ≡ script_of scripts i
    whole le =
        let each = sum_below-tight (λ c. length (commands_of H c)) (given scripts) (suc n) (λ c low. within_given house scripts workers H r c)
        (omega (arith, le, by_caller house scripts workers H r, sum_given scripts n (omega arith))) in
        let same : length (commands_of H (suc i)) ≡ given scripts (suc i) = each (suc i) (omega (arith, lt)) in
        same_prefix (commands_of H (i + 1)) (script_of scripts i) (r.in_order i lt) (let l = ap (λ k. length (commands_of H k)) e in omega (arith, l, same))
