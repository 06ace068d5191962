-- The command entries are those of all callers added up.
use Rattle.std.proofs.Common.{◌≡◌, ℕ, ◌+◌, ◌<◌, Bool, cond, List, [], ◌∷◌, length, refl, sym, ap, arith, length-append, eq-eqb}
use Rattle.std.specs.List.{filter_map}
use Rattle.std.proofs.lemmas.Bool.{ne_eqb}
use Rattle.std.proofs.lemmas.List.Sums.{sum_by-cons}
use Rattle.std.proofs.lemmas.List.Elements.{All-head, All-tail, filter_map-append}
use Rattle.bp_types.specs.declared.command.Command.{Command}
use Rattle.bp_types.proofs.SumLemmas.{sum_below-at, sum_below-zero}
use Rattle.bp_core.specs.declared.line.Act.{Act}
use Rattle.bp_core.specs.declared.line.Act.TheVariants.{Do, Publish, Enrol, Leave}
use Rattle.bp_core.specs.declared.line.Line.{Line}
use Rattle.bp_core.specs.Lines.{History, is_command, command_of, commands_of, calls}
use Rattle.bp_core.specs.Counting.{CommandsAddUp}

-- the commands among some lines
abbrev commands_in : History → List Command
commands_in H = filter_map (λ (x : Line). command_of x.entry.act) H

one_command : (x : Line) → length (commands_in (x ∷ [])) ≡ cond {A = ℕ} (is_command x) 1 0
one_command x = by_act x.entry.act refl
  where
    by_act : (a : Act) → x.entry.act ≡ a → length (commands_in (x ∷ [])) ≡ cond {A = ℕ} (is_command x) 1 0
    by_act (Do command) e = rw e refl
    by_act (Publish position) e = rw e refl
    by_act Enrol e = rw e refl
    by_act Leave e = rw e refl

mine : (x : Line) (H : History) → length (commands_of (x ∷ H) x.entry.caller) ≡ length (commands_of H x.entry.caller) + cond {A = ℕ} (is_command x) 1 0
mine x H =
    let e : calls (x ∷ H) x.entry.caller ≡ x ∷ calls H x.entry.caller =
    ap (λ (b : Bool). cond b (x ∷ calls H x.entry.caller) (calls H x.entry.caller)) (eq-eqb x.entry.caller x.entry.caller refl) in
    let split = ap length (filter_map-append (λ (y : Line). command_of y.entry.act) (x ∷ []) (calls H x.entry.caller)) in
    let n = ap (λ es. length (commands_in es)) e in
    omega (arith, n, split, one_command x, length-append (commands_in (x ∷ [])) (commands_in (calls H x.entry.caller)))

others : (x : Line) (H : History) (c : ℕ) → (c ≡ x.entry.caller → ⊥) → length (commands_of (x ∷ H) c) ≡ length (commands_of H c)
others x H c ne = ap (λ (b : Bool). length (commands_in (cond b (x ∷ calls H c) (calls H c)))) (ne_eqb x.entry.caller c (λ e. ne (sym e)))

pub commands_add_up : CommandsAddUp
commands_add_up [] n all = sym (sum_below-zero n)
commands_add_up (x ∷ H) n all =
    let P : Line → Type 0 = λ y. y.entry.caller < n in
    let rest = commands_add_up H n (All-tail P x H all) in
    let at = sum_below-at (λ c. length (commands_of (x ∷ H) c)) (λ c. length (commands_of H c)) n x.entry.caller (All-head P x H all)
    (λ c low ne. others x H c ne) in
    omega (arith, rest, at, mine x H, sum_by-cons (λ y. cond {A = ℕ} (is_command y) 1 0) x H)
