-- Scenarios that were read may be asked about.
use Rattle.std.proofs.Common.{◌≡◌, ℕ, zero, suc, ◌+◌, ◌<◌, ◌≤◌, arith, List, [], ◌∷◌, ◌++◌, length, All, length-append, subst, sym}
use Rattle.std.specs.Prelude.{Result, Ok, Err, IfOk}
use Rattle.bp_types.specs.declared.change.Change.{Change}
use Rattle.bp_types.specs.declared.limits.TheConstants.{MOST_CHANGES}
use Rattle.bp_types.specs.Program.{Program}
use Rattle.bp_text.specs.declared.text_error.TextError.{TextError}
use Rattle.bp_text.specs.Reading.{IsText, seen_as}
use Rattle.bp_scenarios.specs.Refused.{IsChangeOf, IsChangeWithin, IsAskable}
use Rattle.bp_scenarios.specs.Texts.{all_changes, scenario_lines, AreWithin}

all_front : (P : Change → Type 0) (xs ys : List Change) → All P (xs ++ ys) → All P xs
all_front P [] ys all k d h = absurd (omega arith)
all_front P (x ∷ xs) ys all zero d h = all 0 d (omega arith)
all_front P (x ∷ xs) ys all (suc k) d h = all_front P xs ys (λ j e g. all (suc j) e (omega arith)) k d (omega arith)

all_behind : (P : Change → Type 0) (xs ys : List Change) → All P (xs ++ ys) → All P ys
all_behind P [] ys all = all
all_behind P (x ∷ xs) ys all = all_behind P xs ys (λ j e g. all (suc j) e (omega arith))

-- each scenario of those within the limits
pub askable : (p : Program) (lists : List (List Change)) → length (all_changes lists) ≤ MOST_CHANGES → All (IsChangeWithin p) (all_changes lists) →
    All (IsAskable p) lists
askable p [] few all k d h = absurd (omega arith)
askable p (cs ∷ lists) few all zero d h =
    record { not_too_many = omega (arith, length-append cs (all_changes lists), few); each = all_front (IsChangeWithin p) cs (all_changes lists) all }
askable p (cs ∷ lists) few all (suc k) d h =
    askable p lists (omega (arith, length-append cs (all_changes lists), few)) (all_behind (IsChangeWithin p) cs (all_changes lists) all) k d (omega arith)

-- a text of a problem of this size is one of the problem
pub of_size : (p : Program) (nights stays : ℕ) (bytes : List ℕ) (r : Result (List (List Change)) TextError) → nights ≡ length p.rooms → stays ≡ length p.stays
    → IsText scenario_lines (AreWithin (IsChangeOf nights stays)) bytes r → IsText scenario_lines (AreWithin (IsChangeWithin p)) bytes r
of_size p nights stays bytes r n s text =
    let P : ℕ → Type 0 = λ k. IsText scenario_lines (AreWithin (IsChangeOf k stays)) bytes r in
    let Q : ℕ → Type 0 = λ k. IsText scenario_lines (AreWithin (IsChangeOf (length p.rooms) k)) bytes r in
    subst Q s (subst P n text)

pub askable_text : (p : Program) (bytes : List ℕ) (r : Result (List (List Change)) TextError) → IsText scenario_lines (AreWithin (IsChangeWithin p)) bytes r →
    IfOk r (λ lists. All (IsAskable p) lists)
askable_text p bytes (Ok lists) text = askable p lists text.0.changes text.0.each
askable_text p bytes (Err e) text = tt

pub seen_ok : {X Y : Type 0} (view : X → Y) (P : Y → Type 0) (r : Result X TextError) → IfOk (seen_as view r) P → IfOk r (λ x. P (view x))
seen_ok view P (Ok x) h = h
seen_ok view P (Err e) h = tt
