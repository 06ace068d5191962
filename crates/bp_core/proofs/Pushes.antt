-- A history with one line more.
use Rattle.std.proofs.Common.{
  ◌≡◌,
  ℕ,
  ◌+◌,
  ◌<◌,
  refl,
  ap,
  ◌∙◌,
  arith,
  Bool,
  true,
  false,
  cond,
  ◌||◌,
  [],
  ◌∷◌,
  ◌++◌,
  length,
  count_by,
  Option,
  unwrap_or,
  inl,
  inr,
}
use Rattle.std.proofs.Common.{length-append}
use Rattle.std.specs.List.{list_any, sum_by}
use Rattle.std.proofs.Math.ListN.{get_or-append}
use Rattle.std.proofs.Math.Seq.{get_or-append_seam}
use Rattle.std.proofs.lemmas.Bool.{cases_Bool}
use Rattle.std.proofs.lemmas.List.Sums.{sum_by-append}
use Rattle.std.proofs.lemmas.List.Folds.{list_any-append}
use Rattle.bp_core.specs.declared.line.Line.{Line}
use Rattle.bp_core.specs.Lines.{History, no_line, line_at, last_value, since}

pub length-push : (H : History) (x : Line) → length (H ++ x ∷ []) ≡ length H + 1
length-push H x = length-append H (x ∷ [])

pub line_at-old : (H : History) (x : Line) (i : ℕ) → i < length H → line_at (H ++ x ∷ []) i ≡ line_at H i
line_at-old H x i h = get_or-append H (x ∷ []) no_line i h

pub line_at-new : (H : History) (x : Line) → line_at (H ++ x ∷ []) (length H) ≡ x
line_at-new H x = get_or-append_seam H x [] no_line

pub last_value-push : {X : Type 0} (value : Line → Option X) (d : X) (H : History) (x : Line) →
    last_value value d (H ++ x ∷ []) ≡ unwrap_or (value x) (last_value value d H)
last_value-push value d [] x = refl
last_value-push value d (y ∷ H) x = last_value-push value (unwrap_or (value y) d) H x

pub sum-push : (f : Line → ℕ) (H : History) (x : Line) → sum_by f (H ++ x ∷ []) ≡ sum_by f H + f x
sum-push f H x = omega (arith, sum_by-append f H (x ∷ []))

pub count-push : (p : Line → Bool) (H : History) (x : Line) → count_by p (H ++ x ∷ []) ≡ count_by p H + cond (p x) 1 0
count-push p H x = sum-push (λ y. cond (p y) 1 0) H x

or_false : (b : Bool) → (b || false) ≡ b
or_false true = refl
or_false false = refl

pub any-push : (p : Line → Bool) (H : History) (x : Line) → list_any p (H ++ x ∷ []) ≡ (list_any p H || p x)
any-push p H x = list_any-append p H (x ∷ []) ∙ ap (λ b. list_any p H || b) (or_false (p x))

or_true : (b : Bool) → (b || true) ≡ true
or_true true = refl
or_true false = refl

-- a line that passes ends what came since
pub since-push_hit : (p : Line → Bool) (H : History) (x : Line) → p x ≡ true → since p (H ++ x ∷ []) ≡ []
since-push_hit p [] x hit = rw hit refl
since-push_hit p (y ∷ H) x hit =
    let any : list_any p (y ∷ (H ++ x ∷ [])) ≡ true = ap (λ b. p y || b) (any-push p H x ∙ ap (λ b. list_any p H || b) hit ∙ or_true (list_any p H)) ∙
    or_true (p y) in
    rw any (since-push_hit p H x hit)

-- a line that does not pass stands since
pub since-push_miss : (p : Line → Bool) (H : History) (x : Line) → p x ≡ false → since p (H ++ x ∷ []) ≡ since p H ++ x ∷ []
since-push_miss p [] x miss = rw miss refl
since-push_miss p (y ∷ H) x miss =
    let any : list_any p (y ∷ (H ++ x ∷ [])) ≡ list_any p (y ∷ H) =
    ap (λ b. p y || b) (any-push p H x ∙ ap (λ b. list_any p H || b) miss ∙ or_false (list_any p H)) in
    elim (cases_Bool (list_any p (y ∷ H))) [
      | inl some ↦ rw (any, some) (since-push_miss p H x miss)
      | inr none ↦ rw (any, none) refl
    ]
