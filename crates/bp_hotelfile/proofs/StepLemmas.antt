-- What follows from an answer of several tests, and the first refusal, place by place.
use Rattle.std.proofs.Common.{
  ◌≡◌,
  refl,
  ℕ,
  zero,
  suc,
  ◌+◌,
  ◌≤◌,
  Bool,
  true,
  false,
  cond,
  Option,
  Some,
  None,
  Result,
  Ok,
  Err,
  option_and_then,
  arith,
  add-one,
  inl,
  inr,
}
use Rattle.std.specs.Option.{ok_or}
use Rattle.std.proofs.lemmas.Bool.{cases_eq}
use Rattle.bp_hotelfile.specs.Steps.{first_below, ◌>>=◌}

-- both steps were accepted
pub steps_tell : {A B E : Type 0} (r : Result A E) (next : A → Result B E) (b : B) → (r >>= next) ≡ Ok b → (a : A) × (r ≡ Ok a) × (next a ≡ Ok b)
steps_tell (Ok a) next b e = (a, refl, e)
steps_tell (Err x) next b e = absurd (cc)

pub ok_or_tells : {A E : Type 0} (o : Option A) (e : E) (a : A) → ok_or o e ≡ Ok a → o ≡ Some a
ok_or_tells None e a h = absurd (cc)
ok_or_tells (Some x) e a h = (cc)

pub and_then_tells : {A B : Type 0} (f : A → Option B) (o : Option A) (b : B) → option_and_then f o ≡ Some b → (a : A) × (o ≡ Some a) × (f a ≡ Some b)
and_then_tells f None b e = absurd (cc)
and_then_tells f (Some a) b e = (a, refl, e)

-- the test was passed
pub chosen : (b : Bool) (x y : ℕ) → cond b (Some x) None ≡ Some y → (b ≡ true) × (x ≡ y)
chosen true x y e = (refl, (cc))
chosen false x y e = absurd (cc)

pub chosen_option : (b : Bool) (o : Option ℕ) (y : ℕ) → cond b o None ≡ Some y → (b ≡ true) × (o ≡ Some y)
chosen_option true o y e = (refl, e)
chosen_option false o y e = absurd (cc)

pub chosen_ok : {E : Type 0} (b : Bool) (x y : ℕ) (e : E) → cond b (Ok x) (Err e) ≡ Ok y → (b ≡ true) × (x ≡ y)
chosen_ok true x y e h = (refl, (cc))
chosen_ok false x y e h = absurd (cc)

-- one place more
pub first_below-more : {E : Type 0} (f : ℕ → Option E) (n : ℕ) → first_below f n ≡ None → first_below f (n + 1) ≡ f n
first_below-more f n none = rw (add-one, none)

-- a refusal stays the first one
pub first_below-stays : {E : Type 0} (f : ℕ → Option E) (e : E) (n m : ℕ) → first_below f n ≡ Some e → n ≤ m → first_below f m ≡ Some e
first_below-stays f e n zero found le = let same : n ≡ 0 = omega arith in rw same at found
first_below-stays f e n (suc m) found le =
    elim (cases_eq n (suc m)) [
      | inl same ↦ rw same at found
      | inr other ↦ rw (first_below-stays f e n m found (omega arith))
    ]
