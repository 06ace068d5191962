-- Functions on numbers that are changed at one place, how many numbers pass a test, and lists of callers' numbers.
use Rattle.std.proofs.Common.{
  ◌≡◌,
  ◌≢◌,
  ℕ,
  zero,
  suc,
  ◌+◌,
  ◌%◌,
  ◌^◌,
  ◌<◌,
  ◌≤◌,
  ◌==◌,
  Bool,
  true,
  false,
  not,
  cond,
  List,
  [],
  ◌∷◌,
  sym,
  refl,
  ap,
  ◌∙◌,
  ⊎_elim,
  arith,
  eq-eqb,
  ne_eqb,
}
use mathlib.Core.Logic.{dite}
use native.Mathlib.Decide.{ℕ_discrete}
use Rattle.std.specs.List.{All, Contains}
use Rattle.std.proofs.lemmas.List.Elements.{
  All-nil,
  All-cons,
  All-weaker,
  All-contains_itself,
  All-filter,
  Contains-append_right,
  Contains-append_cases,
  filter_passes,
}
use Rattle.bp_turn.specs.Callers.{numbers_from, without}
use Rattle.bp_turn.specs.Rule.{bit, count_below}

-- f, but y at x
abbrev pub but : {A : Type 0} → (ℕ → A) → ℕ → A → ℕ → A
but f x y z = cond (z == x) y (f z)

pub but_here : {A : Type 0} (f : ℕ → A) (x : ℕ) (y : A) (z : ℕ) → z ≡ x → but f x y z ≡ y
but_here f x y z e = ap (λ b. cond b y (f z)) (eq-eqb z x e)

pub but_else : {A : Type 0} (f : ℕ → A) (x : ℕ) (y : A) (z : ℕ) → z ≢ x → but f x y z ≡ f z
but_else f x y z n = ap (λ b. cond b y (f z)) (ne_eqb z x n)

count_same : (n : ℕ) (f g : ℕ → Bool) → ((z : ℕ) → z < n → f z ≡ g z) → count_below n f ≡ count_below n g
unfolding count_below
count_same zero f g h = refl
count_same (suc n) f g h = let a = count_same n f g (λ z l. h z (omega arith)) in let b : bit (f n) ≡ bit (g n) = ap bit (h n (omega arith)) in omega arith

pub count_le : (n : ℕ) (f : ℕ → Bool) → count_below n f ≤ n
unfolding count_below
count_le zero f = omega arith
count_le (suc n) f = let a = count_le n f in elim (f n) as (λ b. count_below n f + bit b ≤ suc n) [ true ↦ omega arith | false ↦ omega arith ]

pub count_none : (n : ℕ) → count_below n (λ _. false) ≡ 0
unfolding count_below
count_none zero = refl
count_none (suc n) = let a = count_none n in omega arith

-- a number more passes the test
pub count_on : (n : ℕ) (f : ℕ → Bool) (x : ℕ) → x < n → f x ≡ false → count_below n (but f x true) ≡ count_below n f + 1
unfolding count_below
count_on zero f x l off = absurd (omega arith)
count_on (suc n) f x l off = dite (ℕ_discrete n x)
    (λ e. let a : count_below n (but f x true) ≡ count_below n f = count_same n (but f x true) f (λ z k. but_else f x true z (λ i. omega arith)) in
    let b : bit (but f x true n) ≡ 1 = ap bit (but_here f x true n e) in
    let c : bit (f n) ≡ 0 = ap bit (ap f e ∙ off) in omega arith)
    (λ ne. let a = count_on n f x (omega arith) off in
    let b : bit (but f x true n) ≡ bit (f n) = ap bit (but_else f x true n ne) in omega arith)

-- a number less passes the test
pub count_off : (n : ℕ) (f : ℕ → Bool) (x : ℕ) → x < n → f x ≡ true → count_below n (but f x false) + 1 ≡ count_below n f
unfolding count_below
count_off zero f x l on = absurd (omega arith)
count_off (suc n) f x l on = dite (ℕ_discrete n x)
    (λ e. let a : count_below n (but f x false) ≡ count_below n f = count_same n (but f x false) f (λ z k. but_else f x false z (λ i. omega arith)) in
    let b : bit (but f x false n) ≡ 0 = ap bit (but_here f x false n e) in
    let c : bit (f n) ≡ 1 = ap bit (ap f e ∙ on) in omega arith)
    (λ ne. let a = count_off n f x (omega arith) on in
    let b : bit (but f x false n) ≡ bit (f n) = ap bit (but_else f x false n ne) in omega arith)

-- one more, modulo the size of a word
pub wraps : (n : ℕ) → (n % 2 ^ 64 + 1) % 2 ^ 64 ≡ (n + 1) % 2 ^ 64
wraps n = omega arith

-- a run of numbers lies between its ends, and has all that do
pub run_between : (a k : ℕ) → All (λ n. (a ≤ n) × (n < a + k)) (numbers_from a k)
unfolding numbers_from
run_between a zero = All-nil (λ n. (a ≤ n) × (n < a + zero))
run_between a (suc k) = All-cons (λ n. (a ≤ n) × (n < a + suc k)) a (numbers_from (suc a) k) (omega arith, omega arith)
    (All-weaker (λ n. (suc a ≤ n) × (n < suc a + k)) (λ n. (a ≤ n) × (n < a + suc k)) (λ n h. let l = h.0 in let m = h.1 in
    (omega arith, omega arith)) (numbers_from (suc a) k) (run_between (suc a) k))

pub run_contains : (a k n : ℕ) → a ≤ n → n < a + k → Contains (numbers_from a k) n
unfolding numbers_from
run_contains a zero n l m = absurd (omega arith)
run_contains a (suc k) n l m = dite (ℕ_discrete a n)
    (λ e. (0, omega arith, e))
    (λ ne. Contains-append_right (a ∷ []) (numbers_from (suc a) k) n (run_contains (suc a) k n (omega arith) (omega arith)))

no_such : (a b k : ℕ) → a < b → without a (numbers_from b k) ≡ numbers_from b k
unfolding numbers_from
no_such a b zero l = refl
no_such a b (suc k) l = ap (λ c. cond (not c) (b ∷ without a (numbers_from (suc b) k)) (without a (numbers_from (suc b) k)))
    (ne_eqb b a (λ e. absurd (omega arith))) ∙ ap (λ (ms : List ℕ). b ∷ ms) (no_such a (suc b) k (omega arith))

-- a run without its first number
pub run_without : (a k : ℕ) → without a (numbers_from a (suc k)) ≡ numbers_from (suc a) k
unfolding numbers_from
run_without a k = ap (λ c. cond (not c) (a ∷ without a (numbers_from (suc a) k)) (without a (numbers_from (suc a) k))) (eq-eqb a a refl) ∙
    no_such a (suc a) k (omega arith)

-- what is left when n is gone
pub left_over : (n : ℕ) (ms : List ℕ) → All (λ m. (m ≢ n) × Contains ms m) (without n ms)
left_over n ms k d lt = let xs = without n ms in let passes = filter_passes (λ m. not (m == n)) ms k d lt in
    let within = All-filter (λ m. not (m == n)) (Contains ms) ms (All-contains_itself ms) k d lt in
    ((λ e. absurd (let z = ap not (eq-eqb _ n e) in cc)), within)

pub still_left : (n m : ℕ) (ms : List ℕ) → m ≢ n → Contains ms m → Contains (without n ms) m
still_left n m [] ne h = absurd (let l = h.1 in omega arith)
still_left n m (k ∷ ks) ne h = ⊎_elim
    (λ (one : Contains (k ∷ []) m). let is : k ≡ m = only k m one in first k (not (k == n)) (ap not (ne_eqb k n (λ e. ne (sym is ∙ e)))) is)
    (λ (other : Contains ks m). later k (not (k == n)) (still_left n m ks ne other))
    (Contains-append_cases (k ∷ []) ks m h)
  where
    only : (k m : ℕ) → Contains (k ∷ []) m → k ≡ m
    only k m (zero, lt, e) = e
    only k m (suc i, lt, e) = absurd (omega arith)

    first : (k : ℕ) (b : Bool) → b ≡ true → k ≡ m → Contains (cond b (k ∷ without n ks) (without n ks)) m
    first k true b is = (0, omega arith, is)
    first k false b is = absurd (cc)

    later : (k : ℕ) (b : Bool) → Contains (without n ks) m → Contains (cond b (k ∷ without n ks) (without n ks)) m
    later k true c = Contains-append_right (k ∷ []) (without n ks) m c
    later k false c = c
