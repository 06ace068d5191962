-- The codes of a set of texts.
use Rattle.std.proofs.Common.{
  ◌≡◌,
  ◌∙◌,
  sym,
  ap,
  refl,
  ℕ,
  suc,
  ◌+◌,
  ◌<◌,
  ◌-◌,
  Bool,
  false,
  not,
  List,
  [],
  ◌∷◌,
  ◌++◌,
  map,
  length,
  get_or,
  take,
  Some,
  None,
  String,
  Global,
  string_bytes,
  arith,
  inl,
  inr,
  length-append,
  nat_lt,
}
use Rattle.std.specs.List.{All, list_any, prefix_len, position, position_or_len}
use Rattle.std.specs.Str.{bytes_eq}
use Rattle.std.proofs.lemmas.Bool.{cases_Bool, cases_eq, ltb-true, ltb-false, le-ltb}
use Rattle.std.proofs.lemmas.List.{length-map, length-take, get_or-take, get_or_default, get_or-append_right}
use Rattle.std.proofs.lemmas.List.Sums.{fails_before_first, position_or_len_is}
use Rattle.std.proofs.Math.ListN.{get_or-append}
use Rattle.bp_types.specs.declared.limits.TheConstants.{MOST_STAYS}
use Rattle.bp_stayfile.specs.Codes.{stay_with, IsCodes}

prefix_len-map : {X Y : Type 0} (p : Y → Bool) (f : X → Y) (xs : List X) → prefix_len p (map f xs) ≡ prefix_len (λ x. p (f x)) xs
prefix_len-map p f [] = refl
prefix_len-map p f (x ∷ xs) = rw (prefix_len-map p f xs)

-- a search among the values of a map
pub position-map : {X Y : Type 0} (p : Y → Bool) (f : X → Y) (xs : List X) → position p (map f xs) ≡ position (λ x. p (f x)) xs
position-map p f xs = rw (prefix_len-map (λ y. not (p y)) f xs, length-map xs f)

-- the place of the first one that passes is a place
pub position-within : {X : Type 0} (p : X → Bool) (xs : List X) (i : ℕ) → position p xs ≡ Some i → i < length xs
position-within p xs i e =
    elim (cases_Bool (nat_lt (position_or_len p xs) (length xs))) [
      | inl below ↦ let same : Some (position_or_len p xs) ≡ Some i = rw below at e in let is : position_or_len p xs ≡ i = (cc) in
          omega (arith, ltb-true _ _ below, is)
      | inr past ↦ absurd (let no_place : None ≡ Some i = rw past at e in (cc))
    ]

-- where no place is found, none passes
none_passes : {X : Type 0} (p : X → Bool) (xs : List X) → position p xs ≡ None → (k : ℕ) (d : X) → k < length xs → p (get_or xs k d) ≡ false
none_passes p xs none k d h =
    elim (cases_Bool (nat_lt (position_or_len p xs) (length xs))) [
      | inl below ↦ absurd (let e : Some (position_or_len p xs) ≡ None = rw below at none in (cc))
      | inr past ↦ fails_before_first p xs k d (omega (arith, ltb-false _ _ past))
    ]

first_is_last : {X : Type 0} (p : X → Bool) (xs : List X) → All (λ x. p x ≡ false) xs → position_or_len p xs ≡ length xs
first_is_last p [] none = refl
first_is_last p (x ∷ xs) none =
    position_or_len_is p (x ∷ xs) (length (x ∷ xs)) x (omega arith) (λ k h. none k x h) (λ h. absurd (omega (arith, h)))

-- no place is found where none passes
pub none_found : {X : Type 0} (p : X → Bool) (xs : List X) → All (λ x. p x ≡ false) xs → position p xs ≡ None
none_found p xs none = rw (first_is_last p xs none, le-ltb (length xs) (length xs) (omega arith)) refl

-- no earlier stay has the code of a stay
pub not_before : (codes : List (List ℕ)) (k : ℕ) → IsCodes codes → k < length codes → stay_with (take k codes) (get_or codes k []) ≡ None
not_before codes k is below =
    none_found (bytes_eq (get_or codes k [])) (take k codes)
    (λ i d h. let short : i < k = omega (arith, h, length-take k codes) in
    rw (get_or-take k codes i d short, get_or_default codes i d [] (omega (arith, below))) (is.distinct i k short below))

none_any : {X : Type 0} (p : X → Bool) (xs : List X) → ((k : ℕ) (d : X) → k < length xs → p (get_or xs k d) ≡ false) → list_any p xs ≡ false
none_any p [] none = refl
none_any p (x ∷ xs) none = rw (none 0 x (omega arith)) (none_any p xs (λ k d h. none (suc k) d (omega arith)))

list_any-map : {X Y : Type 0} (p : Y → Bool) (f : X → Y) (xs : List X) → list_any p (map f xs) ≡ list_any (λ x. p (f x)) xs
list_any-map p f [] = refl
list_any-map p f (x ∷ xs) = rw (list_any-map p f xs)

-- a code that no stay has is not in the set
pub not_there : (code : List ℕ) (keys : List (String Global)) → stay_with (map string_bytes keys) code ≡ None →
    list_any (λ k. bytes_eq code (string_bytes k)) keys ≡ false
not_there code keys none =
    sym (list_any-map (bytes_eq code) string_bytes keys) ∙
    none_any (bytes_eq code) (map string_bytes keys) (none_passes (bytes_eq code) (map string_bytes keys) none)

-- one code more
pub IsCodes-more : (codes : List (List ℕ)) (code : List ℕ) → IsCodes codes → length codes < MOST_STAYS → stay_with codes code ≡ None →
    IsCodes (codes ++ code ∷ [])
IsCodes-more codes code h room none =
    record {
      few = omega (arith, length-append codes (code ∷ []));
      distinct = λ i j before within. by_place i j before (omega (arith, length-append codes (code ∷ [])));
    }
  where
    by_place : (i j : ℕ) → i < j → j < length codes + 1 → bytes_eq (get_or (codes ++ code ∷ []) j []) (get_or (codes ++ code ∷ []) i []) ≡ false
    by_place i j before within =
        let earlier = get_or-append codes (code ∷ []) [] i (omega arith) in
        elim (cases_eq j (length codes)) [
          | inl last ↦
              let here : get_or (codes ++ code ∷ []) j [] ≡ code = get_or-append_right codes (code ∷ []) (length codes) j [] refl (omega arith) ∙
              ap (λ k. get_or (code ∷ []) k []) (let z : j - length codes ≡ 0 = omega arith in z) in
              rw (here, earlier) (none_passes (bytes_eq code) codes none i [] (omega arith))
          | inr other ↦ rw (get_or-append codes (code ∷ []) [] j (omega arith), earlier) (h.distinct i j before (omega arith))
        ]
