-- Numbers and their digits.
use Rattle.std.proofs.Common.{
  ◌≡◌,
  ℕ,
  zero,
  suc,
  ◌+◌,
  ◌-◌,
  ◌*◌,
  ◌/◌,
  ◌%◌,
  ◌^◌,
  ◌<◌,
  ◌≤◌,
  ap,
  subst,
  ◌∙◌,
  sym,
  refl,
  arith,
  List,
  [],
  ◌∷◌,
  ◌++◌,
  length,
  map,
  take,
  get_or,
  slice_index,
  Option,
  Some,
  None,
  inl,
  inr,
  length-append,
}
use Rattle.std.specs.Fmt.{decimal}
use Rattle.std.specs.Int.Digits.{digits_of, number_from_digits, number_from_digits_after, AllBelowBase}
use Rattle.std.proofs.Math.ListN.{length-map}
use Rattle.std.proofs.Math.Nat.{pow-suc, pow-le-pow_right}
use Rattle.std.proofs.lemmas.Bool.{cases_lt, cond-false, ne_eqb}
use Rattle.std.proofs.lemmas.List.{get_or-map, take_more, take_all, map-append}
use Rattle.std.proofs.lemmas.Fmt.{decimal_by_steps_wide}
use Rattle.std.proofs.lemmas.Int.Digits.{digits_of_step, number_more, same_from_digits_of, first_digits_of, all_below_base_digits_of}
use Rattle.std.specs.Option.{MatchOption}
use Rattle.std.specs.Str.Parse.{AllDigits, digits_value}
use Rattle.std.proofs.lemmas.Str.Parse.{IsNumeralModel, numerals_by_fold, tells_by_index}
use Rattle.bp_text.specs.declared.found.Number.{Number}
use Rattle.bp_text.specs.declared.found.Number.TheVariants.{Bad, Great, Value}
use Rattle.bp_text.specs.Numbers.{spelled, IsReadAs, AreReadAs, IsGreaterBy}

pub spelled-zero : spelled 0 ≡ 48 ∷ []
unfolding spelled
spelled-zero = refl

pub spelled-positive : (n : ℕ) → 0 < n → spelled n ≡ map (λ d. 48 + d) (digits_of 10 n)
unfolding spelled
spelled-positive n h = cond-false _ _ _ (ne_eqb n 0 (λ e. omega arith))

-- how the digits of a number begin and end
pub spelled-small : (n : ℕ) → n < 10 → spelled n ≡ (48 + n) ∷ []
spelled-small zero h = spelled-zero
spelled-small (suc m) h =
    let n = suc m in
    let none : n / 10 ≡ 0 = omega arith in
    let only : n % 10 ≡ n = omega arith in
    spelled-positive n (omega arith) ∙
    ap (map (λ d. 48 + d)) (digits_of_step 10 n (omega arith) (omega arith) ∙ ap (λ q. digits_of 10 q ++ (n % 10) ∷ []) none ∙ ap (λ d. d ∷ []) only)

pub spelled-step : (n : ℕ) → 10 ≤ n → spelled n ≡ spelled (n / 10) ++ (48 + n % 10) ∷ []
spelled-step n h =
    let some : 0 < n / 10 = omega arith in
    let digits = digits_of_step 10 n (omega arith) (omega arith) in
    spelled-positive n (omega arith) ∙ ap (map (λ d. 48 + d)) digits ∙ map-append (λ d. 48 + d) (digits_of 10 (n / 10)) ((n % 10) ∷ []) ∙
    ap (λ xs. xs ++ (48 + n % 10) ∷ []) (sym (spelled-positive (n / 10) some))

-- the digits behind the bytes, and the bytes of the digits
digits_of_bytes : (ds : List ℕ) → map (λ b. b - 48) (map (λ d. 48 + d) ds) ≡ ds
digits_of_bytes [] = refl
digits_of_bytes (d ∷ ds) = let here : (48 + d) - 48 ≡ d = omega arith in
    ap (λ x. x ∷ map (λ b. b - 48) (map (λ d. 48 + d) ds)) here ∙ ap (λ xs. d ∷ xs) (digits_of_bytes ds)

-- each byte is a digit
abbrev pub AreDigits : List ℕ → Type 0
AreDigits word = (k : ℕ) → k < length word → (48 ≤ slice_index word k) × (slice_index word k ≤ 57)

bytes_of_digits : (word : List ℕ) → AreDigits word → map (λ d. 48 + d) (map (λ b. b - 48) word) ≡ word
bytes_of_digits [] digits = refl
bytes_of_digits (b ∷ bs) digits =
    let first = digits 0 (omega arith) in
    let here : 48 + (b - 48) ≡ b = omega (arith, first.0) in
    ap (λ x. x ∷ map (λ d. 48 + d) (map (λ b. b - 48) bs)) here ∙ ap (λ xs. b ∷ xs) (bytes_of_digits bs (λ k h. digits (suc k) (omega arith)))

bytes_below_base : (word : List ℕ) → AreDigits word → AllBelowBase 10 (map (λ b. b - 48) word)
bytes_below_base [] digits = tt
bytes_below_base (b ∷ bs) digits =
    let first = digits 0 (omega arith) in
    (omega (arith, first.0, first.1), bytes_below_base bs (λ k h. digits (suc k) (omega arith)))

-- each place of a list where all are below the base
below_at : (b : ℕ) (ds : List ℕ) (k : ℕ) → AllBelowBase b ds → k < length ds → get_or ds k 0 < b
below_at b [] k all h = absurd (omega arith)
below_at b (d ∷ ds) zero all h = all.0
below_at b (d ∷ ds) (suc k) all h = below_at b ds k all.1 (omega arith)

length-spelled : (n : ℕ) → 0 < n → length (spelled n) ≡ length (digits_of 10 n)
length-spelled n h = ap length (spelled-positive n h) ∙ length-map (digits_of 10 n) (λ d. 48 + d)

spelled-at : (n k : ℕ) → 0 < n → k < length (digits_of 10 n) → slice_index (spelled n) k ≡ 48 + get_or (digits_of 10 n) k 0
spelled-at n k h in_range = ap (λ xs. slice_index xs k) (spelled-positive n h) ∙ get_or-map (λ d. 48 + d) (digits_of 10 n) k 0 0 in_range

some_digits : (n : ℕ) → 0 < n → 0 < length (digits_of 10 n)
some_digits n h = omega (arith, ap length (digits_of_step 10 n (omega arith) h), length-append (digits_of 10 (n / 10)) ((n % 10) ∷ []))

-- each byte of a number is a digit
pub spelled_is_digits : (n : ℕ) → AreDigits (spelled n)
spelled_is_digits zero = let P : List ℕ → Type 0 = λ xs. AreDigits xs in subst P (sym spelled-zero) zero_is_digits
  where
    zero_is_digits : AreDigits (48 ∷ [])
    zero_is_digits zero h = (omega arith, omega arith)
    zero_is_digits (suc k) h = absurd (omega arith)
spelled_is_digits (suc m) = λ k h.
    let n = suc m in
    let some : 0 < n = omega arith in
    let in_range : k < length (digits_of 10 n) = omega (arith, length-spelled n some) in
    let at = spelled-at n k some in_range in
    let small = below_at 10 (digits_of 10 n) k (all_below_base_digits_of 10 n (omega arith)) in_range in
    (omega (arith, at), omega (arith, at, small))

-- a number has a digit, and the first is `0` only for zero
pub spelled_is_some : (n : ℕ) → 0 < length (spelled n)
spelled_is_some zero = omega (arith, ap length spelled-zero)
spelled_is_some (suc m) = let some : 0 < suc m = omega arith in omega (arith, length-spelled (suc m) some, some_digits (suc m) some)

pub first_spelled : (n : ℕ) → 0 < n → 49 ≤ slice_index (spelled n) 0
first_spelled n h = omega (arith, spelled-at n 0 h (some_digits n h), first_digits_of 10 n (omega arith) h)

-- the first digit is `0` only where it is the only one
pub first_of_many : (n : ℕ) → 1 < length (spelled n) → 49 ≤ slice_index (spelled n) 0
first_of_many zero h = absurd (omega (arith, ap length spelled-zero))
first_of_many (suc m) h = first_spelled (suc m) (omega arith)

pub spelled_injective : (m n : ℕ) → spelled m ≡ spelled n → m ≡ n
spelled_injective zero zero e = refl
spelled_injective zero (suc n) e = absurd (omega (arith, ap (λ xs. slice_index xs 0) (sym spelled-zero ∙ e), first_spelled (suc n) (omega arith)))
spelled_injective (suc m) zero e = absurd (omega (arith, ap (λ xs. slice_index xs 0) (e ∙ spelled-zero), first_spelled (suc m) (omega arith)))
spelled_injective (suc m) (suc n) e =
    let some : 0 < suc m = omega arith in
    let also : 0 < suc n = omega arith in
    same_from_digits_of 10 (suc m) (suc n) (omega arith)
    (sym (digits_of_bytes (digits_of 10 (suc m))) ∙ ap (map (λ b. b - 48)) (sym (spelled-positive (suc m) some) ∙ e ∙ spelled-positive (suc n) also) ∙
    digits_of_bytes (digits_of 10 (suc n)))

-- the digits of the number that digits write, where the first is not 0
digits_again : (ds : List ℕ) (k : ℕ) → AllBelowBase 10 ds → 0 < get_or ds 0 0 → k ≤ length ds →
    (digits_of 10 (number_from_digits 10 (take k ds)) ≡ take k ds) × (0 < k → 0 < number_from_digits 10 (take k ds))
digits_again ds zero all first h = (refl, λ l. absurd (omega arith))
digits_again ds (suc k) all first h =
    let before = digits_again ds k all first (omega arith) in
    let m : ℕ = number_from_digits 10 (take k ds) in
    let d : ℕ = get_or ds k 0 in
    let n : ℕ = number_from_digits 10 (take (suc k) ds) in
    let small : d < 10 = below_at 10 ds k all (omega arith) in
    let next : k + 1 ≡ suc k = omega arith in
    let more : n ≡ m * 10 + d = ap (λ (i : ℕ). number_from_digits 10 (take i ds)) (sym next) ∙ number_more 10 ds k (omega arith) in
    let some : 0 < n = elim (cases_lt 0 k) [
      | inl later ↦ omega (arith, more, before.1 later)
      | inr now ↦ let start : k ≡ 0 = omega arith in omega (arith, more, first, ap (λ (i : ℕ). get_or ds i 0) start)
    ] in
    let front : n / 10 ≡ m = omega (arith, more, small) in
    let last : n % 10 ≡ d = omega (arith, more, small) in (
      digits_of_step 10 n (omega arith) some ∙ ap (λ q. digits_of 10 q ++ (n % 10) ∷ []) front ∙ ap (λ x. digits_of 10 m ++ x ∷ []) last ∙
          ap (λ xs. xs ++ d ∷ []) before.0 ∙ sym (take_more ds k 0 (omega arith)) ∙ ap (λ (i : ℕ). take i ds) next,
      λ l. some,
    )

-- a word of digits of which the first is not `0` is a number
pub word_is_spelled : (word : List ℕ) → 49 ≤ slice_index word 0 → AreDigits word → word ≡ spelled (number_from_digits 10 (map (λ b. b - 48) word))
word_is_spelled [] first digits = absurd (omega arith)
word_is_spelled (b ∷ bs) first digits =
    let word = b ∷ bs in
    let ds = map (λ b. b - 48) word in
    let start : 0 < get_or ds 0 0 = omega (arith, first) in
    let whole : take (length ds) ds ≡ ds = take_all (length ds) ds (omega arith) in
    let again = digits_again ds (length ds) (bytes_below_base word digits) start (omega arith) in
    let some : 0 < number_from_digits 10 ds = omega (arith, again.1 (omega arith), ap (number_from_digits 10) whole) in
    sym (spelled-positive (number_from_digits 10 ds) some ∙
    ap (map (λ d. 48 + d)) (ap (λ xs. digits_of 10 (number_from_digits 10 xs)) (sym whole) ∙ again.0 ∙ whole) ∙ bytes_of_digits word digits)

-- what std writes for a number
pub spelled-decimal : (n : ℕ) → n < 10 ^ 64 → spelled n ≡ decimal n
spelled-decimal n h =
    decimal_by_steps_wide (λ n ds. spelled n ≡ ds) spelled-small
    (λ n ds ten so_far. spelled-step n ten ∙ ap (λ xs. xs ++ (48 + n % 10) ∷ []) so_far) n h

-- the number so far, or none where it is above the greatest
abbrev pub IsSoFar : ℕ → Option ℕ → ℕ → Type 0
IsSoFar greatest value n = MatchOption value (greatest < n) (λ v. (v ≡ n) × (v ≤ greatest))

pub digit_more : (greatest digit n next : ℕ) (value result : Option ℕ) → next ≡ n * 10 + digit → IsGreaterBy value digit greatest result →
    IsSoFar greatest value n → IsSoFar greatest result next
digit_more greatest digit n next None None e by so_far = omega (arith, e, so_far)
digit_more greatest digit n next None (Some r) e by so_far = absurd by
digit_more greatest digit n next (Some v) None e by so_far =
    elim (cases_lt greatest next) [
      | inl above ↦ above
      | inr within ↦ absurd (by (omega (arith, e, so_far.0)))
    ]
digit_more greatest digit n next (Some v) (Some r) e by so_far = (omega (arith, e, by.0, by.1, so_far.0), omega (arith, by.0, by.1))

-- digits by their places, and the number that they write, are those of std
digits_model : IsNumeralModel AreDigits (λ ds. number_from_digits 10 (map (λ b. b - 48) ds))
digits_model = numerals_by_fold AreDigits tells_by_index (λ n ds. number_from_digits_after 10 n (map (λ b. b - 48) ds))
    (record { empty = λ n. refl; more = λ n c cs h. refl })

-- what is not all digits: a byte in it is none
pub no_digit : (bytes : List ℕ) (k : ℕ) → k < length bytes → ((48 ≤ slice_index bytes k) × (slice_index bytes k ≤ 57) → ⊥) → AllDigits 10 bytes → ⊥
no_digit bytes k in_range bad all = bad (digits_model.from bytes all k in_range)

-- a word of digits that has no zero before its number is the spelling of it
pub word_of_digits : (word : List ℕ) → 0 < length word → (1 < length word → slice_index word 0 ≡ 48 → ⊥) → AreDigits word →
    word ≡ spelled (number_from_digits 10 (map (λ b. b - 48) word))
word_of_digits [] some first digits = absurd (omega arith)
word_of_digits (b ∷ []) some first digits =
    let here = digits 0 (omega arith) in
    let back : b ≡ 48 + (b - 48) = omega (arith, here.0) in
    let same : number_from_digits 10 (map (λ b. b - 48) (b ∷ [])) ≡ b - 48 = omega arith in
    ap (λ x. x ∷ []) back ∙ sym (spelled-small (b - 48) (omega (arith, here.0, here.1))) ∙ ap spelled (sym same)
word_of_digits (b ∷ d ∷ ds) some first digits =
    let here = digits 0 (omega arith) in
    let not_zero : b ≡ 48 → ⊥ = first (omega arith) in
    word_is_spelled (b ∷ d ∷ ds) (elim (cases_lt 48 b) [ inl above ↦ above | inr below ↦ absurd (not_zero (omega (arith, here.0))) ]) digits

-- a word with a zero before its number is none
pub zero_before : (word : List ℕ) → 1 < length word → slice_index word 0 ≡ 48 → (n : ℕ) → word ≡ spelled n → ⊥
zero_before word long zero_first n e =
    let many : 1 < length (spelled n) = omega (arith, long, ap length e) in
    let first = first_of_many n many in
    omega (arith, zero_first, ap (λ xs. slice_index xs 0) e, first)

pub nothing_is_no_number : (word : List ℕ) → length word ≡ 0 → (n : ℕ) → word ≡ spelled n → ⊥
nothing_is_no_number word none n e = omega (arith, spelled_is_some n, ap length e, none)

-- what is read of digits once each of them was seen
pub digits_are_read : (bytes : List ℕ) (greatest i : ℕ) (value : Option ℕ) → length bytes ≤ i →
    ((k : ℕ) → k < i → (48 ≤ slice_index bytes k) × (slice_index bytes k ≤ 57))
    → IsSoFar greatest value (number_from_digits 10 (take i (map (λ b. b - 48) bytes)))
    → MatchOption value (AllDigits 10 bytes × (greatest < digits_value 10 bytes)) (λ n. AllDigits 10 bytes × (n ≡ digits_value 10 bytes) × (n ≤ greatest))
digits_are_read bytes greatest i value past digits so_far =
    let ds = map (λ b. b - 48) bytes in
    let whole : take i ds ≡ ds = take_all i ds (omega (arith, length-map bytes (λ b. b - 48))) in
    let all : AllDigits 10 bytes = digits_model.to bytes (λ k h. digits k (omega arith)) in
    by_value value (let P : List ℕ → Type 0 = λ xs. IsSoFar greatest value (number_from_digits 10 xs) in subst P whole so_far) all (digits_model.same bytes all)
  where
    by_value : (value : Option ℕ) → IsSoFar greatest value (number_from_digits 10 (map (λ b. b - 48) bytes)) → AllDigits 10 bytes →
        number_from_digits 10 (map (λ b. b - 48) bytes) ≡ digits_value 10 bytes
        → MatchOption value (AllDigits 10 bytes × (greatest < digits_value 10 bytes)) (λ n. AllDigits 10 bytes × (n ≡ digits_value 10 bytes) × (n ≤ greatest))
    by_value None so_far all same = (all, omega (arith, so_far, same))
    by_value (Some n) so_far all same = (all, so_far.0 ∙ same, so_far.1)

-- the number that digits write, with one of them more
pub next_digit : (bytes : List ℕ) (i d : ℕ) → i < length bytes → d ≡ slice_index bytes i - 48 →
    number_from_digits 10 (take (i + 1) (map (λ b. b - 48) bytes)) ≡ number_from_digits 10 (take i (map (λ b. b - 48) bytes)) * 10 + d
next_digit bytes i d here is =
    let ds = map (λ b. b - 48) bytes in
    number_more 10 ds i (omega (arith, here, length-map bytes (λ b. b - 48))) ∙
    ap (λ x. number_from_digits 10 (take i ds) * 10 + x) (get_or-map (λ b. b - 48) bytes i 0 0 here ∙ sym is)

-- so few digits write a small number, and one digit more a number below the next power of ten
pub few_are_small : (i n : ℕ) → i ≤ 17 → n < 10 ^ i → n < 10 ^ 17
few_are_small i n few small = omega (arith, small, pow-le-pow_right {n = 10} (omega arith) few)

pub one_more_digit : (i n d : ℕ) → n < 10 ^ i → d < 10 → n * 10 + d < 10 ^ (i + 1)
one_more_digit i n d small digit = let next : i + 1 ≡ suc i = omega arith in
    omega (arith, small, digit, ap (λ k. 10 ^ k) next ∙ pow-suc 10 i)

-- a word that has no zero before its number is read as its digits are
pub word_is_read : (word : List ℕ) (greatest : ℕ) (r : Number) → 0 < length word → (1 < length word → slice_index word 0 ≡ 48 → ⊥) →
    AreReadAs word greatest r → IsReadAs word greatest r
word_is_read word greatest Bad some first bad = λ n e. let P : List ℕ → Type 0 = λ w. AreDigits w in
    bad (digits_model.to word (subst P (sym e) (spelled_is_digits n)))
word_is_read word greatest Great some first (all, above) =
    (digits_value 10 word, above, word_of_digits word some first (digits_model.from word all) ∙ ap spelled (digits_model.same word all))
word_is_read word greatest (Value n) some first (all, is, small) =
    (small, word_of_digits word some first (digits_model.from word all) ∙ ap spelled (digits_model.same word all ∙ sym is))
