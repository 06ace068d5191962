-- Lines of words and numbers: what they spell can be told from the bytes.
use Rattle.std.proofs.Common.{◌≡◌, ℕ, zero, suc, ◌<◌, ap, ◌∙◌, sym, refl, arith, List, [], ◌∷◌, ◌++◌, All, get_or, inl, inr}
use Rattle.std.proofs.lemmas.List.{append_cancel_left, get_or_default}
use Rattle.std.proofs.lemmas.List.Elements.{All-append}
use Rattle.bp_text.specs.Numbers.{spelled}
use Rattle.bp_text.specs.Lines.{line_of, numbers_text, HasNoEnd}
use Rattle.bp_text.specs.Forms.{IsEndOrSpace, IsWordAhead}
use Rattle.bp_text.proofs.NumberLemmas.{spelled_is_digits, spelled_injective}

-- no byte of a number is this one
pub spelled_lacks : (stop n : ℕ) → stop < 48 → All (λ b. b ≡ stop → ⊥) (spelled n)
spelled_lacks stop n small k d h e =
    let digit = spelled_is_digits n k h in
    let at = get_or_default (spelled n) k d 0 h in
    omega (arith, digit.0, at, e)

pub lacks_tail : (stop b : ℕ) (bs : List ℕ) → All (λ x. x ≡ stop → ⊥) (b ∷ bs) → All (λ x. x ≡ stop → ⊥) bs
lacks_tail stop b bs all k d h = all (suc k) d (omega arith)

-- where two texts are the same, and a stop ends each first word, the words are the same
pub same_word : (xs ys r s : List ℕ) → All (λ b. b ≡ 32 → ⊥) xs → All (λ b. b ≡ 32 → ⊥) ys → IsEndOrSpace r → IsEndOrSpace s → xs ++ r ≡ ys ++ s →
    (xs ≡ ys) × (r ≡ s)
same_word [] [] r s no_x no_y end_r end_s e = (refl, e)
same_word [] (y ∷ ys) r s no_x no_y (inl none) end_s e = let f : [] ≡ y ∷ (ys ++ s) = sym none ∙ e in absurd (cc)
same_word [] (y ∷ ys) r s no_x no_y (inr (more, space)) end_s e = absurd (no_y 0 0 (omega arith) (ap (λ bs. get_or bs 0 0) (sym e ∙ space)))
same_word (x ∷ xs) [] r s no_x no_y end_r (inl none) e = let f : x ∷ (xs ++ r) ≡ [] = e ∙ none in absurd (cc)
same_word (x ∷ xs) [] r s no_x no_y end_r (inr (more, space)) e = absurd (no_x 0 0 (omega arith) (ap (λ bs. get_or bs 0 0) (e ∙ space)))
same_word (x ∷ xs) (y ∷ ys) r s no_x no_y end_r end_s e =
    let heads : x ≡ y = cc in
    let tails : xs ++ r ≡ ys ++ s = cc in
    let rest = same_word xs ys r s (lacks_tail 32 x xs no_x) (lacks_tail 32 y ys no_y) end_r end_s tails in
    (ap (λ b. b ∷ xs) heads ∙ ap (λ bs. y ∷ bs) rest.0, rest.1)

numbers_end_or_space : (ns : List ℕ) → IsEndOrSpace (numbers_text ns)
numbers_end_or_space [] = inl refl
numbers_end_or_space (n ∷ ns) = inr (spelled n ++ numbers_text ns, refl)

-- numbers that spell a word ahead begin with the number of that word
pub first_number : (ms : List ℕ) (text word more : List ℕ) → IsWordAhead text word more → text ≡ numbers_text ms →
    (m : ℕ) × (rest : List ℕ) × (ms ≡ m ∷ rest) × (word ≡ spelled m) × (more ≡ numbers_text rest)
first_number [] text word more ahead e = let f : 32 ∷ (word ++ more) ≡ [] = sym ahead.splits ∙ e in absurd (cc)
first_number (m ∷ ms) text word more ahead e =
    let both : 32 ∷ (word ++ more) ≡ 32 ∷ (spelled m ++ numbers_text ms) = sym ahead.splits ∙ e in
    let tails : word ++ more ≡ spelled m ++ numbers_text ms = cc in
    let parts = same_word word (spelled m) more (numbers_text ms) ahead.no_space (spelled_lacks 32 m (omega arith)) ahead.ends (numbers_end_or_space ms)
    tails in
    (m, ms, refl, parts.0, parts.1)

word_ahead : (n : ℕ) (ns : List ℕ) → IsWordAhead (numbers_text (n ∷ ns)) (spelled n) (numbers_text ns)
word_ahead n ns = record { splits = refl; no_space = spelled_lacks 32 n (omega arith); ends = numbers_end_or_space ns }

-- different numbers are spelled differently
pub numbers_injective : (ns ms : List ℕ) → numbers_text ns ≡ numbers_text ms → ns ≡ ms
numbers_injective [] [] e = refl
numbers_injective [] (m ∷ ms) e = absurd (cc)
numbers_injective (n ∷ ns) ms e =
    let parts = first_number ms (numbers_text (n ∷ ns)) (spelled n) (numbers_text ns) (word_ahead n ns) e in
    let heads : n ≡ parts.0 = spelled_injective n parts.0 parts.3 in
    let tails : ns ≡ parts.1 = numbers_injective ns parts.1 parts.4 in
    ap (λ x. x ∷ ns) heads ∙ ap (λ xs. parts.0 ∷ xs) tails ∙ sym parts.2

pub line_injective : (word ns ms : List ℕ) → line_of word ns ≡ line_of word ms → ns ≡ ms
line_injective word ns ms e = numbers_injective ns ms (append_cancel_left word _ _ e)

-- no line's end stands in numbers
no_end_in_number : (n : ℕ) → HasNoEnd (32 ∷ spelled n)
no_end_in_number n zero d h e = omega (arith, e)
no_end_in_number n (suc k) d h e = spelled_lacks 10 n (omega arith) k d (omega arith) e

no_end_in_numbers : (ns : List ℕ) → HasNoEnd (numbers_text ns)
no_end_in_numbers [] = λ k d h. absurd (omega arith)
no_end_in_numbers (n ∷ ns) = All-append (λ b. b ≡ 10 → ⊥) (32 ∷ spelled n) (numbers_text ns) (no_end_in_number n) (no_end_in_numbers ns)

pub no_end_in_line : (word ns : List ℕ) → HasNoEnd word → HasNoEnd (line_of word ns)
no_end_in_line word ns none = All-append (λ b. b ≡ 10 → ⊥) word (numbers_text ns) none (no_end_in_numbers ns)
