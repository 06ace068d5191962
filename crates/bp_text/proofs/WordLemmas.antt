-- Lines of words: what is joined can be told apart, and is split into itself. A kind whose lines are words cites
-- `joined_injective`, with `number_lacks` and `word_lacks` for its words, and of a line that it reads `split_joined`, or
-- `split_back` where the words are known.
use Rattle.std.proofs.Common.{
  ◌≡◌,
  ◌≢◌,
  ℕ,
  zero,
  suc,
  ◌+◌,
  ◌<◌,
  ◌==◌,
  refl,
  ap,
  sym,
  ◌∙◌,
  arith,
  true,
  false,
  List,
  [],
  ◌∷◌,
  ◌++◌,
  length,
  map,
  take,
  drop,
  get_or,
  All,
  inl,
  inr,
}
use Rattle.std.specs.Prelude.{not}
use Rattle.std.specs.List.{list_all}
use Rattle.std.proofs.lemmas.Bool.{cases_Bool, ne_eqb, eq-eqb, eqb-true, cond-true, cond-false}
use Rattle.std.proofs.lemmas.List.{append-nil}
use Rattle.std.proofs.lemmas.List.Sums.{AllPass-from_list_all}
use Rattle.bp_text.specs.Numbers.{spelled}
use Rattle.bp_text.specs.Lines.{Line, line_of, numbers_text}
use Rattle.bp_text.specs.Forms.{IsEndOrSpace}
use Rattle.bp_text.specs.Words.{Word, HasNoSpace, words_behind, joined, phrase, split, in_front}
use Rattle.bp_text.proofs.LineLemmas.{same_word, spelled_lacks}

-- a word and numbers are words
numbers_are_words : (ns : List ℕ) → numbers_text ns ≡ words_behind (map spelled ns)
numbers_are_words [] = refl
numbers_are_words (n ∷ ns) = ap (λ t. 32 ∷ (spelled n ++ t)) (numbers_are_words ns)

pub line_of-joined : (word : Word) (ns : List ℕ) → line_of word ns ≡ joined word (map spelled ns)
line_of-joined word ns = ap (λ t. word ++ t) (numbers_are_words ns)

behind_ends : (ws : List Word) → IsEndOrSpace (words_behind ws)
behind_ends [] = inl refl
behind_ends (w ∷ ws) = inr (w ++ words_behind ws, refl)

head_of : (w : Word) (ws : List Word) → All HasNoSpace (w ∷ ws) → HasNoSpace w
head_of w ws all = all 0 [] (omega arith)

tail_of : (w : Word) (ws : List Word) → All HasNoSpace (w ∷ ws) → All HasNoSpace ws
tail_of w ws all k d h = all (suc k) d (omega arith)

-- words apart by spaces can be told
pub behind_injective : (ws vs : List Word) → All HasNoSpace ws → All HasNoSpace vs → words_behind ws ≡ words_behind vs → ws ≡ vs
behind_injective [] [] no_w no_v e = refl
behind_injective [] (v ∷ vs) no_w no_v e = absurd (cc)
behind_injective (w ∷ ws) [] no_w no_v e = absurd (cc)
behind_injective (w ∷ ws) (v ∷ vs) no_w no_v e =
    let t : w ++ words_behind ws ≡ v ++ words_behind vs = cc in
    let parts = same_word w v (words_behind ws) (words_behind vs) (head_of w ws no_w) (head_of v vs no_v) (behind_ends ws) (behind_ends vs) t in
    ap (λ x. x ∷ ws) parts.0 ∙ ap (λ xs. v ∷ xs) (behind_injective ws vs (tail_of w ws no_w) (tail_of v vs no_v) parts.1)

pub joined_injective : (w v : Word) (ws vs : List Word) → All HasNoSpace (w ∷ ws) → All HasNoSpace (v ∷ vs) → joined w ws ≡ joined v vs → (w ≡ v) × (ws ≡ vs)
joined_injective w v ws vs no_w no_v e =
    let parts = same_word w v (words_behind ws) (words_behind vs) (head_of w ws no_w) (head_of v vs no_v) (behind_ends ws) (behind_ends vs) e in
    (parts.0, behind_injective ws vs (tail_of w ws no_w) (tail_of v vs no_v) parts.1)

-- no space stands in a number, nor in a short word in which none is seen
pub number_lacks : (n : ℕ) → HasNoSpace (spelled n)
number_lacks n = spelled_lacks 32 n (omega arith)

pub word_lacks : (word : Word) → list_all (λ b. not (b == 32)) word ≡ true → HasNoSpace word
word_lacks word pass k d h e =
    let at : not (get_or word k d == 32) ≡ true = AllPass-from_list_all (λ b. not (b == 32)) word pass k d h in
    let other : not (get_or word k d == 32) ≡ false = ap (λ b. not (b == 32)) e in
    absurd (cc)

-- one word more in front
pub word_in_front : (w : Word) (ws : List Word) → HasNoSpace w → All HasNoSpace ws → All HasNoSpace (w ∷ ws)
word_in_front w ws first others zero d h = first
word_in_front w ws first others (suc k) d h = others k d (omega arith)

pub numbers_lack : (ns : List ℕ) → All HasNoSpace (map spelled ns)
numbers_lack [] = λ k d h. absurd (omega arith)
numbers_lack (n ∷ ns) = word_in_front (spelled n) (map spelled ns) (number_lacks n) (numbers_lack ns)

pub phrase_lacks : (word : Word) (ns : List ℕ) → HasNoSpace word → All HasNoSpace (phrase word ns)
phrase_lacks word ns first = word_in_front word (map spelled ns) first (numbers_lack ns)

-- how a line is split

split_other : (b : ℕ) (bs : List ℕ) → b ≢ 32 → split (b ∷ bs) ≡ in_front b (split bs)
split_other b bs other = cond-false (b == 32) ([] ∷ split bs) (in_front b (split bs)) (ne_eqb b 32 other)

-- up to the first space
pub split_at_space : (bs : List ℕ) (n : ℕ) → n < length bs → ((k : ℕ) → k < n → get_or bs k 0 ≢ 32) → get_or bs n 0 ≡ 32 →
    split bs ≡ take n bs ∷ split (drop (n + 1) bs)
split_at_space [] n within none stop = absurd (omega arith)
split_at_space (b ∷ bs) zero within none stop = cond-true (b == 32) ([] ∷ split bs) (in_front b (split bs)) (eq-eqb b 32 stop)
split_at_space (b ∷ bs) (suc n) within none stop =
    let rest = split_at_space bs n (omega arith) (λ k less. none (suc k) (omega arith)) stop in
    split_other b bs (none 0 (omega arith)) ∙ ap (in_front b) rest ∙
    ap (λ k. take (suc n) (b ∷ bs) ∷ split (drop k (b ∷ bs))) (let e : suc (n + 1) ≡ suc n + 1 = omega arith in e)

-- without a space
pub split_whole : (bs : List ℕ) → ((k : ℕ) → k < length bs → get_or bs k 0 ≢ 32) → split bs ≡ bs ∷ []
split_whole [] none = refl
split_whole (b ∷ bs) none = split_other b bs (none 0 (omega arith)) ∙ ap (in_front b) (split_whole bs (λ k less. none (suc k) (omega arith)))

space_behind : (w : Word) (rest : List ℕ) → HasNoSpace w → split (w ++ 32 ∷ rest) ≡ w ∷ split rest
space_behind [] rest none = refl
space_behind (b ∷ w) rest none = split_other b (w ++ 32 ∷ rest) (none 0 0 (omega arith)) ∙
    ap (in_front b) (space_behind w rest (λ k d less. none (suc k) d (omega arith)))

-- words that are joined are split into themselves
pub split_joined : (w : Word) (ws : List Word) → All HasNoSpace (w ∷ ws) → split (joined w ws) ≡ w ∷ ws
split_joined w [] none = ap split (append-nil w) ∙ split_whole w (λ k less. none 0 [] (omega arith) k 0 less)
split_joined w (v ∷ ws) none = space_behind w (joined v ws) (none 0 [] (omega arith)) ∙
    ap (λ xs. w ∷ xs) (split_joined v ws (λ k d less. none (suc k) d (omega arith)))

-- a line is its words, joined

pub first_word : (w v : Word) (ws vs : List Word) → w ∷ ws ≡ v ∷ vs → (w ≡ v) × (ws ≡ vs)
first_word w v ws vs e = let h : w ≡ v = cc in let t : ws ≡ vs = cc in (h, t)

some_word : (bs : List ℕ) → split bs ≡ [] → ⊥
some_word [] e = cc
some_word (b ∷ bs) e = elim (cases_Bool (b == 32)) [
  | inl space ↦ let f : [] ∷ split bs ≡ [] = sym (cond-true (b == 32) ([] ∷ split bs) (in_front b (split bs)) space) ∙ e in cc
  | inr other ↦ in_front_is_some b (split bs) (sym (cond-false (b == 32) ([] ∷ split bs) (in_front b (split bs)) other) ∙ e)
]
  where
    in_front_is_some : (b : ℕ) (ws : List Word) → in_front b ws ≡ [] → ⊥
    in_front_is_some b [] e = cc
    in_front_is_some b (w ∷ ws) e = cc

-- what stands behind a space
behind_space : (bs : List ℕ) (ws : List Word) → ((v : Word) (vs : List Word) → split bs ≡ v ∷ vs → bs ≡ joined v vs) → split bs ≡ ws → 32 ∷ bs ≡ words_behind ws
behind_space bs [] back e = absurd (some_word bs e)
behind_space bs (v ∷ vs) back e = ap (λ x. 32 ∷ x) (back v vs e)

-- what stands behind another byte of the first word
behind_byte : (b : ℕ) (bs : List ℕ) (us : List Word) (w : Word) (ws : List Word) → ((v : Word) (vs : List Word) → split bs ≡ v ∷ vs → bs ≡ joined v vs) →
    split bs ≡ us
    → in_front b us ≡ w ∷ ws → b ∷ bs ≡ joined w ws
behind_byte b bs [] w ws back e f = absurd (some_word bs e)
behind_byte b bs (v ∷ vs) w ws back e f =
    let parts = first_word (b ∷ v) w vs ws f in
    ap (λ x. b ∷ x) (back v vs e) ∙ ap (λ x. joined x vs) parts.0 ∙ ap (joined w) parts.1

pub split_back : (line : Line) (w : Word) (ws : List Word) → split line ≡ w ∷ ws → line ≡ joined w ws
split_back [] w ws e = let parts = first_word [] w [] ws e in ap (λ v. joined v []) parts.0 ∙ ap (joined w) parts.1
split_back (b ∷ bs) w ws e = elim (cases_Bool (b == 32)) [
  | inl space ↦
      let parts = first_word [] w (split bs) ws (sym (cond-true (b == 32) ([] ∷ split bs) (in_front b (split bs)) space) ∙ e) in
      ap (λ k. k ∷ bs) (eqb-true b 32 space) ∙ behind_space bs ws (split_back bs) parts.1 ∙ ap (λ v. v ++ words_behind ws) parts.0
  | inr other ↦ behind_byte b bs (split bs) w ws (split_back bs) refl (sym (cond-false (b == 32) ([] ∷ split bs) (in_front b (split bs)) other) ∙ e)
]
