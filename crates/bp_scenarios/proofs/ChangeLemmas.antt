-- Changes, told from the words of their lines.
use Rattle.std.proofs.Common.{
  ◌≡◌,
  ℕ,
  ◌<◌,
  ◌≤◌,
  ◌||◌,
  refl,
  ap,
  sym,
  subst,
  ◌∙◌,
  arith,
  Bool,
  true,
  false,
  cond,
  List,
  [],
  ◌∷◌,
  ◌++◌,
  length,
  All,
  get_or,
  append-nil,
  length-append,
}
use Rattle.std.specs.Prelude.{codes, MatchBool, nat_le, nat_lt, Some, None}
use Rattle.std.proofs.lemmas.Bool.{leb-true, leb-false, ltb-true, ltb-false}
use Rattle.bp_types.specs.declared.stay.Span.{Span}
use Rattle.bp_types.specs.declared.change.Change.{Change}
use Rattle.bp_types.specs.declared.change.Change.TheVariants.{Rooms, Demand, Rate}
use Rattle.bp_types.specs.declared.limits.TheConstants.{MOST_ROOMS, MOST_RATE, MOST_FORECAST}
use Rattle.bp_text.specs.Numbers.{spelled}
use Rattle.bp_text.specs.Lines.{Line}
use Rattle.bp_text.specs.Words.{Word, HasNoSpace, split, IsCounted}
use Rattle.bp_text.specs.declared.words.Counted.{Counted}
use Rattle.bp_text.proofs.NumberLemmas.{spelled_injective}
use Rattle.bp_text.proofs.WordLemmas.{first_word, joined_injective, split_joined, split_back, number_lacks, word_lacks, word_in_front, numbers_lack}
use Rattle.bp_scenarios.specs.declared.told.Told.{Told}
use Rattle.bp_scenarios.specs.declared.told.Found.{Found}
use Rattle.bp_scenarios.specs.declared.told.Found.TheVariants.{Bad, Great, Whole}
use Rattle.bp_scenarios.specs.Refused.{IsChangeOf}
use Rattle.bp_scenarios.specs.Texts.{direction, change_word, change_words, change_line}
use Rattle.bp_scenarios.specs.Rows.{IsTold, AreTold, IsBehind, IsFound}

direction_lacks : (up : Bool) → HasNoSpace (direction up)
direction_lacks true = word_lacks (codes "up") refl
direction_lacks false = word_lacks (codes "down") refl

change_lacks : (c : Change) → All HasNoSpace (change_word c ∷ change_words c)
change_lacks (Rooms span up units) =
    word_in_front (codes "rooms") (change_words (Rooms span up units)) (word_lacks (codes "rooms") refl)
    (word_in_front (spelled span.from) (spelled span.to ∷ direction up ∷ spelled units ∷ []) (number_lacks span.from)
    (word_in_front (spelled span.to) (direction up ∷ spelled units ∷ []) (number_lacks span.to)
    (word_in_front (direction up) (spelled units ∷ []) (direction_lacks up) (numbers_lack (units ∷ [])))))
change_lacks (Demand stay value) =
    word_in_front (codes "demand") (change_words (Demand stay value)) (word_lacks (codes "demand") refl) (numbers_lack (stay ∷ value ∷ []))
change_lacks (Rate stay value) =
    word_in_front (codes "rate") (change_words (Rate stay value)) (word_lacks (codes "rate") refl) (numbers_lack (stay ∷ value ∷ []))

pub split_of_change : (c : Change) → split (change_line c) ≡ change_word c ∷ change_words c
split_of_change c = split_joined (change_word c) (change_words c) (change_lacks c)

-- words are told by their second letter
other_words : (v w : Word) → get_or v 1 0 < get_or w 1 0 → (v ≡ w → ⊥)
other_words v w less e = omega (arith, less, ap (λ x. get_or x 1 0) e)

pub direction_injective : (a b : Bool) → direction a ≡ direction b → a ≡ b
direction_injective true true e = refl
direction_injective true false e = absurd (other_words (codes "down") (codes "up") (omega arith) (sym e))
direction_injective false true e = absurd (other_words (codes "down") (codes "up") (omega arith) e)
direction_injective false false e = refl

demand_not_rooms : codes "demand" ≡ codes "rooms" → ⊥
demand_not_rooms e = other_words (codes "demand") (codes "rooms") (omega arith) e

rate_not_rooms : codes "rate" ≡ codes "rooms" → ⊥
rate_not_rooms e = other_words (codes "rate") (codes "rooms") (omega arith) e

rate_not_demand : codes "rate" ≡ codes "demand" → ⊥
rate_not_demand e = other_words (codes "rate") (codes "demand") (omega arith) e

-- two numbers behind a word
two_same : (a b m n : ℕ) (ws vs : List Word) → spelled a ∷ spelled b ∷ ws ≡ spelled m ∷ spelled n ∷ vs → (a ≡ m) × (b ≡ n) × (ws ≡ vs)
two_same a b m n ws vs e =
    let first = first_word (spelled a) (spelled m) (spelled b ∷ ws) (spelled n ∷ vs) e in
    let second = first_word (spelled b) (spelled n) ws vs first.1 in
    (spelled_injective a m first.0, spelled_injective b n second.0, second.1)

-- the words of a change tell it
pub words_injective : (c d : Change) (more : List Word) → change_word c ≡ change_word d → change_words c ++ more ≡ change_words d → (c ≡ d) × (more ≡ [])
words_injective (Rooms s up units) (Rooms t down others) more w e =
    let nights = two_same s.from s.to t.from t.to (direction up ∷ spelled units ∷ more) (direction down ∷ spelled others ∷ []) e in
    let way = first_word (direction up) (direction down) (spelled units ∷ more) (spelled others ∷ []) nights.2 in
    let number = first_word (spelled units) (spelled others) more [] way.1 in
    let span : ℕ → ℕ → Span = λ m n. record { from = m; to = n } in (
      ap (λ m. Rooms (span m s.to) up units) nights.0 ∙ ap (λ n. Rooms (span t.from n) up units) nights.1
          ∙ ap (λ b. Rooms t b units) (direction_injective up down way.0) ∙ ap (Rooms t down) (spelled_injective units others number.0),
      number.1,
    )
words_injective (Rooms s up units) (Demand k y) more w e = absurd (demand_not_rooms (sym w))
words_injective (Rooms s up units) (Rate k y) more w e = absurd (rate_not_rooms (sym w))
words_injective (Demand j x) (Rooms t down others) more w e = absurd (demand_not_rooms w)
words_injective (Demand j x) (Demand k y) more w e = let same = two_same j x k y more [] e in (ap (λ m. Demand m x) same.0 ∙ ap (Demand k) same.1, same.2)
words_injective (Demand j x) (Rate k y) more w e = absurd (rate_not_demand (sym w))
words_injective (Rate j x) (Rooms t down others) more w e = absurd (rate_not_rooms w)
words_injective (Rate j x) (Demand k y) more w e = absurd (rate_not_demand w)
words_injective (Rate j x) (Rate k y) more w e = let same = two_same j x k y more [] e in (ap (λ m. Rate m x) same.0 ∙ ap (Rate k) same.1, same.2)

pub change_injective : (c d : Change) → change_line c ≡ change_line d → c ≡ d
change_injective c d e =
    let parts = joined_injective (change_word c) (change_word d) (change_words c) (change_words d) (change_lacks c) (change_lacks d) e in
    (words_injective c d [] parts.0 (append-nil (change_words c) ∙ parts.1)).0

-- no change's line is another line of the text
pub change_not_end : (c : Change) → change_line c ≡ codes "end" → ⊥
change_not_end (Rooms span up units) e = omega (arith, ap (λ l. get_or l 0 0) e)
change_not_end (Demand stay value) e = omega (arith, ap (λ l. get_or l 0 0) e)
change_not_end (Rate stay value) e = omega (arith, ap (λ l. get_or l 0 0) e)

pub change_not_scenario : (c : Change) → change_line c ≡ codes "scenario" → ⊥
change_not_scenario (Rooms span up units) e = omega (arith, ap (λ l. get_or l 0 0) e)
change_not_scenario (Demand stay value) e = omega (arith, ap (λ l. get_or l 0 0) e)
change_not_scenario (Rate stay value) e = omega (arith, ap (λ l. get_or l 0 0) e)

-- a line whose words are no change's
pub no_words : (old mid : List Word) (w : Word) → old ≡ w ∷ mid → ((c : Change) (more : List Word) → change_word c ≡ w → mid ≡ change_words c ++ more → ⊥) →
    (c : Change) → old ≡ change_word c ∷ change_words c → ⊥
no_words old mid w is none c same =
    let parts = first_word w (change_word c) mid (change_words c) (sym is ∙ same) in
    none c [] (sym parts.0) (parts.1 ∙ sym (append-nil (change_words c)))

-- numbers and a direction, and then no number
pub no_units : (old mid last : List Word) (a b : ℕ) (up : Bool) → old ≡ spelled a ∷ spelled b ∷ mid → mid ≡ direction up ∷ last →
    ((n : ℕ) (more : List Word) → last ≡ spelled n ∷ more → ⊥)
    → (c : Change) (more : List Word) → change_word c ≡ codes "rooms" → old ≡ change_words c ++ more → ⊥
no_units old mid last a b up nights way none (Rooms span down units) more w same =
    let rest = (two_same a b span.from span.to mid (direction down ∷ spelled units ∷ more) (sym nights ∙ same)).2 in
    none units more (first_word (direction up) (direction down) last (spelled units ∷ more) (sym way ∙ rest)).1
no_units old mid last a b up nights way none (Demand stay value) more w same = demand_not_rooms w
no_units old mid last a b up nights way none (Rate stay value) more w same = rate_not_rooms w

-- and one with a word too many
pub one_too_many : (old mid rest more : List Word) (w v : Word) (c : Change) → old ≡ w ∷ mid → change_word c ≡ w → mid ≡ change_words c ++ rest →
    rest ≡ v ∷ more → (d : Change) → old ≡ change_word d ∷ change_words d → ⊥
one_too_many old mid rest more w v c is word behind left d same =
    let parts = first_word w (change_word d) mid (change_words d) (sym is ∙ same) in
    let none = (words_injective c d rest (word ∙ parts.0) (sym behind ∙ parts.1)).1 in
    let e : v ∷ more ≡ [] = sym left ∙ none in cc

-- all words were told
pub all_told : (old mid rest : List Word) (w : Word) (c : Change) → old ≡ w ∷ mid → change_word c ≡ w → mid ≡ change_words c ++ rest → rest ≡ [] →
    old ≡ change_word c ∷ change_words c
all_told old mid rest w c is word behind none =
    is ∙ ap (λ x. x ∷ mid) (sym word) ∙ ap (λ xs. change_word c ∷ xs) (behind ∙ ap (λ xs. change_words c ++ xs) none ∙ append-nil (change_words c))

-- from the words to the line
pub not_found : (Within : Change → Type 0) (line : Line) (words : List Word) → words ≡ split line → AreTold Within words None → (c : Change) →
    line ≡ change_line c → ⊥
not_found Within line words is none c same = none c (is ∙ ap split same ∙ split_of_change c)

pub found_line : (Within : Change → Type 0) (line : Line) (words : List Word) (t : Told) (f : Found) → words ≡ split line → AreTold Within words (Some t) →
    f ≡ cond t.great Great (Whole t.change) → IsFound Within line f
found_line Within line words t f is told same = subst (IsFound Within line) (sym same) (go t.great told.2)
  where
    line_is : line ≡ change_line told.0
    line_is = split_back line (change_word told.0) (change_words told.0) (sym is ∙ told.1)

    go : (g : Bool) → MatchBool g (Within told.0 → ⊥) (Within told.0 × (t.change ≡ told.0)) → IsFound Within line (cond g Great (Whole t.change))
    go true outside = (told.0, line_is, outside)
    go false here = (line_is ∙ ap change_line (sym here.1), subst Within (sym here.1) here.0)

-- a change whose numbers were counted

told_by : (Within : Change → Type 0) (c d : Change) (g h : Bool) → g ≡ h → MatchBool h (Within c → ⊥) (Within c × (d ≡ c)) →
    IsTold Within c (record { change = d; great = g })
told_by Within c d g h same is = let Q : Bool → Type 0 = λ b. MatchBool b (Within c → ⊥) (Within c × (d ≡ c)) in subst Q (sym same) is

abbrev counts : ℕ → ℕ → ℕ → Bool → Type 0
counts most n value great = MatchBool great (most < n) ((n ≤ most) × (value ≡ n))

pub rooms_told : (nights stays a b n : ℕ) (up : Bool) (f t u : Counted) (g : Bool) → IsCounted nights a f → IsCounted nights b t → IsCounted MOST_ROOMS n u
    → g ≡ ((f.great || t.great) || (u.great || (nat_le t.value f.value || nat_lt u.value 1)))
    → IsTold (IsChangeOf nights stays) (Rooms (record { from = a; to = b }) up n)
    (record { change = Rooms (record { from = f.value; to = t.value }) up u.value; great = g })
rooms_told nights stays a b n up f t u g from to units same = told_by Within c d g _ same (go f.great t.great u.great from.1 to.1 units.1)
  where
    Within : Change → Type 0
    Within = IsChangeOf nights stays

    c : Change
    c = Rooms (record { from = a; to = b }) up n

    d : Change
    d = Rooms (record { from = f.value; to = t.value }) up u.value

    same_change : f.value ≡ a → t.value ≡ b → u.value ≡ n → d ≡ c
    same_change x y z = ap (λ k. Rooms (record { from = k; to = t.value }) up u.value) x ∙ ap (λ k. Rooms (record { from = a; to = k }) up u.value) y ∙
        ap (Rooms (record { from = a; to = b }) up) z

    ordered : (x y : Bool) → nat_le t.value f.value ≡ x → nat_lt u.value 1 ≡ y → (a ≤ nights) × (f.value ≡ a) → (b ≤ nights) × (t.value ≡ b) →
        (n ≤ MOST_ROOMS) × (u.value ≡ n) → MatchBool (x || y) (Within c → ⊥) (Within c × (d ≡ c))
    ordered true y e e2 p q r = λ w. let h = leb-true t.value f.value e in omega (arith, h, p.1, q.1, w.0.0)
    ordered false true e e2 p q r = λ w. let h = ltb-true u.value 1 e2 in omega (arith, h, r.1, w.1)
    ordered false false e e2 p q r =
        let h = leb-false t.value f.value e in
        let k = ltb-false u.value 1 e2 in
        (((omega (arith, h, p.1, q.1), q.0), omega (arith, k, r.1), r.0), same_change p.1 q.1 r.1)

    go : (x y z : Bool) → counts nights a f.value x → counts nights b t.value y → counts MOST_ROOMS n u.value z
        → MatchBool ((x || y) || (z || (nat_le t.value f.value || nat_lt u.value 1))) (Within c → ⊥) (Within c × (d ≡ c))
    go true y z p q r = λ w. omega (arith, p, w.0.0, w.0.1)
    go false true z p q r = λ w. omega (arith, q, w.0.1)
    go false false true p q r = λ w. omega (arith, r, w.2)
    go false false false p q r = ordered (nat_le t.value f.value) (nat_lt u.value 1) refl refl p q r

pub demand_told : (nights stays a n : ℕ) (j u : Counted) (g h : Bool) → IsCounted stays a j → IsCounted MOST_FORECAST n u →
    h ≡ (j.great || nat_le stays j.value) → g ≡ (h || u.great)
    → IsTold (IsChangeOf nights stays) (Demand a n) (record { change = Demand j.value u.value; great = g })
demand_told nights stays a n j u g h stay value first same =
    told_by Within (Demand a n) (Demand j.value u.value) g _ (same ∙
    ap (λ b. b || u.great) first) (go j.great (nat_le stays j.value) u.great refl stay.1 value.1)
  where
    Within : Change → Type 0
    Within = IsChangeOf nights stays

    go : (x y z : Bool) → nat_le stays j.value ≡ y → counts stays a j.value x → counts MOST_FORECAST n u.value z →
        MatchBool ((x || y) || z) (Within (Demand a n) → ⊥) (Within (Demand a n) × (Demand j.value u.value ≡ Demand a n))
    go true y z e p q = λ w. omega (arith, p, w.0)
    go false true z e p q = λ w. let l = leb-true stays j.value e in omega (arith, l, p.1, w.0)
    go false false true e p q = λ w. omega (arith, q, w.1)
    go false false false e p q =
        let l = leb-false stays j.value e in
        ((omega (arith, l, p.1), q.0), ap (λ k. Demand k u.value) p.1 ∙ ap (Demand a) q.1)

pub rate_told : (nights stays a n : ℕ) (j u : Counted) (g h k : Bool) → IsCounted stays a j → IsCounted MOST_RATE n u →
    h ≡ (j.great || nat_le stays j.value) → k ≡ (u.great || nat_lt u.value 1) → g ≡ (h || k)
    → IsTold (IsChangeOf nights stays) (Rate a n) (record { change = Rate j.value u.value; great = g })
rate_told nights stays a n j u g h k stay value first second same =
    told_by Within (Rate a n) (Rate j.value u.value) g _ (same ∙ ap (λ b. b || k) first ∙ ap (λ b. (j.great || nat_le stays j.value) || b) second)
    (go j.great (nat_le stays j.value) u.great (nat_lt u.value 1) refl refl stay.1 value.1)
  where
    Within : Change → Type 0
    Within = IsChangeOf nights stays

    go : (x y z v : Bool) → nat_le stays j.value ≡ y → nat_lt u.value 1 ≡ v → counts stays a j.value x → counts MOST_RATE n u.value z
        → MatchBool ((x || y) || (z || v)) (Within (Rate a n) → ⊥) (Within (Rate a n) × (Rate j.value u.value ≡ Rate a n))
    go true y z v e e2 p q = λ w. omega (arith, p, w.0)
    go false true z v e e2 p q = λ w. let l = leb-true stays j.value e in omega (arith, l, p.1, w.0)
    go false false true v e e2 p q = λ w. omega (arith, q, w.2)
    go false false false true e e2 p q = λ w. let l = ltb-true u.value 1 e2 in omega (arith, l, q.1, w.1)
    go false false false false e e2 p q =
        let l = leb-false stays j.value e in
        let m = ltb-false u.value 1 e2 in
        ((omega (arith, l, p.1), omega (arith, m, q.1), q.0), ap (λ x. Rate x u.value) p.1 ∙ ap (Rate a) q.1)
