-- Bytes are read as a text in one way: they part from a kind once, and each answer says how. A law on a kind cites `one_way`.
use Rattle.std.proofs.Common.{
  ◌≡◌,
  ◌≢◌,
  ◌⊎◌,
  ℕ,
  ◌+◌,
  ◌<◌,
  ◌≤◌,
  refl,
  ap,
  sym,
  subst,
  ◌∙◌,
  arith,
  List,
  [],
  ◌∷◌,
  ◌++◌,
  length,
  All,
  append_assoc,
  length-append,
  inl,
  inr,
}
use Rattle.std.specs.Prelude.{Result, Ok, Err}
use Rattle.std.proofs.lemmas.Bool.{cases_lt}
use Rattle.std.proofs.lemmas.List.{append-nil}
use Rattle.std.proofs.lemmas.List.Elements.{All-append}
use Rattle.bp_text.specs.declared.text_error.TextError.{TextError}
use Rattle.bp_text.specs.declared.text_error.TextError.TheVariants.{BadLine, Limit, TooShort, Trailing, Memory}
use Rattle.bp_text.specs.Lines.{Line, text_of, HasNoEnd}
use Rattle.bp_text.specs.Reading.{Begins, HasForm, IsRight, IsText}
use Rattle.bp_text.specs.Laws.{IsReadOneWay}
use Rattle.bp_text.proofs.EndLemmas.{one_line, no_end_in_front}
use Rattle.bp_text.proofs.SpellingLemmas.{IsSpelling, same_lines, end_stands, not_behind}

long : (front : List Line) (line : Line) → length (front ++ line ∷ []) ≡ length front + 1
long front line = length-append front (line ∷ [])

last_same : (xs ys : List Line) (x y : Line) → xs ++ x ∷ [] ≡ ys ++ y ∷ [] → (xs ≡ ys) × (x ≡ y)
last_same [] [] x y e = let h : x ≡ y = cc in (refl, h)
last_same [] (b ∷ ys) x y e = absurd (omega (arith, ap length e, length-append ys (y ∷ [])))
last_same (a ∷ xs) [] x y e = absurd (omega (arith, ap length e, length-append xs (x ∷ [])))
last_same (a ∷ xs) (b ∷ ys) x y e =
    let h : a ≡ b = cc in
    let t : xs ++ x ∷ [] ≡ ys ++ y ∷ [] = cc in
    let rest = last_same xs ys x y t in
    (ap (λ c. c ∷ xs) h ∙ ap (λ cs. b ∷ cs) rest.0, rest.1)

-- how bytes part from a kind: a value and what stands behind it, right lines and one that is not, or lines without an end
data Parting (V : Type 0) : Type 0 where
  Whole : V → List ℕ → Parting V
  Broken : List Line → Line → Parting V
  Short : Parting V

module _ {V : Type 0} (lines : V → List Line) (Within : V → Type 0) (s : IsSpelling lines) (bytes : List ℕ) where
  -- the lines of a value stand before the rest
  record IsWhole (v : V) (rest : List ℕ) : Type 0 where
    within : Within v
    splits : bytes ≡ text_of (lines v) ++ rest

  -- right lines, and then one that is not
  record IsBroken (front : List Line) (line : Line) : Type 0 where
    rest : List ℕ
    begins : Begins lines Within front
    wrong : IsRight lines Within front line → ⊥
    no_end : HasNoEnd line
    splits : bytes ≡ text_of (front ++ line ∷ []) ++ rest

  -- right lines, and then bytes without an end
  record IsShort : Type 0 where
    front : List Line
    rest : List ℕ
    begins : Begins lines Within front
    no_end : HasNoEnd rest
    splits : bytes ≡ text_of front ++ rest

  broken_lines : (front : List Line) (line : Line) → IsBroken front line → All HasNoEnd (front ++ line ∷ [])
  broken_lines front line b = All-append HasNoEnd front (line ∷ []) (no_end_in_front lines Within front s.no_ends b.begins) (one_line line b.no_end)

  both_whole : (v w : V) (r t : List ℕ) → IsWhole v r → IsWhole w t → (v ≡ w) × (r ≡ t)
  both_whole v w r t a b =
      let e : text_of (lines v) ++ r ≡ text_of (lines w) ++ t = sym a.splits ∙ b.splits in
      elim (cases_lt (length (lines w)) (length (lines v))) [
        | inl shorter ↦
            let more = same_lines (lines w) (lines v) t r (s.no_ends w) (s.no_ends v) (sym e) (omega arith) in
            let same = s.alone w v more.0 more.1 in
            (sym same.0, sym (more.2 ∙ ap (λ ls. text_of ls ++ r) same.1))
        | inr longer ↦
            let more = same_lines (lines v) (lines w) r t (s.no_ends v) (s.no_ends w) e longer in
            let same = s.alone v w more.0 more.1 in
            (same.0, more.2 ∙ ap (λ ls. text_of ls ++ t) same.1)
      ]

  -- a list that ends with a line is in front of another, or has it in front up to that line
  whole_broken : (v : V) (r : List ℕ) (front : List Line) (line : Line) → IsWhole v r → IsBroken front line → ⊥
  whole_broken v r front line a b =
      let e : text_of (lines v) ++ r ≡ text_of (front ++ line ∷ []) ++ b.rest = sym a.splits ∙ b.splits in
      let none = no_end_in_front lines Within front s.no_ends b.begins in
      elim (cases_lt (length front) (length (lines v))) [
        | inl inside ↦
            let more = same_lines (front ++ line ∷ []) (lines v) b.rest r (broken_lines front line b) (s.no_ends v) (sym e) (omega (arith, long front line)) in
            b.wrong (v, more.0, a.within, more.1 ∙ append_assoc front (line ∷ []) more.0)
        | inr past ↦
            let f : text_of (lines v) ++ r ≡ text_of front ++ (line ++ 10 ∷ b.rest) = e ∙ split_last front line b.rest in
            let more = same_lines (lines v) front r (line ++ 10 ∷ b.rest) (s.no_ends v) none f past in
            not_behind lines Within front s b.begins v more.0 more.1
      ]
    where
      split_last : (front : List Line) (line : Line) (rest : List ℕ) → text_of (front ++ line ∷ []) ++ rest ≡ text_of front ++ (line ++ 10 ∷ rest)
      split_last [] line rest = append_assoc (line ++ 10 ∷ []) [] rest ∙ append_assoc line (10 ∷ []) rest
      split_last (f ∷ front) line rest = append_assoc (f ++ 10 ∷ []) (text_of (front ++ line ∷ [])) rest ∙
          ap (λ t. (f ++ 10 ∷ []) ++ t) (split_last front line rest) ∙ sym (append_assoc (f ++ 10 ∷ []) (text_of front) (line ++ 10 ∷ rest))

  whole_short : (v : V) (r : List ℕ) → IsWhole v r → IsShort → ⊥
  whole_short v r a b =
      let e : text_of (lines v) ++ r ≡ text_of b.front ++ b.rest = sym a.splits ∙ b.splits in
      let none = no_end_in_front lines Within b.front s.no_ends b.begins in
      elim (cases_lt (length b.front) (length (lines v))) [
        | inl inside ↦
            let more = same_lines b.front (lines v) b.rest r none (s.no_ends v) (sym e) (omega arith) in
            let P : List ℕ → Type 0 = λ bs. HasNoEnd bs in
            let nothing = end_stands more.0 r (subst P more.2 b.no_end) in
            omega (arith, ap length more.1, length-append b.front more.0, ap length nothing)
        | inr past ↦
            let more = same_lines (lines v) b.front r b.rest (s.no_ends v) none e past in
            not_behind lines Within b.front s b.begins v more.0 more.1
      ]

  -- a broken line is not among right ones
  broken_inside : (front : List Line) (line : Line) (other : List Line) → IsBroken front line → Begins lines Within other → (more : List Line) →
      other ≡ (front ++ line ∷ []) ++ more → ⊥
  broken_inside front line other b begins more e =
      b.wrong (
        begins.0,
        more ++ begins.1 ∷ begins.2,
        begins.3,
        begins.4 ∙ ap (λ ls. ls ++ begins.1 ∷ begins.2) (e ∙ append_assoc front (line ∷ []) more) ∙
            append_assoc front (line ∷ more) (begins.1 ∷ begins.2),
      )

  broken_short : (front : List Line) (line : Line) → IsBroken front line → IsShort → ⊥
  broken_short front line b h =
      let e : text_of (front ++ line ∷ []) ++ b.rest ≡ text_of h.front ++ h.rest = sym b.splits ∙ h.splits in
      let none = no_end_in_front lines Within h.front s.no_ends h.begins in
      let ours = broken_lines front line b in
      elim (cases_lt (length h.front) (length (front ++ line ∷ []))) [
        | inl inside ↦
            let more = same_lines h.front (front ++ line ∷ []) h.rest b.rest none ours (sym e) (omega arith) in
            let P : List ℕ → Type 0 = λ bs. HasNoEnd bs in
            let nothing = end_stands more.0 b.rest (subst P more.2 h.no_end) in
            omega (arith, ap length more.1, length-append h.front more.0, ap length nothing)
        | inr past ↦
            let more = same_lines (front ++ line ∷ []) h.front b.rest h.rest ours none e past in
            broken_inside front line h.front b h.begins more.0 more.1
      ]

  inside_or_same : (f : List Line) (l : Line) (g : List Line) (m : Line) → IsBroken f l → IsBroken g m → length f < length g → ⊥
  inside_or_same f l g m a b shorter =
      let e : text_of (f ++ l ∷ []) ++ a.rest ≡ text_of (g ++ m ∷ []) ++ b.rest = sym a.splits ∙ b.splits in
      let more = same_lines (f ++ l ∷ []) (g ++ m ∷ []) a.rest b.rest (broken_lines f l a) (broken_lines g m b) e (omega (arith, long f l, long g m)) in
      let cut = before_last g m (f ++ l ∷ []) more.0 more.1 (omega (arith, long f l)) in
      broken_inside f l g a b.begins cut.0 cut.1
    where
      before_last : (g : List Line) (m : Line) (xs more : List Line) → g ++ m ∷ [] ≡ xs ++ more → length xs ≤ length g → (rest : List Line) × (g ≡ xs ++ rest)
      before_last g m [] more e short = (g, refl)
      before_last [] m (x ∷ xs) more e short = absurd (omega arith)
      before_last (b ∷ g) m (x ∷ xs) more e short =
          let h : b ≡ x = cc in
          let t : g ++ m ∷ [] ≡ xs ++ more = cc in
          let rest = before_last g m xs more t (omega arith) in
          (rest.0, ap (λ c. c ∷ g) h ∙ ap (λ cs. x ∷ cs) rest.1)

  both_broken : (f : List Line) (l : Line) (g : List Line) (m : Line) → IsBroken f l → IsBroken g m → (f ≡ g) × (l ≡ m)
  both_broken f l g m a b =
      elim (cases_lt (length f) (length g)) [
        | inl shorter ↦ absurd (inside_or_same f l g m a b shorter)
        | inr upto ↦ elim (cases_lt (length g) (length f)) [
          | inl longer ↦ absurd (inside_or_same g m f l b a longer)
          | inr same ↦
              let e : text_of (f ++ l ∷ []) ++ a.rest ≡ text_of (g ++ m ∷ []) ++ b.rest = sym a.splits ∙ b.splits in
              let more = same_lines (f ++ l ∷ []) (g ++ m ∷ []) a.rest b.rest (broken_lines f l a) (broken_lines g m b) e (omega (arith, long f l, long g m)) in
              let nothing : more.0 ≡ [] = no_more more.0 (omega (arith, ap length more.1, length-append (f ++ l ∷ []) more.0, long f l, long g m)) in
              last_same f g l m (sym (more.1 ∙ ap (λ ls. (f ++ l ∷ []) ++ ls) nothing ∙ append-nil (f ++ l ∷ [])))
        ]
      ]
    where
      no_more : (ls : List Line) → length ls ≡ 0 → ls ≡ []
      no_more [] e = refl
      no_more (x ∷ ls) e = absurd (omega (arith, e))

  -- the bytes part so
  abbrev PartsAs : Parting V → Type 0
  PartsAs (Whole v rest) = IsWhole v rest
  PartsAs (Broken front line) = IsBroken front line
  PartsAs Short = IsShort

  -- bytes part from a kind in one way
  parts_once : (a b : Parting V) → PartsAs a → PartsAs b → a ≡ b
  parts_once (Whole v r) (Whole w t) a b = let same = both_whole v w r t a b in ap (λ x. Whole x r) same.0 ∙ ap (Whole w) same.1
  parts_once (Whole v r) (Broken front line) a b = absurd (whole_broken v r front line a b)
  parts_once (Whole v r) Short a b = absurd (whole_short v r a b)
  parts_once (Broken front line) (Whole w t) a b = absurd (whole_broken w t front line b a)
  parts_once (Broken f l) (Broken g m) a b = let same = both_broken f l g m a b in ap (λ x. Broken x l) same.0 ∙ ap (Broken g) same.1
  parts_once (Broken front line) Short a b = absurd (broken_short front line a b)
  parts_once Short (Whole w t) a b = absurd (whole_short w t b a)
  parts_once Short (Broken front line) a b = absurd (broken_short front line b a)
  parts_once Short Short a b = refl

  -- the answer where the bytes part so: a broken line is refused by its form, or else by its limits
  abbrev IsAnswerAt : Parting V → Result V TextError → Type 0
  IsAnswerAt (Whole v []) answer = answer ≡ Ok v
  IsAnswerAt (Whole v (b ∷ more)) answer = answer ≡ Err (Trailing (length (lines v) + 1))
  IsAnswerAt (Broken front line) answer =
      ((HasForm lines front line → ⊥) × (answer ≡ Err (BadLine (length front + 1)))) ⊎ (HasForm lines front line × (answer ≡ Err (Limit (length front + 1))))
  IsAnswerAt Short answer = answer ≡ Err TooShort

  -- it is one
  same_answer : (p : Parting V) (a b : Result V TextError) → IsAnswerAt p a → IsAnswerAt p b → a ≡ b
  same_answer (Whole v []) a b e f = e ∙ sym f
  same_answer (Whole v (x ∷ more)) a b e f = e ∙ sym f
  same_answer (Broken front line) a b (inl (wrong, e)) (inl (also, f)) = e ∙ sym f
  same_answer (Broken front line) a b (inl (wrong, e)) (inr (form, f)) = absurd (wrong form)
  same_answer (Broken front line) a b (inr (form, e)) (inl (wrong, f)) = absurd (wrong form)
  same_answer (Broken front line) a b (inr (form, e)) (inr (also, f)) = e ∙ sym f
  same_answer Short a b e f = e ∙ sym f

  place_of : (front : List Line) (line : Line) (given place : ℕ) → place ≡ given → given ≡ 0 + length (front ++ line ∷ []) → place ≡ length front + 1
  place_of front line given place e f = omega (arith, e, f, long front line)

  -- what an answer says of the bytes
  parting : (answer : Result V TextError) → answer ≢ Err Memory → IsText lines Within bytes answer → (p : Parting V) × PartsAs p × IsAnswerAt p answer
  parting (Ok v) memory h = (Whole v [], record { within = h.0; splits = h.1 ∙ sym (append-nil (text_of (lines v))) }, refl)
  parting (Err (BadLine place)) memory h =
      let b = h.1 in (
        Broken b.front b.line,
        record { rest = h.0.rest; begins = b.begins; wrong = λ r. b.wrong (r.0, r.1, r.3); no_end = b.no_end; splits = b.gives.splits },
        inl (b.wrong, ap (λ n. Err (BadLine n)) (place_of b.front b.line h.0.given place b.counted b.gives.given)),
      )
  parting (Err (Limit place)) memory h =
      let b = h.1 in (
        Broken b.front b.line,
        record { rest = h.0.rest; begins = b.begins; wrong = b.outside; no_end = b.no_end; splits = b.gives.splits },
        inr (b.form, ap (λ n. Err (Limit n)) (place_of b.front b.line h.0.given place b.counted b.gives.given)),
      )
  parting (Err TooShort) memory h =
      (Short, record { front = h.1.front; rest = h.0.rest; begins = h.1.begins; no_end = h.1.no_end; splits = h.1.gives.splits }, refl)
  parting (Err (Trailing place)) memory h =
      (Whole h.value (h.byte ∷ h.more), record { within = h.within; splits = h.trails }, ap (λ n. Err (Trailing n)) h.counted)
  parting (Err Memory) memory h = absurd (memory refl)

  one_answer : (a b : Result V TextError) → a ≢ Err Memory → b ≢ Err Memory → IsText lines Within bytes a → IsText lines Within bytes b → a ≡ b
  one_answer a b not_a not_b h k =
      let p = parting a not_a h in
      let q = parting b not_b k in
      let P : Parting V → Type 0 = λ x. IsAnswerAt x b in
      same_answer p.0 a b p.2 (subst P (sym (parts_once p.0 q.0 p.1 q.1)) q.2)

-- bytes are read in one way, of every kind whose lines are a spelling
pub one_way : {V : Type 0} (lines : V → List Line) (Within : V → Type 0) → IsSpelling lines → IsReadOneWay lines Within
one_way lines Within s bytes a b not_a not_b h k = one_answer lines Within s bytes a b not_a not_b h k
