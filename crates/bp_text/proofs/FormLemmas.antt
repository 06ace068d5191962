-- Numbers found from left to right: what was seen, and what is left.
use Rattle.std.proofs.Common.{
  ◌≡◌,
  ℕ,
  zero,
  suc,
  ◌+◌,
  ◌-◌,
  ◌<◌,
  ◌≤◌,
  ap,
  subst,
  ◌∙◌,
  sym,
  refl,
  arith,
  Bool,
  false,
  ◌==◌,
  List,
  [],
  ◌∷◌,
  ◌++◌,
  length,
  All,
  get_or,
  slice_index,
  append_assoc,
  inl,
  inr,
  length-append,
  take,
  drop,
  drop-cons,
}
use Rattle.std.proofs.lemmas.List.{
  append-nil,
  append_cancel_left,
  get_or_default,
  get_or-take,
  length-take-le,
  take-append-drop,
  drop_all,
  get_or_append_left,
  get_or-append_right,
}
use Rattle.std.proofs.lemmas.List.Elements.{All-append}
use Rattle.std.proofs.lemmas.Grind.{flat_map-append}
use Rattle.std.proofs.lemmas.Bool.{cases_lt, eqb-false}
use Rattle.std.specs.Prelude.{Result, Ok, Err, IfOk}
use Rattle.bp_text.specs.declared.found.Bounds.{Bounds}
use Rattle.bp_text.specs.declared.found.Found.{Found}
use Rattle.bp_text.specs.declared.found.Found.TheVariants.{Bad, Great, Whole}
use Rattle.bp_text.specs.Numbers.{spelled}
use Rattle.bp_text.specs.Lines.{numbers_text, line_of}
use Rattle.bp_text.specs.Forms.{AreWithin, IsWordAhead, IsKept, IsFound}
use Rattle.bp_text.proofs.NumberLemmas.{spelled_injective}
use Rattle.bp_text.proofs.LineLemmas.{first_number}

-- these numbers stand before the rest, and others cannot; the items are all of them unless there are fewer
pub record IsSeen (text rest : List ℕ) (bounds : Bounds) (items : List ℕ) (count : ℕ) : Type 0 where
  pub numbers : List ℕ
  pub spells : text ≡ numbers_text numbers ++ rest
  pub only : (ms : List ℕ) → text ≡ numbers_text ms → (more : List ℕ) × (ms ≡ numbers ++ more) × (rest ≡ numbers_text more)
  pub counted : length numbers ≡ count
  pub short : length items ≤ count
  pub room : count + length rest ≤ length text
  pub whole : length items ≡ count → (items ≡ numbers) × AreWithin bounds numbers
  pub beyond : length items < count → AreWithin bounds numbers → ⊥

pub nothing_seen : (text : List ℕ) (bounds : Bounds) → IsSeen text text bounds [] 0
nothing_seen text bounds = record {
  numbers = [];
  spells = refl;
  only = λ ms e. (ms, refl, e);
  counted = refl;
  short = omega arith;
  room = omega arith;
  whole = λ e. (refl, (omega arith, λ k d h. absurd (omega arith)));
  beyond = λ h. absurd (omega arith);
}

-- the numbers seen, with the next one
abbrev one_more : List ℕ → ℕ → List ℕ
one_more ns n = ns ++ n ∷ []

within_front : (bounds : Bounds) (ns : List ℕ) (n : ℕ) → AreWithin bounds (one_more ns n) →
    AreWithin bounds ns × (length ns < bounds.most) × (n ≤ bounds.greatest)
within_front bounds ns n w =
    let long : length (one_more ns n) ≡ length ns + 1 = length-append ns (n ∷ []) in (
      (omega (arith, w.0, long), λ k d h. let at = get_or_append_left ns (n ∷ []) d k h in omega (arith, at, w.1 k d (omega (arith, long)))),
      omega (arith, w.0, long),
      (let zero_left : length ns - length ns ≡ 0 = omega arith in
          let at : get_or (one_more ns n) (length ns) 0 ≡ n = get_or-append_right ns (n ∷ []) (length ns) (length ns) 0 refl (omega arith) ∙
          ap (λ k. get_or (n ∷ []) k 0) zero_left in
          omega (arith, at, w.1 (length ns) 0 (omega (arith, long)))),
    )

within_more : (bounds : Bounds) (ns : List ℕ) (n : ℕ) → AreWithin bounds ns → length ns < bounds.most → n ≤ bounds.greatest → AreWithin bounds (one_more ns n)
within_more bounds ns n w room small =
    let one : All (λ x. x ≤ bounds.greatest) (n ∷ []) = only_one in
    (omega (arith, room, length-append ns (n ∷ [])), All-append (λ x. x ≤ bounds.greatest) ns (n ∷ []) w.1 one)
  where
    only_one : All (λ x. x ≤ bounds.greatest) (n ∷ [])
    only_one zero d h = small
    only_one (suc k) d h = absurd (omega arith)

spells_more : (text rest word more ns : List ℕ) (n : ℕ) → text ≡ numbers_text ns ++ rest → IsWordAhead rest word more → word ≡ spelled n →
    text ≡ numbers_text (one_more ns n) ++ more
spells_more text rest word more ns n e ahead is =
    let f : ℕ → List ℕ = λ n. 32 ∷ spelled n in
    let next : numbers_text (n ∷ []) ≡ 32 ∷ spelled n = append-nil (32 ∷ spelled n) in
    let all : numbers_text (one_more ns n) ≡ numbers_text ns ++ 32 ∷ spelled n = flat_map-append f ns (n ∷ []) ∙ ap (λ xs. numbers_text ns ++ xs) next in
    e ∙ ap (λ xs. numbers_text ns ++ xs) (ahead.splits ∙ ap (λ w. 32 ∷ w ++ more) is) ∙ sym (append_assoc (numbers_text ns) (32 ∷ spelled n) more) ∙
    ap (λ xs. xs ++ more) (sym all)

only_more : (text rest word more ns : List ℕ) (n : ℕ) →
    ((ms : List ℕ) → text ≡ numbers_text ms → (more : List ℕ) × (ms ≡ ns ++ more) × (rest ≡ numbers_text more)) → IsWordAhead rest word more →
    word ≡ spelled n →
    (ms : List ℕ) → text ≡ numbers_text ms → (left : List ℕ) × (ms ≡ one_more ns n ++ left) × (more ≡ numbers_text left)
only_more text rest word more ns n only ahead is ms e =
    let before = only ms e in
    let next = first_number before.0 rest word more ahead before.2 in
    let same : next.0 ≡ n = spelled_injective next.0 n (sym next.3 ∙ is) in (
      next.1,
      before.1 ∙ ap (λ xs. ns ++ xs) (next.2 ∙ ap (λ x. x ∷ next.1) same) ∙ sym (append_assoc ns (n ∷ []) next.1),
      next.4,
    )

pub length_ahead : (text word more : List ℕ) → IsWordAhead text word more → length more < length text
length_ahead text word more ahead = omega (arith, ap length ahead.splits, length-append word more)

-- the next number is too great
pub seen_great : (text rest word more : List ℕ) (bounds : Bounds) (items : List ℕ) (count n : ℕ) → IsSeen text rest bounds items count →
    IsWordAhead rest word more →
    word ≡ spelled n → bounds.greatest < n → IsSeen text more bounds items (count + 1)
seen_great text rest word more bounds items count n seen ahead is great = record {
  numbers = one_more seen.numbers n;
  spells = spells_more text rest word more seen.numbers n seen.spells ahead is;
  only = only_more text rest word more seen.numbers n seen.only ahead is;
  counted = omega (arith, length-append seen.numbers (n ∷ []), seen.counted);
  short = omega (arith, seen.short);
  room = omega (arith, seen.room, length_ahead rest word more ahead);
  whole = λ e. absurd (omega (arith, seen.short));
  beyond = λ h w. let parts = within_front bounds seen.numbers n w in omega (arith, parts.2);
}

-- the next number is kept, or there is no room for it
pub seen_value : (text rest word more : List ℕ) (bounds : Bounds) (items kept : List ℕ) (count n : ℕ) → IsSeen text rest bounds items count →
    IsWordAhead rest word more →
    word ≡ spelled n → n ≤ bounds.greatest → IsKept bounds n items kept → IsSeen text more bounds kept (count + 1)
seen_value text rest word more bounds items kept count n seen ahead is small (inl (room, e)) =
    let length_kept : length kept ≡ length items + 1 = omega (arith, ap length e, length-append items (n ∷ [])) in
    record {
      numbers = one_more seen.numbers n;
      spells = spells_more text rest word more seen.numbers n seen.spells ahead is;
      only = only_more text rest word more seen.numbers n seen.only ahead is;
      counted = omega (arith, length-append seen.numbers (n ∷ []), seen.counted);
      short = omega (arith, seen.short, length_kept);
      room = omega (arith, seen.room, length_ahead rest word more ahead);
      whole = λ f. let all = seen.whole (omega (arith, f, length_kept)) in
          (e ∙ ap (λ xs. one_more xs n) all.0, within_more bounds seen.numbers n all.1 (omega (arith, room, ap length all.0)) small);
      beyond = λ h w. seen.beyond (omega (arith, h, length_kept)) (within_front bounds seen.numbers n w).0;
    }
seen_value text rest word more bounds items kept count n seen ahead is small (inr (full, e)) = record {
  numbers = one_more seen.numbers n;
  spells = spells_more text rest word more seen.numbers n seen.spells ahead is;
  only = only_more text rest word more seen.numbers n seen.only ahead is;
  counted = omega (arith, length-append seen.numbers (n ∷ []), seen.counted);
  short = omega (arith, seen.short, ap length e);
  room = omega (arith, seen.room, length_ahead rest word more ahead);
  whole = λ f. absurd (omega (arith, seen.short, f, ap length e));
  beyond = λ h w. let parts = within_front bounds seen.numbers n w in omega (arith, parts.1, full, seen.counted, seen.short);
}

-- what the numbers say once all was seen
pub found_whole : (text rest : List ℕ) (bounds : Bounds) (items : List ℕ) (count : ℕ) → IsSeen text rest bounds items count → length rest ≡ 0 →
    count ≡ length items →
    (text ≡ numbers_text items) × AreWithin bounds items
found_whole text rest bounds items count seen none all =
    let parts = seen.whole (sym all) in
    let nothing : rest ≡ [] = length_zero rest none in (
      seen.spells ∙ ap (λ r. numbers_text seen.numbers ++ r) nothing ∙ append-nil (numbers_text seen.numbers) ∙ ap numbers_text (sym parts.0),
      (let P : List ℕ → Type 0 = λ ns. AreWithin bounds ns in subst P (sym parts.0) parts.1),
    )
  where
    length_zero : (rest : List ℕ) → length rest ≡ 0 → rest ≡ []
    length_zero [] e = refl
    length_zero (x ∷ xs) e = absurd (omega (arith, e))

pub found_great : (text rest : List ℕ) (bounds : Bounds) (items : List ℕ) (count : ℕ) → IsSeen text rest bounds items count → length rest ≡ 0 →
    (count ≡ length items → ⊥) →
    (ns : List ℕ) × (text ≡ numbers_text ns) × (length ns ≡ count) × (AreWithin bounds ns → ⊥)
found_great text rest bounds items count seen none lost =
    let nothing : rest ≡ [] = length_zero rest none in
    let fewer : length items < count = elim (cases_lt (length items) count) [ inl l ↦ l | inr g ↦ absurd (lost (omega (arith, seen.short))) ] in
    (seen.numbers, seen.spells ∙ ap (λ r. numbers_text seen.numbers ++ r) nothing ∙ append-nil (numbers_text seen.numbers), seen.counted, seen.beyond fewer)
  where
    length_zero : (rest : List ℕ) → length rest ≡ 0 → rest ≡ []
    length_zero [] e = refl
    length_zero (x ∷ xs) e = absurd (omega (arith, e))

-- what is left is no numbers: it does not begin with a space, or no number stands behind it
pub no_space_no_numbers : (text rest : List ℕ) (bounds : Bounds) (items : List ℕ) (count : ℕ) → IsSeen text rest bounds items count → 0 < length rest →
    (slice_index rest 0 ≡ 32 → ⊥) →
    (ms : List ℕ) → text ≡ numbers_text ms → ⊥
no_space_no_numbers text rest bounds items count seen some first ms e =
    let left = seen.only ms e in by_numbers left.0 left.2
  where
    by_numbers : (more : List ℕ) → rest ≡ numbers_text more → ⊥
    by_numbers [] f = omega (arith, some, ap length f)
    by_numbers (m ∷ more) f = first (ap (λ xs. slice_index xs 0) f)

pub no_number_no_numbers : (text rest word more : List ℕ) (bounds : Bounds) (items : List ℕ) (count : ℕ) → IsSeen text rest bounds items count →
    IsWordAhead rest word more →
    ((n : ℕ) → word ≡ spelled n → ⊥) → (ms : List ℕ) → text ≡ numbers_text ms → ⊥
no_number_no_numbers text rest word more bounds items count seen ahead bad ms e =
    let left = seen.only ms e in
    let next = first_number left.0 rest word more ahead left.2 in
    bad next.0 next.3

-- a space, the bytes before the next one, and the rest
pub word_is_ahead : (text : List ℕ) (n : ℕ) → 0 < length text → slice_index text 0 ≡ 32 → n ≤ length (drop 1 text) →
    ((k : ℕ) → k < n → slice_index (drop 1 text) k ≡ 32 → ⊥) →
    (n < length (drop 1 text) → slice_index (drop 1 text) n ≡ 32) → IsWordAhead text (take n (drop 1 text)) (drop n (drop 1 text))
word_is_ahead [] n some first within none stop = absurd (omega arith)
word_is_ahead (b ∷ bs) n some first within none stop = record {
  splits = ap (λ x. x ∷ bs) first ∙ ap (λ xs. 32 ∷ xs) (sym (take-append-drop n bs));
  no_space = λ k d h e.
      let before : k < n = omega (arith, h, length-take-le n bs within) in
      none k before (sym (get_or_default bs k d 0 (omega (arith, before, within))) ∙ sym (get_or-take n bs k d before) ∙ e);
  ends = elim (cases_lt n (length bs)) [
    | inl inside ↦ inr (drop (suc n) bs, drop-cons bs n 0 inside ∙ ap (λ x. x ∷ drop (suc n) bs) (stop inside))
    | inr past ↦ inl (drop_all n bs past)
  ];
}

pub not_empty : (n : ℕ) (b : Bool) → b ≡ (n == 0) → b ≡ false → 0 < n
not_empty n b e f = elim (cases_lt 0 n) [ inl some ↦ some | inr none ↦ absurd (eqb-false n 0 (sym e ∙ f) (omega arith)) ]

-- what is found behind a word is found on the line
pub found_on_line : {E : Type 0} (word line text : List ℕ) (bounds : Bounds) (items : List ℕ) (r : Result Found E) → line ≡ word ++ text →
    IfOk r (IsFound numbers_text text bounds items) → IfOk r (IsFound (line_of word) line bounds items)
found_on_line word line text bounds items (Err e) is found = tt
found_on_line word line text bounds items (Ok Bad) is found = λ ns e. found ns (append_cancel_left word text (numbers_text ns) (sym is ∙ e))
found_on_line word line text bounds items (Ok (Great count)) is found = (found.0, is ∙ ap (λ xs. word ++ xs) found.1, found.2, found.3)
found_on_line word line text bounds items (Ok Whole) is found = (is ∙ ap (λ xs. word ++ xs) found.0, found.1)
