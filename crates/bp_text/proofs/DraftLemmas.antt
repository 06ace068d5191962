-- Texts that are written as they are spelt. A speller over a `Draft` cites `drafted_more` behind a part that went well,
-- `refused_more` and `refused_longer` behind one that was refused, and `stopped` where memory was wanted between two.
use Rattle.std.proofs.Common.{
  ◌≡◌,
  ℕ,
  ◌+◌,
  ◌<◌,
  List,
  [],
  ◌∷◌,
  ◌++◌,
  length,
  get_or,
  take,
  drop,
  Option,
  Result,
  Ok,
  Err,
  IsErr,
  refl,
  ap,
  sym,
  subst,
  ◌∙◌,
  append_assoc,
}
use Rattle.std.proofs.lemmas.List.{append-nil, take-append-drop, take_more}
use Rattle.std.proofs.lemmas.Grind.{flat_map-append}
use Rattle.bp_edges.specs.Writing.{Appended, AppendedPrefix, Writes}
use Rattle.bp_edges.proofs.Grows.{Appended-empty, Appended-append, AppendedPrefix-append, AppendedPrefix-longer, Appended-prefix}
use Rattle.bp_text.specs.Numbers.{spelled}
use Rattle.bp_text.specs.Lines.{Line, line_of, numbers_text, text_of}
use Rattle.bp_text.specs.Drafts.{IsDrafted, Drafts}
use Rattle.bp_text.proofs.NextLemmas.{one_number-line}
use Rattle.bp_text.proofs.StageLemmas.{text_of-append}

-- a draft as it stands
pub drafted_nothing : (told : Option (List ℕ)) (draft : List ℕ) → IsDrafted told told draft draft
drafted_nothing told draft = record { part = []; splits = refl; written = Appended-empty told }

-- bytes behind a draft, and more bytes behind them
pub drafted_more : {before middle now : Option (List ℕ)} (draft new text bytes : List ℕ)
    → IsDrafted before middle draft text → IsDrafted middle now new (draft ++ bytes) → IsDrafted before now new (text ++ bytes)
drafted_more draft new text bytes first second = record {
  part = first.part ++ second.part;
  splits = ap (λ t. t ++ bytes) first.splits ∙ append_assoc first.part draft bytes ∙ ap (λ t. first.part ++ t) second.splits ∙
      sym (append_assoc first.part second.part new);
  written = Appended-append first.part second.part first.written second.written;
}

-- bytes that are in the draft
pub drafted_here : {before now : Option (List ℕ)} (draft new text bytes : List ℕ)
    → IsDrafted before now draft text → new ≡ draft ++ bytes → IsDrafted before now new (text ++ bytes)
drafted_here draft new text bytes first is = record {
  part = first.part;
  splits = ap (λ t. t ++ bytes) first.splits ∙ append_assoc first.part draft bytes ∙ ap (λ t. first.part ++ t) (sym is);
  written = first.written;
}

-- a draft that was handed on
pub drafted_out : {before middle now : Option (List ℕ)} (draft text : List ℕ)
    → IsDrafted before middle draft text → Appended middle now draft → IsDrafted before now [] text
drafted_out draft text first out = record {
  part = first.part ++ draft;
  splits = first.splits ∙ sym (append-nil (first.part ++ draft));
  written = Appended-append first.part draft first.written out;
}

-- bytes behind a draft, and more that were refused
pub refused_more : {before middle now : Option (List ℕ)} (draft text bytes : List ℕ)
    → IsDrafted before middle draft text → AppendedPrefix middle now (draft ++ bytes) → AppendedPrefix before now (text ++ bytes)
refused_more {before} {middle} {now} draft text bytes first refused =
    let P : List ℕ → Type 0 = λ t. AppendedPrefix before now t in
    subst P (sym (ap (λ t. t ++ bytes) first.splits ∙ append_assoc first.part draft bytes))
    (AppendedPrefix-append first.part (draft ++ bytes) first.written refused)

-- what was refused is refused of a longer text
pub refused_longer : {before now : Option (List ℕ)} (draft bytes more : List ℕ)
    → AppendedPrefix before now (draft ++ bytes) → AppendedPrefix before now (draft ++ (bytes ++ more))
refused_longer {before} {now} draft bytes more refused =
    let P : List ℕ → Type 0 = λ t. AppendedPrefix before now t in
    subst P (append_assoc draft bytes more) (AppendedPrefix-longer (draft ++ bytes) more refused)

-- a speller behind another that went well
pub Drafts-append : {E : Type 0} (before middle now : Option (List ℕ)) (old draft new bytes more : List ℕ) (result : Result (Unit {0}) E)
    → IsDrafted before middle draft (old ++ bytes) → Drafts middle now draft new more result → Drafts before now old new (bytes ++ more) result
Drafts-append before middle now old draft new bytes more (Ok _) first second =
    let P : List ℕ → Type 0 = λ t. IsDrafted before now new t in
    subst P (append_assoc old bytes more) (drafted_more draft new (old ++ bytes) more first second)
Drafts-append before middle now old draft new bytes more (Err e) first second =
    let P : List ℕ → Type 0 = λ t. AppendedPrefix before now t in
    subst P (append_assoc old bytes more) (refused_more draft (old ++ bytes) more first second)

-- two spellers that went well
pub drafted_both : {before middle now : Option (List ℕ)} (old draft new bytes more : List ℕ)
    → IsDrafted before middle draft (old ++ bytes) → IsDrafted middle now new (draft ++ more) → IsDrafted before now new (old ++ (bytes ++ more))
drafted_both {before} {middle} {now} old draft new bytes more first second =
    let P : List ℕ → Type 0 = λ t. IsDrafted before now new t in
    subst P (append_assoc old bytes more) (drafted_more draft new (old ++ bytes) more first second)

-- where a draft stands, a first part is written of whatever goes on so
pub stopped : {before now : Option (List ℕ)} (draft text more : List ℕ) → IsDrafted before now draft text → AppendedPrefix before now (text ++ more)
stopped {before} {now} draft text more first =
    let P : List ℕ → Type 0 = λ t. AppendedPrefix before now t in
    subst P (sym (ap (λ t. t ++ more) first.splits ∙ append_assoc first.part draft more)) (Appended-prefix first.part (draft ++ more) first.written)

-- a text of which the draft has the rest, once that is written
pub all_written : {E : Type 0} (before middle now : Option (List ℕ)) (draft text : List ℕ) (result : Result (Unit {0}) E)
    → IsDrafted before middle draft text → Writes middle now draft result → Writes before now text result
all_written before middle now draft text (Ok _) first out =
    let P : List ℕ → Type 0 = λ t. Appended before now t in
    subst P (sym first.splits) (Appended-append first.part draft first.written out)
all_written before middle now draft text (Err e) first out =
    let P : List ℕ → Type 0 = λ t. AppendedPrefix before now t in
    subst P (sym first.splits) (AppendedPrefix-append first.part draft first.written out)

-- a text that was spelt behind a new draft, once that is handed on
pub all_new_written : {E : Type 0} (before middle now : Option (List ℕ)) (new draft text : List ℕ) (result : Result (Unit {0}) E)
    → new ≡ [] → IsDrafted before middle draft (new ++ text) → Writes middle now draft result → Writes before now text result
all_new_written before middle now new draft text result none first out =
    let P : List ℕ → Type 0 = λ d. IsDrafted before middle draft (d ++ text) in
    all_written before middle now draft text result (subst P none first) out

-- a refused speller wrote a first part of its text
pub Drafts-refused : {E : Type 0} (before now : Option (List ℕ)) (old new bytes : List ℕ) (result : Result (Unit {0}) E)
    → IsErr result → AppendedPrefix before now (old ++ bytes) → Drafts before now old new bytes result
Drafts-refused before now old new bytes (Ok _) refused part = absurd (cc)
Drafts-refused before now old new bytes (Err e) refused part = part

-- the first of three was refused
pub first_of_three : {E : Type 0} (before now : Option (List ℕ)) (old new first second third text : List ℕ) (result : Result (Unit {0}) E)
    → text ≡ (first ++ second) ++ third → IsErr result → AppendedPrefix before now (old ++ first) → Drafts before now old new text result
first_of_three before now old new first second third text result is refused part =
    let P : List ℕ → Type 0 = λ t. AppendedPrefix before now (old ++ t) in
    Drafts-refused before now old new text result refused
    (subst P (sym (is ∙ append_assoc first second third)) (refused_longer old first (second ++ third) part))

-- the second of three was refused
pub second_of_three : {E : Type 0} (before middle now : Option (List ℕ)) (old draft new first second third text : List ℕ) (result : Result (Unit {0}) E)
    → text ≡ (first ++ second) ++ third → IsErr result → IsDrafted before middle draft (old ++ first) → AppendedPrefix middle now (draft ++ second) →
    Drafts before now old new text result
second_of_three before middle now old draft new first second third text result is refused one part =
    let P : List ℕ → Type 0 = λ t. AppendedPrefix before now t in
    let Q : List ℕ → Type 0 = λ t. AppendedPrefix before now (old ++ t) in
    let both = subst P (append_assoc old first second) (refused_more draft (old ++ first) second one part) in
    Drafts-refused before now old new text result refused (subst Q (sym is) (refused_longer old (first ++ second) third both))

-- three, the last of which may be refused
pub all_three : {E : Type 0} (before middle later now : Option (List ℕ)) (old draft next new first second third text : List ℕ) (result : Result (Unit {0}) E)
    → text ≡ (first ++ second) ++ third → IsDrafted before middle draft (old ++ first) → IsDrafted middle later next (draft ++ second) →
    Drafts later now next new third result
    → Drafts before now old new text result
all_three before middle later now old draft next new first second third text result is one two last =
    let P : List ℕ → Type 0 = λ t. Drafts before now old new t result in
    subst P (sym is) (Drafts-append before later now old next new (first ++ second) third result (drafted_both old draft next first second one two) last)

-- bytes of which some are behind the draft, and the rest is left: memory was wanted for it
pub rest_stopped : {E : Type 0} (before now : Option (List ℕ)) (old new draft taken rest bytes : List ℕ) (result : Result (Unit {0}) E)
    → bytes ≡ taken ++ rest → IsDrafted before now draft (old ++ taken) → IsErr result → Drafts before now old new bytes result
rest_stopped before now old new draft taken rest bytes result splits so_far refused =
    let P : List ℕ → Type 0 = λ t. AppendedPrefix before now t in
    let whole : old ++ bytes ≡ (old ++ taken) ++ rest = ap (λ t. old ++ t) splits ∙ sym (append_assoc old taken rest) in
    Drafts-refused before now old new bytes result refused (subst P (sym whole) (stopped draft (old ++ taken) rest so_far))

-- a first piece of the rest filled the draft, which was refused
pub piece_refused : {E : Type 0} (before middle now : Option (List ℕ)) (old new draft taken rest front more bytes full inside : List ℕ)
    (result : Result (Unit {0}) E)
    → bytes ≡ taken ++ rest → rest ≡ front ++ more → full ≡ inside ++ front → inside ≡ draft → IsDrafted before middle draft (old ++ taken) →
    AppendedPrefix middle now full → IsErr result
    → Drafts before now old new bytes result
piece_refused before middle now old new draft taken rest front more bytes full inside result begins splits is seen so_far part refused =
    let P : List ℕ → Type 0 = λ t. AppendedPrefix before now t in
    let Q : List ℕ → Type 0 = λ t. AppendedPrefix middle now t in
    let whole : old ++ bytes ≡ ((old ++ taken) ++ front) ++ more =
    ap (λ t. old ++ t) (begins ∙ ap (λ t. taken ++ t) splits) ∙ sym (append_assoc old taken (front ++ more)) ∙ sym (append_assoc (old ++ taken) front more) in
    Drafts-refused before now old new bytes result refused
    (subst P (sym whole) (AppendedPrefix-longer ((old ++ taken) ++ front) more
    (refused_more draft (old ++ taken) front so_far (subst Q (is ∙ ap (λ t. t ++ front) seen) part))))

-- or was handed on
pub piece_out : {before middle now : Option (List ℕ)} (old draft taken front full inside new : List ℕ)
    → full ≡ inside ++ front → inside ≡ draft → new ≡ [] → IsDrafted before middle draft (old ++ taken) → Appended middle now full →
    IsDrafted before now new (old ++ (taken ++ front))
piece_out {before} {middle} {now} old draft taken front full inside new is seen none so_far out =
    let P : List ℕ → Type 0 = λ d. IsDrafted before now d (old ++ (taken ++ front)) in
    let Q : List ℕ → Type 0 = λ t. IsDrafted before middle full t in
    let whole : (old ++ taken) ++ front ≡ old ++ (taken ++ front) = append_assoc old taken front in
    subst P (sym none) (drafted_out full (old ++ (taken ++ front))
    (subst Q whole (drafted_here draft full (old ++ taken) front so_far (is ∙ ap (λ t. t ++ front) seen))) out)

-- the two parts of a list that was cut
pub cut_parts : (n : ℕ) (rest front more : List ℕ) → front ≡ take n rest → more ≡ drop n rest → rest ≡ front ++ more
cut_parts n rest front more first second = sym (ap (λ t. front ++ t) second ∙ ap (λ t. t ++ drop n rest) first ∙ take-append-drop n rest)

-- a speller that was refused, and whatever was to stand behind its bytes
pub Drafts-longer : {E : Type 0} (before now : Option (List ℕ)) (old new bytes more : List ℕ) (result : Result (Unit {0}) E)
    → IsErr result → AppendedPrefix before now (old ++ bytes) → Drafts before now old new (bytes ++ more) result
Drafts-longer before now old new bytes more result refused part =
    Drafts-refused before now old new (bytes ++ more) result refused (refused_longer old bytes more part)

-- numbers on a line, up to one of them
pub numbers_text-more : (ns : List ℕ) (i : ℕ) → i < length ns → numbers_text (take (i + 1) ns) ≡ numbers_text (take i ns) ++ (32 ∷ spelled (get_or ns i 0))
numbers_text-more ns i within =
    ap numbers_text (take_more ns i 0 within) ∙ flat_map-append (λ n. 32 ∷ spelled n) (take i ns) (get_or ns i 0 ∷ [])
    ∙ ap (λ t. numbers_text (take i ns) ++ t) (append-nil (32 ∷ spelled (get_or ns i 0)))

numbers_text-parts : (ns : List ℕ) (i : ℕ) → numbers_text ns ≡ numbers_text (take i ns) ++ numbers_text (drop i ns)
numbers_text-parts ns i = ap numbers_text (sym (take-append-drop i ns)) ∙ flat_map-append (λ n. 32 ∷ spelled n) (take i ns) (drop i ns)

-- one of the numbers was refused
pub number_refused : {E : Type 0} (before middle now : Option (List ℕ)) (old draft new ns : List ℕ) (i : ℕ) (result : Result (Unit {0}) E)
    → i < length ns → IsDrafted before middle draft (old ++ numbers_text (take i ns)) → AppendedPrefix middle now (draft ++ (32 ∷ spelled (get_or ns i 0))) →
    IsErr result
    → Drafts before now old new (numbers_text ns) result
number_refused before middle now old draft new ns i result within so_far part refused =
    let P : List ℕ → Type 0 = λ t. AppendedPrefix before now t in
    let front : (old ++ numbers_text (take i ns)) ++ (32 ∷ spelled (get_or ns i 0)) ≡ old ++ numbers_text (take (i + 1) ns) =
    append_assoc old (numbers_text (take i ns)) (32 ∷ spelled (get_or ns i 0)) ∙ ap (λ t. old ++ t) (sym (numbers_text-more ns i within)) in
    let here = subst P front (refused_more draft (old ++ numbers_text (take i ns)) (32 ∷ spelled (get_or ns i 0)) so_far part) in
    let whole = refused_longer old (numbers_text (take (i + 1) ns)) (numbers_text (drop (i + 1) ns)) here in
    Drafts-refused before now old new (numbers_text ns) result refused (subst P (ap (λ t. old ++ t) (sym (numbers_text-parts ns (i + 1)))) whole)

-- or is behind the draft
pub number_drafted : (before middle now : Option (List ℕ)) (old draft new ns : List ℕ) (i : ℕ)
    → i < length ns → IsDrafted before middle draft (old ++ numbers_text (take i ns)) → IsDrafted middle now new (draft ++ (32 ∷ spelled (get_or ns i 0)))
    → IsDrafted before now new (old ++ numbers_text (take (i + 1) ns))
number_drafted before middle now old draft new ns i within so_far more =
    let P : List ℕ → Type 0 = λ t. IsDrafted before now new t in
    subst P (append_assoc old (numbers_text (take i ns)) (32 ∷ spelled (get_or ns i 0)) ∙ ap (λ t. old ++ t) (sym (numbers_text-more ns i within)))
    (drafted_more draft new (old ++ numbers_text (take i ns)) (32 ∷ spelled (get_or ns i 0)) so_far more)

-- what is cut in front goes to what was taken
pub taken_more : (n : ℕ) (bytes taken rest front more : List ℕ) → bytes ≡ taken ++ rest → front ≡ take n rest → more ≡ drop n rest →
    bytes ≡ (taken ++ front) ++ more
taken_more n bytes taken rest front more begins first second =
    begins ∙ ap (λ t. taken ++ t) (cut_parts n rest front more first second) ∙ sym (append_assoc taken front more)

-- a line is its word, its numbers and its end
pub line_in_three : (word : List ℕ) (ns : List ℕ) → text_of (line_of word ns ∷ []) ≡ (word ++ numbers_text ns) ++ 10 ∷ []
line_in_three word ns = append-nil (line_of word ns ++ 10 ∷ [])

pub wide_line_in_three : (word : List ℕ) (n : ℕ) → text_of (line_of word (n ∷ []) ∷ []) ≡ (word ++ (32 ∷ spelled n)) ++ 10 ∷ []
wide_line_in_three word n = line_in_three word (n ∷ []) ∙ ap (λ l. l ++ 10 ∷ []) (one_number-line word n)

-- three texts of lines, one behind another
pub lines_in_three : (xs ys zs : List Line) → text_of ((xs ++ ys) ++ zs) ≡ (text_of xs ++ text_of ys) ++ text_of zs
lines_in_three xs ys zs = text_of-append (xs ++ ys) zs ∙ ap (λ t. t ++ text_of zs) (text_of-append xs ys)
