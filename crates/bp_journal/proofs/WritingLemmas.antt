-- What of a history is written, place by place.
use Rattle.std.proofs.Common.{
  ◌≡◌,
  ℕ,
  ◌+◌,
  ◌<◌,
  ◌≤◌,
  refl,
  ap,
  sym,
  subst,
  ◌∙◌,
  arith,
  List,
  [],
  ◌∷◌,
  ◌++◌,
  length,
  take,
  drop,
  append_assoc,
  append-nil,
  Option,
  Some,
  None,
  Result,
  IsErr,
  slice_get,
}
use Rattle.std.specs.Prelude.{option_and_then}
use Rattle.std.specs.Option.{option_map}
use Rattle.std.proofs.lemmas.List.{take-append-drop, length-take-le, take_all}
use Rattle.std.proofs.lemmas.Option.{slice_get-get_or}
use Rattle.bp_types.specs.Claim.{Claim}
use Rattle.bp_edges.specs.Writing.{AppendedPrefix}
use Rattle.bp_edges.proofs.Grows.{AppendedPrefix-longer}
use Rattle.bp_text.specs.Lines.{text_of}
use Rattle.bp_text.specs.Drafts.{IsDrafted, Drafts}
use Rattle.bp_text.proofs.DraftLemmas.{drafted_more, refused_more, refused_longer, Drafts-append, Drafts-refused}
use Rattle.bp_text.proofs.StageLemmas.{text_of-append}
use Rattle.bp_cert.specs.Texts.{claim_lines}
use Rattle.bp_core.specs.declared.line.Entry.{Entry}
use Rattle.bp_core.specs.declared.line.Line.{Line}
use Rattle.bp_core.specs.Lines.{History, line_at, no_line, certificate_at}
use Rattle.bp_core.proofs.Prefixes.{take-more}
use Rattle.bp_journal.specs.Journals.{entry_text, certificate_part, place_lines, lines_from}
use Rattle.bp_journal.proofs.BodyLemmas.{lines_from-append}
use Rattle.bp_journal.proofs.PlaceLemmas.{lines_more}

-- the text of the lines so far
abbrev pub so_far : History → ℕ → List ℕ
so_far H n = text_of (lines_from 0 (take n H))

-- the text of the lines at a place
abbrev pub place_text : History → ℕ → List ℕ
place_text H n = text_of (place_lines H n)

-- one place more
pub so_far_more : (H : History) (n : ℕ) → n < length H → so_far H (n + 1) ≡ so_far H n ++ place_text H n
so_far_more H n within =
    let x : Line = line_at H n in
    let size : length (take n H) ≡ n = length-take-le n H (omega arith) in
    ap (λ G. text_of (lines_from 0 G)) (take-more H n within)
    ∙ ap text_of (lines_more (take n H) x)
    ∙ ap (λ k. text_of (lines_from 0 (take n H) ++ entry_text k x.entry ∷ certificate_part x.certificate)) size
    ∙ text_of-append (lines_from 0 (take n H)) (place_lines H n)

-- the text of all goes on behind them
behind_so_far : (H : History) (n : ℕ) → text_of (lines_from 0 H) ≡ so_far H n ++ text_of (lines_from (0 + length (take n H)) (drop n H))
behind_so_far H n =
    ap (λ G. text_of (lines_from 0 G)) (sym (take-append-drop n H))
    ∙ ap text_of (lines_from-append 0 (take n H) (drop n H))
    ∙ text_of-append (lines_from 0 (take n H)) (lines_from (0 + length (take n H)) (drop n H))

-- the lines at a place went well
pub place_drafted : (before middle now : Option (List ℕ)) (old draft new : List ℕ) (H : History) (n : ℕ) → n < length H
    → IsDrafted before middle draft (old ++ so_far H n) → IsDrafted middle now new (draft ++ place_text H n) →
    IsDrafted before now new (old ++ so_far H (n + 1))
place_drafted before middle now old draft new H n within first second =
    let P : List ℕ → Type 0 = λ t. IsDrafted before now new t in
    subst P (append_assoc old (so_far H n) (place_text H n) ∙ ap (λ t. old ++ t) (sym (so_far_more H n within)))
    (drafted_more draft new (old ++ so_far H n) (place_text H n) first second)

-- or they were refused
pub place_refused : {E : Type 0} (before middle now : Option (List ℕ)) (old draft new : List ℕ) (H : History) (n : ℕ) (result : Result (Unit {0}) E) →
    n < length H
    → IsDrafted before middle draft (old ++ so_far H n) → AppendedPrefix middle now (draft ++ place_text H n) → IsErr result →
    Drafts before now old new (text_of (lines_from 0 H)) result
place_refused before middle now old draft new H n result within first second refused =
    let rest = text_of (lines_from (0 + length (take (n + 1) H)) (drop (n + 1) H)) in
    let whole : old ++ text_of (lines_from 0 H) ≡ ((old ++ so_far H n) ++ place_text H n) ++ rest =
    ap (λ t. old ++ t) (behind_so_far H (n + 1) ∙ ap (λ t. t ++ rest) (so_far_more H n within))
    ∙ sym (append_assoc old (so_far H n ++ place_text H n) rest)
    ∙ ap (λ t. t ++ rest) (sym (append_assoc old (so_far H n) (place_text H n))) in
    let P : List ℕ → Type 0 = λ t. AppendedPrefix before now t in
    Drafts-refused before now old new (text_of (lines_from 0 H)) result refused
    (subst P (sym whole) (AppendedPrefix-longer ((old ++ so_far H n) ++ place_text H n) rest
    (refused_more draft (old ++ so_far H n) (place_text H n) first second)))

-- behind the last place
pub all_drafted : (before now : Option (List ℕ)) (old new : List ℕ) (H : History) (n : ℕ) → length H ≤ n → IsDrafted before now new (old ++ so_far H n) →
    IsDrafted before now new (old ++ text_of (lines_from 0 H))
all_drafted before now old new H n all first =
    let P : History → Type 0 = λ G. IsDrafted before now new (old ++ text_of (lines_from 0 G)) in
    subst P (take_all n H all) first

-- the entry at a place is its line's
pub entry_of : (H : History) (place : ℕ) (e : Entry) → place < length H → Some e ≡ option_map (λ (x : Line). x.entry) (slice_get H place) →
    e ≡ (line_at H place).entry
entry_of H place e within is =
    let f : Some e ≡ Some (line_at H place).entry = is ∙ ap (option_map (λ (x : Line). x.entry)) (slice_get-get_or H place no_line within) in
    cc

-- and so is its certificate
pub certificate_of : (H : History) (place : ℕ) → place < length H → certificate_at H place ≡ (line_at H place).certificate
certificate_of H place within = ap (option_and_then (λ (x : Line). x.certificate)) (slice_get-get_or H place no_line within)

-- the lines at a place, in two parts
pub place_in_two : (H : History) (place : ℕ) (e : Entry) (c : Option Claim) → e ≡ (line_at H place).entry → c ≡ (line_at H place).certificate →
    place_text H place ≡ text_of (entry_text place e ∷ []) ++ text_of (certificate_part c)
place_in_two H place e c entry certificate =
    text_of-append (entry_text place (line_at H place).entry ∷ []) (certificate_part (line_at H place).certificate)
    ∙ ap (λ (f : Entry). text_of (entry_text place f ∷ []) ++ text_of (certificate_part (line_at H place).certificate)) (sym entry)
    ∙ ap (λ (o : Option Claim). text_of (entry_text place e ∷ []) ++ text_of (certificate_part o)) (sym certificate)

-- the line of an entry was refused
pub place_stopped : {E : Type 0} (before now : Option (List ℕ)) (old new bytes : List ℕ) (H : History) (place : ℕ) (e : Entry) (result : Result (Unit {0}) E)
    → e ≡ (line_at H place).entry → bytes ≡ text_of (entry_text place e ∷ []) → IsErr result → AppendedPrefix before now (old ++ bytes) →
    Drafts before now old new (place_text H place) result
place_stopped before now old new bytes H place e result entry is refused part =
    let c = (line_at H place).certificate in
    let P : List ℕ → Type 0 = λ t. AppendedPrefix before now (old ++ t) in
    let two : bytes ++ text_of (certificate_part c) ≡ place_text H place = ap (λ t. t ++ text_of (certificate_part c)) is ∙
    sym (place_in_two H place e c entry refl) in
    Drafts-refused before now old new (place_text H place) result refused (subst P two (refused_longer old bytes (text_of (certificate_part c)) part))

-- an entry without a certificate
pub place_plain : (before now : Option (List ℕ)) (old new bytes : List ℕ) (H : History) (place : ℕ) (e : Entry)
    → e ≡ (line_at H place).entry → bytes ≡ text_of (entry_text place e ∷ []) → None ≡ (line_at H place).certificate →
    IsDrafted before now new (old ++ bytes) → IsDrafted before now new (old ++ place_text H place)
place_plain before now old new bytes H place e entry is none first =
    let P : List ℕ → Type 0 = λ t. IsDrafted before now new (old ++ t) in
    subst P (is ∙ sym (append-nil (text_of (entry_text place e ∷ []))) ∙ sym (place_in_two H place e None entry none)) first

-- an entry with one
pub place_certified : {E : Type 0} (before middle now : Option (List ℕ)) (old draft new bytes : List ℕ) (H : History) (place : ℕ) (e : Entry) (c : Claim)
    (result : Result (Unit {0}) E)
    → e ≡ (line_at H place).entry → bytes ≡ text_of (entry_text place e ∷ []) → Some c ≡ (line_at H place).certificate →
    IsDrafted before middle draft (old ++ bytes)
    → Drafts middle now draft new (text_of (claim_lines c)) result → Drafts before now old new (place_text H place) result
place_certified before middle now old draft new bytes H place e c result entry is some first second =
    let P : List ℕ → Type 0 = λ t. Drafts before now old new t result in
    subst P (ap (λ t. t ++ text_of (claim_lines c)) is ∙
    sym (place_in_two H place e (Some c) entry some)) (Drafts-append before middle now old draft new bytes (text_of (claim_lines c)) result first second)
