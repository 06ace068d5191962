-- Journals can be told apart, and are read in one way.
use Rattle.std.proofs.Common.{◌≡◌, ◌≢◌, ℕ, ◌+◌, ap, ◌∙◌, sym, subst, refl, arith, true, Bool, List, [], ◌∷◌, ◌++◌, length, append_assoc, get_or}
use Rattle.std.specs.Prelude.{codes, Result, Ok, Err}
use Rattle.std.proofs.Math.Bool.{Bool-set}
use Rattle.std.proofs.lemmas.List.{append-nil}
use Rattle.bp_text.specs.declared.text_error.TextError.{TextError}
use Rattle.bp_text.specs.declared.text_error.TextError.TheVariants.{Memory}
use Rattle.bp_text.specs.Lines.{Line as TextLine}
use Rattle.bp_text.specs.Reading.{IsText, seen_as}
use Rattle.bp_text.proofs.SpellingLemmas.{IsSpelling}
use Rattle.bp_text.proofs.OneWayLemmas.{one_way}
use Rattle.bp_core.specs.Lines.{History}
use Rattle.bp_journal.specs.declared.version.Version.{Version}
use Rattle.bp_journal.specs.Journals.{Noted, noted_lines, entry_text, lines_from, version_line, is_journal}
use Rattle.bp_journal.specs.Limits.{IsNotedWithin}
use Rattle.bp_journal.specs.Read.{IsJournalText}
use Rattle.bp_journal.specs.Laws.{VersionsAreTold, OneReading}
use Rattle.bp_journal.proofs.BodyLemmas.{parted, goes_on, not_end, version_same}
use Rattle.bp_journal.proofs.EndsOfJournals.{journal_no_ends}

is_true_once : (b : Bool) → IsProp (b ≡ true)
is_true_once b = Bool-set b true

-- a version and a history that it can say are told by the two
noted_same : (v w : Noted) → v.0 ≡ w.0 → v.1 ≡ w.1 → v ≡ w
noted_same v w version history =
    let P : Version → Type 0 = λ n. (q : is_journal n v.1 ≡ true) → v ≡ (n, v.1, q) in
    let Q : History → Type 0 = λ H. (q : is_journal w.0 H ≡ true) → v ≡ (w.0, H, q) in
    let one : (q : is_journal w.0 v.1 ≡ true) → v ≡ (w.0, v.1, q) = subst P version (λ q. ap (λ p. (v.0, v.1, p)) (is_true_once (is_journal v.0 v.1) v.2 q)) in
    subst Q history one w.2

-- the lines of one journal do not go on behind those of another
alone : (v w : Noted) (rest : List TextLine) → noted_lines w ≡ noted_lines v ++ rest → (v ≡ w) × (rest ≡ [])
alone v w rest e =
    let parts = parted (version_line w.0) (version_line v.0) (lines_from 0 w.1 ++ codes "end" ∷ []) ((lines_from 0 v.1 ++ codes "end" ∷ []) ++ rest) e in
    let version = version_same w.0 v.0 parts.0 in
    let flat = parts.1 ∙ append_assoc (lines_from 0 v.1) (codes "end" ∷ []) rest in
    let P : Version → Type 0 = λ n. is_journal n w.1 ≡ true in
    let g = goes_on v.0 0 w.1 v.1 (codes "end" ∷ rest) (subst P version w.2) v.2 (omega arith) flat in
    let both = go g.more g.splits g.lines in
    (noted_same v w (sym version) both.0, both.1)
  where
    go : (K : History) → w.1 ≡ v.1 ++ K → lines_from (0 + length v.1) K ++ codes "end" ∷ [] ≡ codes "end" ∷ rest → (v.1 ≡ w.1) × (rest ≡ [])
    go [] splits lines = (sym (splits ∙ append-nil v.1), sym (parted (codes "end") (codes "end") [] rest lines).1)
    go (z ∷ K) splits lines = absurd (not_end (0 + length v.1) z.entry (sym (parted (entry_text (0 + length v.1) z.entry) (codes "end") _ _ lines).0))

pub journals_are_spelled : IsSpelling noted_lines
journals_are_spelled = record { no_ends = λ v. journal_no_ends v.0 v.1; alone = alone }

-- the first line tells the version
pub versions_are_told : VersionsAreTold
versions_are_told G H e = let f : 50 ≡ 49 = ap (λ bs. get_or bs 8 0) e in omega (arith, f)

-- an answer, with its version
record IsAnswer (bytes : List ℕ) (a : Result History TextError) : Type 0 where
  answer : Result Noted TextError
  told : answer ≢ Err Memory
  text : IsText noted_lines IsNotedWithin bytes answer
  seen : a ≡ seen_as (λ v. v.1) answer

answered : (bytes : List ℕ) (a : Result History TextError) → a ≢ Err Memory → IsJournalText bytes a → IsAnswer bytes a
answered bytes (Ok H) not h = record { answer = Ok h.0; told = λ e. cc; text = h.2; seen = ap Ok (sym h.1) }
answered bytes (Err e) not h = record { answer = Err e; told = λ q. not (ap (seen_as (λ (v : Noted). v.1)) q); text = h; seen = refl }

pub one_reading : OneReading
one_reading bytes a b not_a not_b h k =
    let x = answered bytes a not_a h in
    let y = answered bytes b not_b k in
    x.seen ∙ ap (seen_as (λ (v : Noted). v.1)) (one_way noted_lines IsNotedWithin journals_are_spelled bytes x.answer y.answer x.told y.told x.text y.text) ∙
    sym y.seen
