-- How judging ends.
use Rattle.std.proofs.Common.{◌≡◌, ℕ, ◌<◌, ◌∙◌, sym, subst, ap, arith, length, take, [], ◌∷◌, ◌++◌, Option, Some, None, false, slice_get, MatchOption}
use Rattle.std.proofs.lemmas.List.{take-append-le, length-append, append_assoc}
use Rattle.std.proofs.lemmas.Option.{slice_get-get_or}
use Rattle.std.proofs.Math.ListN.{get_or-append}
use Rattle.std.proofs.Math.Seq.{take-append_seam, get_or-append_seam}
use Rattle.bp_types.specs.House.{Inn}
use Rattle.bp_core.specs.declared.line.Line.{Line}
use Rattle.bp_core.specs.Acting.{Diary}
use Rattle.bp_core.specs.Legal.{IsLegal, IsLegalLine}
use Rattle.bp_core.specs.Lines.{History, line_at, no_line}
use Rattle.bp_judge.specs.declared.judgement.Cause.{Cause}
use Rattle.bp_judge.specs.declared.judgement.Cause.TheVariants.{Opening}
use Rattle.bp_judge.specs.declared.replay.Replay.{Replay}
use Rattle.bp_judge.specs.Replays.{IsReplay, HasRead}
use Rattle.bp_judge.specs.Searches.{is_group, HasNoGroup}
use Rattle.bp_judge.specs.Judging.{IsFirstCause, IsFirstIllegal}

-- each line so far is legal, and the next one has a cause
at_seam : (h : Inn) (G rest : History) (x : Line) (cause : Cause) → ((i : ℕ) → i < length G → IsLegalLine h (take i G) (line_at G i)) →
    IsFirstCause h G x cause → IsFirstIllegal h (G ++ x ∷ rest) (length G) cause
at_seam h G rest x cause legal first =
    let H : History = G ++ x ∷ rest in
    let there : slice_get H (length G) ≡ Some x =
    slice_get-get_or H (length G) no_line (let n = length-append G (x ∷ rest) in omega arith) ∙ ap Some (get_or-append_seam G x rest no_line) in
    let O : Option Line → Type 0 = λ o. MatchOption o ((length G ≡ 0) × (cause ≡ Opening)) (λ y. IsFirstCause h (take (length G) H) y cause) in
    let F : History → Type 0 = λ K. IsFirstCause h K x cause in
    record {
      before = λ i less.
          let A : History → Type 0 = λ K. IsLegalLine h K (line_at G i) in
          let B : Line → Type 0 = λ y. IsLegalLine h (take i H) y in
          subst B (sym (get_or-append G (x ∷ rest) no_line i less)) (subst A (sym (take-append-le i G (x ∷ rest) (omega arith))) (legal i less));
      cause_is = subst O (sym there) (subst F (sym (take-append_seam G (x ∷ rest))) first);
    }

seam : (G left rest lines : History) (x : Line) → lines ≡ G ++ left → left ≡ x ∷ rest → lines ≡ G ++ x ∷ rest
seam G left rest lines x is next = is ∙ ap (λ (K : History). G ++ K) next

-- a later line has a cause
pub found : (h : Inn) (book : Diary) (lines left rest : History) (x : Line) (cause : Cause) (place : ℕ) → book.house ≡ h → IsLegal book.house book.history →
    lines ≡ book.history ++ left → left ≡ x ∷ rest → place ≡ length book.history →
    IsFirstCause book.house book.history x cause → IsFirstIllegal h lines place cause
found h book lines left rest x cause place house legal is next at first =
    let H : Inn → Type 0 = λ i. IsFirstIllegal i (book.history ++ x ∷ rest) (length book.history) cause in
    let Q : History → Type 0 = λ K. IsFirstIllegal h K (length book.history) cause in
    let R : ℕ → Type 0 = λ n. IsFirstIllegal h lines n cause in
    subst R (sym at) (subst Q (sym (seam book.history left rest lines x is next))
    (subst H house (at_seam book.house book.history rest x cause legal.lines first)))

-- a line among lines without a Group is none
pub none_here : (G left rest lines : History) (x : Line) → lines ≡ G ++ left → left ≡ x ∷ rest → HasNoGroup lines → is_group x.entry.act ≡ false
none_here G left rest lines x is next none =
    let here = subst HasNoGroup (seam G left rest lines x is next) none (length G) x (let n = length-append G (x ∷ rest) in omega arith) in
    ap (λ (y : Line). is_group y.entry.act) (sym (get_or-append_seam G x rest x)) ∙ here

-- one line more was read
pub one_more : (old new : Replay) (h : Inn) (lines left rest : History) (x : Line) → old.book.house ≡ h → lines ≡ old.book.history ++ left → left ≡ x ∷ rest →
    HasRead old new x None →
    IsReplay new × (new.book.house ≡ h) × (lines ≡ new.book.history ++ rest)
one_more old new h lines left rest x house is next read = (
  read.0,
  ap (λ (d : Diary). d.house) read.1 ∙ house,
  seam old.book.history left rest lines x is next ∙ sym (append_assoc old.book.history (x ∷ []) rest) ∙ ap (λ (d : Diary). d.history ++ rest) (sym read.1),
)
