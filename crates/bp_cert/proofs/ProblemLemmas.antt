-- What the reader of a problem cites: the rows that it has read, and what a refusal behind them says of the whole.
use Rattle.std.proofs.Common.{◌≡◌, ℕ, zero, suc, ◌+◌, ◌-◌, refl, ap, sym, subst, arith, List, [], ◌∷◌, ◌++◌, length, map, All, append_assoc}
use Rattle.std.specs.Prelude.{codes, Err}
use Rattle.std.proofs.Math.ListN.{length-map}
use Rattle.std.proofs.lemmas.List.{map-append}
use Rattle.std.proofs.lemmas.List.Elements.{All-append}
use Rattle.bp_types.specs.declared.stay.Stay.{Stay}
use Rattle.bp_text.specs.declared.text_error.TextError.{TextError}
use Rattle.bp_text.specs.declared.text_error.TextError.TheVariants.{Memory}
use Rattle.bp_text.specs.Lines.{Line, Given, GivesLine, line_of}
use Rattle.bp_text.specs.Forms.{IsLine}
use Rattle.bp_text.specs.Places.{IsRefusedLine}
use Rattle.bp_text.specs.Reading.{GivesLines, IsReading, Spells}
use Rattle.bp_text.proofs.NextLemmas.{word_alone}
use Rattle.bp_text.proofs.StageLemmas.{one_more_line}
use Rattle.bp_text.proofs.SpellingLemmas.{IsSpelling}
use Rattle.bp_text.proofs.KindLemmas.{HasRead, EachRow-append, is_spelling, read_nothing, read_more, read_refused, numbers_refused}
use Rattle.bp_cert.specs.Texts.{stay_numbers, stay_line, head_lines, problem_lines, IsProblem, IsStayWithin, AreStaysWithin, IsHead}
use Rattle.bp_cert.proofs.ProblemRows.{
  Rows,
  lines_left,
  tail_word,
  tail_form,
  tail_fine,
  line_at,
  Form,
  Fine,
  plain,
  head_rows,
  rows_of,
  program_of,
  head_fine,
  some_stays_formed,
  some_stays_fine,
  some_stays_spelt,
  problem_within,
  problem_kind,
}

pub problems_are_spelled : IsSpelling problem_lines
problems_are_spelled = is_spelling problem_lines IsProblem line_at Form Fine lines_left plain rows_of program_of problem_kind

-- the reader has read the lines of these rows
abbrev pub HasReadProblem : Given → Given → Rows → Type 0
HasReadProblem old mid rows = HasRead problem_lines IsProblem line_at Form Fine lines_left plain rows_of program_of problem_kind old mid rows

pub problem_nothing : (old : Given) → HasReadProblem old old []
problem_nothing old = read_nothing problem_lines IsProblem line_at Form Fine lines_left plain rows_of program_of problem_kind old

pub problem_more : (old mid new : Given) (rows : Rows) (ns : List ℕ) → HasReadProblem old mid rows → Form rows ns → Fine rows ns →
    GivesLine mid new (line_at rows ns) → HasReadProblem old new (rows ++ ns ∷ [])
problem_more old mid new rows ns so_far form fine gives =
    read_more problem_lines IsProblem line_at Form Fine lines_left plain rows_of program_of problem_kind old mid new rows ns so_far form fine gives

pub problem_refused : (old mid new : Given) (rows : Rows) (n : ℕ) (e : TextError) → HasReadProblem old mid rows → lines_left rows ≡ suc n
    → IsRefusedLine (λ line. (ns : List ℕ) × Form rows ns × (line ≡ line_at rows ns)) (λ line. (ns : List ℕ) → Form rows ns → line ≡ line_at rows ns →
    Fine rows ns) mid new e
    → IsReading problem_lines IsProblem old new (Err e)
problem_refused old mid new rows n e so_far some refused =
    read_refused problem_lines IsProblem line_at Form Fine lines_left plain rows_of program_of problem_kind old mid new rows n e so_far some refused

-- the head, and then stays

pub head_read : (rooms : List ℕ) (count : ℕ) (old mid : Given) → IsHead rooms count → GivesLines old mid (head_lines rooms count) mid.rest →
    HasReadProblem old mid (head_rows rooms count)
head_read rooms count old mid head gives = record { formed = (refl, (refl, (refl, (refl, tt)))); fine = head_fine rooms count head; gives = gives }

pub stays_read : (rooms : List ℕ) (count n : ℕ) (stays : List Stay) (old mid : Given) → IsHead rooms count → AreStaysWithin (length rooms) stays →
    length stays + n ≡ count
    → GivesLines old mid (head_lines rooms count ++ map stay_line stays) mid.rest → HasReadProblem old mid (head_rows rooms count ++ map stay_numbers stays)
stays_read rooms count n stays old mid head all counted gives =
    let leaves : (count + 1) - 0 ≡ suc (length stays + n) = omega (arith, counted) in
    let stay_lines_are = some_stays_spelt [] (length rooms ∷ []) rooms (count ∷ []) n [] stays leaves in
    let P : List Line → Type 0 = λ ls. GivesLines old mid ls mid.rest in
    record {
      formed = EachRow-append Form [] (head_rows rooms count) (map stay_numbers stays) (
        refl,
        (refl, (refl, (refl, tt))),
      ) (some_stays_formed [] (length rooms ∷ []) rooms (count ∷ []) n [] stays leaves);
      fine = EachRow-append Fine [] (head_rows rooms count) (map stay_numbers stays) (head_fine rooms count head)
          (some_stays_fine [] (length rooms ∷ []) rooms (count ∷ []) n [] stays leaves all);
      gives = subst P (ap (λ ls. head_lines rooms count ++ ls) (sym stay_lines_are)) gives;
    }

-- a line behind some of the stays was refused: the next stay's, or the last one
tail_refused : (rooms : List ℕ) (count n : ℕ) (stays : List Stay) (old mid new : Given) (e : TextError) →
    HasReadProblem old mid (head_rows rooms count ++ map stay_numbers stays) → length stays + n ≡ count
    → IsRefusedLine (λ line. (ns : List ℕ) × tail_form (suc n) ns × (line ≡ line_of (tail_word (suc n)) ns))
    (λ line. (ns : List ℕ) → tail_form (suc n) ns → line ≡ line_of (tail_word (suc n)) ns → tail_fine (length rooms) (suc n) ns) mid new e
    → IsReading problem_lines IsProblem old new (Err e)
tail_refused rooms count n stays old mid new e so_far counted refused =
    let left : (count + 1) - length (map stay_numbers stays) ≡ suc n = omega (arith, counted, length-map stays stay_numbers) in
    let P : ℕ → Type 0 = λ k. IsRefusedLine (λ line. (ns : List ℕ) × tail_form k ns × (line ≡ line_of (tail_word k) ns))
    (λ line. (ns : List ℕ) → tail_form k ns → line ≡ line_of (tail_word k) ns → tail_fine (length rooms) k ns) mid new e in
    problem_refused old mid new (head_rows rooms count ++ map stay_numbers stays) n e so_far left (subst P (sym left) refused)

pub stay_refused : (rooms : List ℕ) (count n : ℕ) (stays : List Stay) (old mid new : Given) (e : TextError) →
    HasReadProblem old mid (head_rows rooms count ++ map stay_numbers stays) → length stays + suc n ≡ count
    → IsLine (codes "stay") (λ ns. length ns ≡ 4) (IsStayWithin (length rooms)) mid new (Err e) → IsReading problem_lines IsProblem old new (Err e)
stay_refused rooms count n stays old mid new e so_far counted line =
    tail_refused rooms count (suc n) stays old mid new e so_far counted
    (numbers_refused (codes "stay") (λ ns. length ns ≡ 4) (IsStayWithin (length rooms)) mid new e line)

-- memory was wanted behind a stay's line
pub stay_stopped : (rooms : List ℕ) (count n : ℕ) (stays : List Stay) (old mid new : Given) (line : Line) →
    HasReadProblem old mid (head_rows rooms count ++ map stay_numbers stays) → length stays + suc n ≡ count
    → GivesLine mid new line → IsReading problem_lines IsProblem old new (Err Memory)
stay_stopped rooms count n stays old mid new line so_far counted gives = tail_refused rooms count (suc n) stays old mid new Memory so_far counted (line, gives)

pub end_refused : (rooms : List ℕ) (stays : List Stay) (old mid new : Given) (e : TextError) →
    HasReadProblem old mid (head_rows rooms (length stays) ++ map stay_numbers stays)
    → IsLine (codes "end") (λ ns. length ns ≡ 0) (λ _. Unit {0}) mid new (Err e) → IsReading problem_lines IsProblem old new (Err e)
end_refused rooms stays old mid new e so_far line =
    tail_refused rooms (length stays) 0 stays old mid new e so_far (omega arith)
    (numbers_refused (codes "end") (λ ns. length ns ≡ 0) (λ _. Unit {0}) mid new e line)

-- the last line behind the others
pub whole_problem : (rooms : List ℕ) (stays : List Stay) (old mid new : Given) → IsHead rooms (length stays) → AreStaysWithin (length rooms) stays →
    GivesLines old mid (head_lines rooms (length stays) ++ map stay_line stays) mid.rest → GivesLine mid new (line_of (codes "end") []) →
    Spells problem_lines IsProblem old new (record { rooms = rooms; stays = stays })
whole_problem rooms stays old mid new head all before gives =
    let lines : problem_lines (record { rooms = rooms; stays = stays }) ≡ (head_lines rooms (length stays) ++ map stay_line stays) ++ codes "end" ∷ [] =
    sym (append_assoc (head_lines rooms (length stays)) (map stay_line stays) (codes "end" ∷ [])) in
    let P : List Line → Type 0 = λ ls. GivesLines old new ls new.rest in
    let Q : Line → Type 0 = λ l. GivesLine mid new l in
    record {
      within = problem_within rooms stays head all;
      gives =
          subst P (sym lines) (one_more_line old mid new (head_lines rooms (length stays) ++ map stay_line stays) (codes "end") before
          (subst Q (word_alone (codes "end")) gives));
    }

-- one stay behind those so far
pub one_stay_more : (nights : ℕ) (old mid new : Given) (done after : List Stay) (s : Stay) → after ≡ done ++ s ∷ [] → AreStaysWithin nights done →
    IsStayWithin nights (stay_numbers s) →
    GivesLines old mid (map stay_line done) mid.rest → GivesLine mid new (stay_line s) →
    AreStaysWithin nights after × GivesLines old new (map stay_line after) new.rest
one_stay_more nights old mid new done after s e all fine so_far gives =
    let P : List Stay → Type 0 = λ ss. AreStaysWithin nights ss × GivesLines old new (map stay_line ss) new.rest in
    let lines : map stay_line (done ++ s ∷ []) ≡ map stay_line done ++ stay_line s ∷ [] = map-append stay_line done (s ∷ []) in
    let Q : List Line → Type 0 = λ ls. GivesLines old new ls new.rest in
    subst P (sym e) (
      All-append (λ s. IsStayWithin nights (stay_numbers s)) done (s ∷ []) all one,
      subst Q (sym lines) (one_more_line old mid new (map stay_line done) (stay_line s) so_far gives),
    )
  where
    one : All (λ s. IsStayWithin nights (stay_numbers s)) (s ∷ [])
    one zero d h = fine
    one (suc k) d h = absurd (omega arith)
