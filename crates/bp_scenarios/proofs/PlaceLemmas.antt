-- The places of a text of scenarios, and what a refusal there says of the whole.
use Rattle.std.proofs.Common.{
  ◌≡◌,
  ◌⊎◌,
  ℕ,
  zero,
  suc,
  ◌+◌,
  ◌<◌,
  ap,
  ◌∙◌,
  sym,
  subst,
  refl,
  arith,
  Bool,
  true,
  false,
  List,
  [],
  ◌∷◌,
  ◌++◌,
  length,
  map,
  All,
  append_assoc,
  length-append,
  inl,
  inr,
}
use Rattle.std.specs.Prelude.{codes, Result, Err, Ok, Option, Some}
use Rattle.std.proofs.lemmas.List.{append-nil}
use Rattle.std.proofs.lemmas.List.Elements.{All-append, All-nil}
use Rattle.bp_types.specs.declared.change.Change.{Change}
use Rattle.bp_types.specs.declared.change.Change.TheVariants.{Rooms, Demand, Rate}
use Rattle.bp_types.specs.declared.limits.TheConstants.{MOST_SCENARIOS, MOST_CHANGES}
use Rattle.bp_text.specs.declared.text_error.TextError.{TextError}
use Rattle.bp_text.specs.declared.text_error.TextError.TheVariants.{Memory}
use Rattle.bp_text.specs.Numbers.{spelled}
use Rattle.bp_text.specs.Lines.{Line, HasNoEnd, Given, GivesLine}
use Rattle.bp_text.specs.Words.{Word, words_behind}
use Rattle.bp_text.specs.Places.{IsPlace, IsRefusedLine}
use Rattle.bp_text.specs.Reading.{GivesLines, HasForm, IsReading}
use Rattle.bp_text.proofs.LineLemmas.{spelled_lacks}
use Rattle.bp_text.proofs.EndLemmas.{line_in_front, one_line, word_has_no_end}
use Rattle.bp_text.proofs.SpellingLemmas.{IsSpelling}
use Rattle.bp_text.proofs.StageLemmas.{no_lines, refused_here, one_more_line, more_lines}
use Rattle.bp_scenarios.specs.declared.row.Row.{Row}
use Rattle.bp_scenarios.specs.declared.row.Row.TheVariants.{Opens, Makes}
use Rattle.bp_scenarios.specs.Texts.{direction, change_word, change_words, change_line, row_line, rows, scenario_lines, all_changes, AreWithin}
use Rattle.bp_scenarios.specs.Rows.{makes, IsFirst, IsAnyLine, IsRowOrEnd, IsFineRow, IsRowRead, AreRead}
use Rattle.bp_scenarios.proofs.ChangeLemmas.{change_injective, change_not_end, change_not_scenario}
use Rattle.bp_scenarios.proofs.RowLemmas.{
  parted,
  row_not_end,
  NextRow,
  NoRow,
  goes_on,
  opens,
  scenarios_more,
  changes_more,
  within_more,
  opens_first,
  rows_opened,
  rows_made,
  HasLast,
  has_last,
  rows_injective,
}

-- no line has an end in it

spaced : (w : Word) → HasNoEnd w → HasNoEnd (32 ∷ w)
spaced w none zero d h e = omega (arith, e)
spaced w none (suc k) d h e = none k d (omega arith) e

behind_no_end : (ws : List Word) → All HasNoEnd ws → HasNoEnd (words_behind ws)
behind_no_end [] all = λ k d h. absurd (omega arith)
behind_no_end (w ∷ ws) all =
    All-append (λ b. b ≡ 10 → ⊥) (32 ∷ w) (words_behind ws) (spaced w (all 0 [] (omega arith))) (behind_no_end ws (λ k d h. all (suc k) d (omega arith)))

numbers_no_end : (ns : List ℕ) → All HasNoEnd (map spelled ns)
numbers_no_end [] = λ k d h. absurd (omega arith)
numbers_no_end (n ∷ ns) = line_in_front (spelled n) (map spelled ns) (spelled_lacks 10 n (omega arith)) (numbers_no_end ns)

direction_no_end : (up : Bool) → HasNoEnd (direction up)
direction_no_end true = word_has_no_end (codes "up") refl
direction_no_end false = word_has_no_end (codes "down") refl

words_no_end : (c : Change) → All HasNoEnd (change_words c)
words_no_end (Rooms span up units) =
    line_in_front (spelled span.from) (spelled span.to ∷ direction up ∷ spelled units ∷ []) (spelled_lacks 10 span.from (omega arith))
    (line_in_front (spelled span.to) (direction up ∷ spelled units ∷ []) (spelled_lacks 10 span.to (omega arith))
    (line_in_front (direction up) (spelled units ∷ []) (direction_no_end up) (numbers_no_end (units ∷ []))))
words_no_end (Demand stay value) = numbers_no_end (stay ∷ value ∷ [])
words_no_end (Rate stay value) = numbers_no_end (stay ∷ value ∷ [])

word_no_end : (c : Change) → HasNoEnd (change_word c)
word_no_end (Rooms span up units) = word_has_no_end (codes "rooms") refl
word_no_end (Demand stay value) = word_has_no_end (codes "demand") refl
word_no_end (Rate stay value) = word_has_no_end (codes "rate") refl

row_no_end : (r : Row) → HasNoEnd (row_line r)
row_no_end Opens = word_has_no_end (codes "scenario") refl
row_no_end (Makes c) = All-append (λ b. b ≡ 10 →
    ⊥) (change_word c) (words_behind (change_words c)) (word_no_end c) (behind_no_end (change_words c) (words_no_end c))

rows_no_ends : (rs : List Row) → All HasNoEnd (map row_line rs)
rows_no_ends [] = λ k d h. absurd (omega arith)
rows_no_ends (r ∷ rs) = line_in_front (row_line r) (map row_line rs) (row_no_end r) (rows_no_ends rs)

first_no_end : HasNoEnd (codes "scenarios 1")
first_no_end = word_has_no_end (codes "scenarios 1") refl

no_ends : (lists : List (List Change)) → All HasNoEnd (scenario_lines lists)
no_ends lists = line_in_front (codes "scenarios 1") (map row_line (rows lists) ++ codes "end" ∷ []) first_no_end
    (All-append HasNoEnd (map row_line (rows lists)) (codes "end" ∷ []) (rows_no_ends (rows lists))
    (one_line (codes "end") (word_has_no_end (codes "end") refl)))

-- no two texts are one

alone : (v w : List (List Change)) (rest : List Line) → scenario_lines w ≡ scenario_lines v ++ rest → (v ≡ w) × (rest ≡ [])
alone v w rest e =
    let flat = (parted (codes "scenarios 1") (codes "scenarios 1") (map row_line (rows w) ++ codes "end" ∷ [])
    ((map row_line (rows v) ++ codes "end" ∷ []) ++ rest) e).1
    ∙ append_assoc (map row_line (rows v)) (codes "end" ∷ []) rest in
    elim (goes_on (rows w) (rows v) (codes "end") rest flat) [
      | inl n ↦ (rows_injective v w (sym n.same), n.none)
      | inr n ↦ absurd (row_not_end n.row (sym n.line_is))
    ]

pub scenarios_are_spelled : IsSpelling scenario_lines
scenarios_are_spelled = record { no_ends = no_ends; alone = alone }

module _ (Within : Change → Type 0) where
  none_within : AreWithin Within []
  none_within = record { scenarios = omega arith; changes = omega arith; each = All-nil Within }

  -- the first line
  pub first_place : IsPlace scenario_lines (AreWithin Within) [] IsFirst IsAnyLine
  first_place = record {
    no_ends = no_ends;
    begins = ([], codes "scenarios 1", codes "end" ∷ [], none_within, refl);
    form = λ v line more e. sym (parted (codes "scenarios 1") line (map row_line (rows v) ++ codes "end" ∷ []) more e).0;
    some = λ line is. ([], codes "end" ∷ [], ap (λ l. l ∷ codes "end" ∷ []) (sym is));
    fine = λ v line more within e. tt;
  }

  -- the lines of scenarios, from the first one on
  abbrev pub front_of : List (List Change) → List Line
  front_of lists = codes "scenarios 1" ∷ map row_line (rows lists)

  next_of : (lists v : List (List Change)) (line : Line) (more : List Line) → scenario_lines v ≡ front_of lists ++ line ∷ more →
      NoRow (rows v) (rows lists) line more ⊎ NextRow (rows v) (rows lists) line
  next_of lists v line more e =
      goes_on (rows v) (rows lists) line more
      (parted (codes "scenarios 1") (codes "scenarios 1") (map row_line (rows v) ++ codes "end" ∷ []) (map row_line (rows lists) ++ line ∷ more) e).1

  -- scenarios with one row more, as lines
  longer_lines : (lists longer : List (List Change)) (row : Row) → rows longer ≡ rows lists ++ row ∷ [] →
      scenario_lines longer ≡ front_of lists ++ row_line row ∷ codes "end" ∷ []
  longer_lines lists longer row e =
      ap (λ rs. codes "scenarios 1" ∷ (map row_line rs ++ codes "end" ∷ [])) e
      ∙ ap (λ ls. codes "scenarios 1" ∷ (ls ++ codes "end" ∷ [])) (map_behind (rows lists))
      ∙ ap (λ ls. codes "scenarios 1" ∷ ls) (append_assoc (map row_line (rows lists)) (row_line row ∷ []) (codes "end" ∷ []))
    where
      map_behind : (rs : List Row) → map row_line (rs ++ row ∷ []) ≡ map row_line rs ++ row_line row ∷ []
      map_behind [] = refl
      map_behind (r ∷ rs) = ap (λ ls. row_line r ∷ ls) (map_behind rs)

  in_all : (cs ds : List Change) (c : Change) → All Within (cs ++ c ∷ ds) → Within c
  in_all [] ds c all = all 0 c (omega arith)
  in_all (x ∷ cs) ds c all = in_all cs ds c (λ k d h. all (suc k) d (omega arith))

  -- behind the lines of scenarios
  pub row_place : (lists : List (List Change)) → AreWithin Within lists →
      IsPlace scenario_lines (AreWithin Within) (front_of lists) (IsRowOrEnd (length lists)) (IsFineRow Within (length lists) (length (all_changes lists)))
  row_place lists within = record {
    no_ends = no_ends;
    begins = (lists, codes "end", [], within, refl);
    form = λ v line more e. formed v line more (next_of lists v line more e);
    some = some;
    fine = λ v line more inside e. fine v line more inside (next_of lists v line more e);
  }
    where
      change_at : (v : List (List Change)) (c : Change) (after : List Row) (k : ℕ) → k ≡ length lists → rows v ≡ rows lists ++ Makes c ∷ after →
          0 < length lists
      change_at v c after zero none e = absurd (before lists (sym none) e)
        where
          before : (xs : List (List Change)) → length xs ≡ 0 → rows v ≡ rows xs ++ Makes c ∷ after → ⊥
          before [] n f = opens_first v c after f
          before (x ∷ xs) n f = omega (arith, n)
      change_at v c after (suc k) some e = omega (arith, some)

      formed : (v : List (List Change)) (line : Line) (more : List Line) → NoRow (rows v) (rows lists) line more ⊎ NextRow (rows v) (rows lists) line →
          IsRowOrEnd (length lists) line
      formed v line more (inl n) = inl n.last
      formed v line more (inr n) = go n.row n.splits n.line_is
        where
          go : (r : Row) → rows v ≡ rows lists ++ r ∷ n.after → line ≡ row_line r → IsRowOrEnd (length lists) line
          go Opens splits same = inr (inl same)
          go (Makes c) splits same = inr (inr (change_at v c n.after (length lists) refl splits, c, same))

      some : (line : Line) → IsRowOrEnd (length lists) line → HasForm scenario_lines (front_of lists) line
      some line (inl last) = (lists, [], ap (λ l. front_of lists ++ l ∷ []) (sym last))
      some line (inr (inl opened)) = (
        lists ++ [] ∷ [],
        codes "end" ∷ [],
        longer_lines lists (lists ++ [] ∷ []) Opens (rows_opened lists) ∙
            ap (λ l. front_of lists ++ l ∷ codes "end" ∷ []) (sym opened),
      )
      some line (inr (inr (there, c, same))) =
          let l = has_last lists there in
          let longer = l.front ++ (l.last ++ c ∷ []) ∷ [] in
          let e = rows_made l.front l.last c ∙ ap (λ xs. rows xs ++ Makes c ∷ []) (sym l.splits) in
          (longer, codes "end" ∷ [], longer_lines lists longer (Makes c) e ∙ ap (λ x. front_of lists ++ x ∷ codes "end" ∷ []) (sym same))

      fine : (v : List (List Change)) (line : Line) (more : List Line) → AreWithin Within v →
          NoRow (rows v) (rows lists) line more ⊎ NextRow (rows v) (rows lists) line
          → IsFineRow Within (length lists) (length (all_changes lists)) line
      fine v line more inside (inl n) = record {
        opens = λ same. absurd (row_not_end Opens (sym same ∙ n.last));
        makes = λ c same. absurd (change_not_end c (sym same ∙ n.last));
      }
      fine v line more inside (inr n) = go n.row n.splits n.line_is
        where
          go : (r : Row) → rows v ≡ rows lists ++ r ∷ n.after → line ≡ row_line r → IsFineRow Within (length lists) (length (all_changes lists)) line
          go Opens splits is = record {
            opens = λ same. omega (arith, inside.scenarios, scenarios_more lists v Opens n.after splits);
            makes = λ c same. absurd (change_not_scenario c (sym same ∙ is));
          }
          go (Makes d) splits is = record {
            opens = λ same. absurd (change_not_scenario d (sym is ∙ same));
            makes = λ c same.
                let all = changes_more lists v (Makes d) n.after splits in
                let one = change_injective d c (sym is ∙ same) in
                let P : List Change → Type 0 = λ cs. All Within cs in
                let small = in_all (all_changes lists) (makes n.after) d (subst P all inside.each) in
                (omega (arith, inside.changes, ap length all, length-append (all_changes lists) (d ∷ makes n.after)), subst Within one small);
          }

  -- a row that was read behind so many scenarios and changes
  pub read_at : (lists : List (List Change)) (mid new : Given) (r : Result (Option Row) TextError) (scenarios changes : ℕ) → scenarios ≡ length lists →
      changes ≡ length (all_changes lists)
      → IsRowRead Within scenarios changes mid new r → IsRowRead Within (length lists) (length (all_changes lists)) mid new r
  read_at lists mid new r scenarios changes s c read =
      let P : ℕ → Type 0 = λ k. IsRowRead Within k changes mid new r in
      let Q : ℕ → Type 0 = λ k. IsRowRead Within (length lists) k mid new r in
      subst Q c (subst P s read)

  -- a refusal of the next row is one of the text
  pub refused_row : (lists : List (List Change)) (start mid new : Given) (e : TextError) (scenarios changes : ℕ) → scenarios ≡ length lists →
      changes ≡ length (all_changes lists) → AreWithin Within lists → GivesLines start mid (front_of lists) mid.rest
      → IsRowRead Within scenarios changes mid new (Err e) → IsReading scenario_lines (AreWithin Within) start new (Err e)
  refused_row lists start mid new e scenarios changes s c within before read =
      refused_here scenario_lines (AreWithin Within) (front_of lists) (IsRowOrEnd (length lists))
      (IsFineRow Within (length lists) (length (all_changes lists))) start mid new e (row_place lists within) before
      (read_at lists mid new (Err e) scenarios changes s c read)

  -- where memory was wanted behind a row
  pub stopped_row : (rs : List Row) (start new : Given) → GivesLines start new (codes "scenarios 1" ∷ map row_line rs) new.rest →
      IsReading scenario_lines (AreWithin Within) start new (Err Memory)
  stopped_row rs start new before =
      (codes "scenarios 1" ∷ map row_line rs, line_in_front (codes "scenarios 1") (map row_line rs) first_no_end (rows_no_ends rs), before)

  -- what the loop over the rows keeps
  pub record SoFar (old now : Given) (lists : List (List Change)) : Type 0 where
    pub within : AreWithin Within lists
    pub gives : GivesLines old now (map row_line (rows lists)) now.rest

  pub gives_more : (old mid new : Given) (rs : List Row) (row : Row) → GivesLines old mid (map row_line rs) mid.rest → GivesLine mid new (row_line row) →
      GivesLines old new (map row_line (rs ++ row ∷ [])) new.rest
  gives_more old mid new rs row before here =
      let P : List Line → Type 0 = λ ls. GivesLines old new ls new.rest in
      subst P (sym (behind rs)) (one_more_line old mid new (map row_line rs) (row_line row) before here)
    where
      behind : (xs : List Row) → map row_line (xs ++ row ∷ []) ≡ map row_line xs ++ row_line row ∷ []
      behind [] = refl
      behind (x ∷ xs) = ap (λ ls. row_line x ∷ ls) (behind xs)

  pub so_far_more : (old mid new : Given) (lists longer : List (List Change)) (row : Row) → rows longer ≡ rows lists ++ row ∷ [] → SoFar old mid lists
      → IsRowRead Within (length lists) (length (all_changes lists)) mid new (Ok (Some row)) → SoFar old new longer
  so_far_more old mid new lists longer row e s read =
      let P : List Row → Type 0 = λ rs. GivesLines old new (map row_line rs) new.rest in
      record {
        within = within_more Within lists longer row e s.within read.0;
        gives = subst P (sym e) (gives_more old mid new (rows lists) row s.gives read.1);
      }

  -- the first line stands before those of the rows
  pub from_start : (start old now : Given) (rs : List Row) → GivesLines start old (codes "scenarios 1" ∷ []) old.rest →
      GivesLines old now (map row_line rs) now.rest → GivesLines start now (codes "scenarios 1" ∷ map row_line rs) now.rest
  from_start start old now rs head gives = more_lines start old now (codes "scenarios 1" ∷ []) (map row_line rs) head gives

  -- the first line, and then the rest
  pub read_all : (old mid new : Given) (r : Result (List (List Change)) TextError) → GivesLine old mid (codes "scenarios 1") → AreRead Within mid new r →
      IsReading scenario_lines (AreWithin Within) old new r
  read_all old mid new r first read = go r read
    where
      head : GivesLines old mid (codes "scenarios 1" ∷ []) mid.rest
      head = one_more_line old old mid [] (codes "scenarios 1") (no_lines old) first

      go : (x : Result (List (List Change)) TextError) → AreRead Within mid new x → IsReading scenario_lines (AreWithin Within) old new x
      go (Ok lists) h = record {
        within = h.0;
        gives =
            more_lines old mid new (codes "scenarios 1" ∷ []) (map row_line (rows lists) ++ codes "end" ∷ []) head h.1;
      }
      go (Err e) h = h old head
