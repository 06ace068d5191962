-- Scenarios as rows: what the rows tell, and how their lines go on.
use Rattle.std.proofs.Common.{
  ◌≡◌,
  ◌⊎◌,
  ℕ,
  zero,
  suc,
  ◌+◌,
  ◌<◌,
  ◌≤◌,
  refl,
  ap,
  sym,
  subst,
  ◌∙◌,
  arith,
  List,
  [],
  ◌∷◌,
  ◌++◌,
  length,
  map,
  All,
  get_or,
  append_assoc,
  length-append,
  inl,
  inr,
}
use Rattle.std.specs.Prelude.{codes}
use Rattle.std.proofs.lemmas.List.{append-nil}
use Rattle.std.proofs.lemmas.List.Elements.{All-append, All-cons, All-nil}
use Rattle.bp_types.specs.declared.change.Change.{Change}
use Rattle.bp_text.specs.Lines.{Line}
use Rattle.bp_scenarios.specs.declared.row.Row.{Row}
use Rattle.bp_scenarios.specs.declared.row.Row.TheVariants.{Opens, Makes}
use Rattle.bp_scenarios.specs.Texts.{change_line, row_line, rows, all_changes, AreWithin}
use Rattle.bp_scenarios.specs.Rows.{makes, IsRow}
use Rattle.bp_scenarios.proofs.ChangeLemmas.{change_injective, change_not_end, change_not_scenario}

-- rows are told by their lines
pub row_injective : (r s : Row) → row_line r ≡ row_line s → r ≡ s
row_injective Opens Opens e = refl
row_injective Opens (Makes d) e = absurd (change_not_scenario d (sym e))
row_injective (Makes c) Opens e = absurd (change_not_scenario c e)
row_injective (Makes c) (Makes d) e = ap Makes (change_injective c d e)

pub row_not_end : (r : Row) → row_line r ≡ codes "end" → ⊥
row_not_end Opens e = omega (arith, ap (λ l. get_or l 0 0) e)
row_not_end (Makes c) e = change_not_end c e

pub parted : {X : Type 0} (a b : X) (xs ys : List X) → a ∷ xs ≡ b ∷ ys → (a ≡ b) × (xs ≡ ys)
parted a b xs ys e = let h : a ≡ b = cc in let t : xs ≡ ys = cc in (h, t)

-- a row more, behind those so far
pub record NextRow (all front : List Row) (line : Line) : Type 0 where
  pub row : Row
  pub after : List Row
  pub splits : all ≡ front ++ row ∷ after
  pub line_is : line ≡ row_line row

-- they end
pub record NoRow (all front : List Row) (line : Line) (more : List Line) : Type 0 where
  pub same : all ≡ front
  pub last : line ≡ codes "end"
  pub none : more ≡ []

-- of rows whose lines begin with those of others, the rest
pub goes_on : (all front : List Row) (line : Line) (more : List Line) → map row_line all ++ codes "end" ∷ [] ≡ map row_line front ++ line ∷ more →
    NoRow all front line more ⊎ NextRow all front line
goes_on [] [] line more e =
    let parts = parted (codes "end") line [] more e in
    inl (record { same = refl; last = sym parts.0; none = sym parts.1 })
goes_on [] (f ∷ front) line more e = absurd (row_not_end f (sym (parted (codes "end") (row_line f) [] (map row_line front ++ line ∷ more) e).0))
goes_on (r ∷ all) [] line more e =
    let parts = parted (row_line r) line (map row_line all ++ codes "end" ∷ []) more e in
    inr (record { row = r; after = all; splits = refl; line_is = sym parts.0 })
goes_on (r ∷ all) (f ∷ front) line more e =
    let parts = parted (row_line r) (row_line f) (map row_line all ++ codes "end" ∷ []) (map row_line front ++ line ∷ more) e in
    let same = row_injective r f parts.0 in
    elim (goes_on all front line more parts.1) [
      | inl n ↦ inl (record { same = ap (λ x. x ∷ all) same ∙ ap (λ xs. f ∷ xs) n.same; last = n.last; none = n.none })
      | inr n ↦ inr (record { row = n.row; after = n.after; splits = ap (λ x. x ∷ all) same ∙ ap (λ xs. f ∷ xs) n.splits; line_is = n.line_is })
    ]

-- how many scenarios begin
abbrev pub opens : List Row → ℕ
opens [] = 0
opens (Opens ∷ more) = suc (opens more)
opens (Makes c ∷ more) = opens more

pub opens-append : (xs ys : List Row) → opens (xs ++ ys) ≡ opens xs + opens ys
opens-append [] ys = omega arith
opens-append (Opens ∷ xs) ys = omega (arith, opens-append xs ys)
opens-append (Makes c ∷ xs) ys = opens-append xs ys

pub makes-append : (xs ys : List Row) → makes (xs ++ ys) ≡ makes xs ++ makes ys
makes-append [] ys = refl
makes-append (Opens ∷ xs) ys = makes-append xs ys
makes-append (Makes c ∷ xs) ys = ap (λ cs. c ∷ cs) (makes-append xs ys)

opens_of_changes : (cs : List Change) (more : List Row) → opens (map Makes cs ++ more) ≡ opens more
opens_of_changes [] more = refl
opens_of_changes (c ∷ cs) more = opens_of_changes cs more

makes_of_changes : (cs : List Change) (more : List Row) → makes (map Makes cs ++ more) ≡ cs ++ makes more
makes_of_changes [] more = refl
makes_of_changes (c ∷ cs) more = ap (λ xs. c ∷ xs) (makes_of_changes cs more)

-- the rows tell how many scenarios there are, and their changes
pub opens_of_rows : (lists : List (List Change)) → opens (rows lists) ≡ length lists
opens_of_rows [] = refl
opens_of_rows (cs ∷ lists) = omega (arith, opens_of_changes cs (rows lists), opens_of_rows lists)

pub makes_of_rows : (lists : List (List Change)) → makes (rows lists) ≡ all_changes lists
makes_of_rows [] = refl
makes_of_rows (cs ∷ lists) = makes_of_changes cs (rows lists) ∙ ap (λ xs. cs ++ xs) (makes_of_rows lists)

-- of scenarios whose rows are those of others and one more
pub scenarios_more : (lists longer : List (List Change)) (row : Row) (after : List Row) → rows longer ≡ rows lists ++ row ∷ after →
    length longer ≡ length lists + opens (row ∷ after)
scenarios_more lists longer row after e =
    omega (arith, sym (opens_of_rows longer) ∙ ap opens e ∙ opens-append (rows lists) (row ∷ after), opens_of_rows lists)

pub changes_more : (lists longer : List (List Change)) (row : Row) (after : List Row) → rows longer ≡ rows lists ++ row ∷ after →
    all_changes longer ≡ all_changes lists ++ makes (row ∷ after)
changes_more lists longer row after e =
    sym (makes_of_rows longer) ∙ ap makes e ∙ makes-append (rows lists) (row ∷ after) ∙ ap (λ cs. cs ++ makes (row ∷ after)) (makes_of_rows lists)

pub count_more : (lists longer : List (List Change)) (row : Row) → rows longer ≡ rows lists ++ row ∷ [] →
    length (all_changes longer) ≡ length (all_changes lists) + length (makes (row ∷ []))
count_more lists longer row e = ap length (changes_more lists longer row [] e) ∙ length-append (all_changes lists) (makes (row ∷ []))

-- rows that may stand there keep the limits
pub within_more : (Within : Change → Type 0) (lists longer : List (List Change)) (row : Row) → rows longer ≡ rows lists ++ row ∷ [] → AreWithin Within lists →
    IsRow Within (length lists) (length (all_changes lists)) row → AreWithin Within longer
within_more Within lists longer Opens e within allowed =
    let same : all_changes longer ≡ all_changes lists = changes_more lists longer Opens [] e ∙ append-nil (all_changes lists) in
    let P : List Change → Type 0 = λ cs. All Within cs in
    record {
      scenarios = omega (arith, scenarios_more lists longer Opens [] e, allowed);
      changes = omega (arith, ap length same, within.changes);
      each = subst P (sym same) within.each;
    }
within_more Within lists longer (Makes c) e within allowed =
    let same : all_changes longer ≡ all_changes lists ++ c ∷ [] = changes_more lists longer (Makes c) [] e in
    let P : List Change → Type 0 = λ cs. All Within cs in
    record {
      scenarios = omega (arith, scenarios_more lists longer (Makes c) [] e, within.scenarios);
      changes = omega (arith, ap length same, length-append (all_changes lists) (c ∷ []), allowed.1);
      each = subst P (sym same) (All-append Within (all_changes lists) (c ∷ []) within.each (All-cons Within c [] allowed.2 (All-nil Within)));
    }

-- no change stands before the first scenario
pub opens_first : (lists : List (List Change)) (c : Change) (after : List Row) → rows lists ≡ Makes c ∷ after → ⊥
opens_first [] c after e = cc
opens_first (cs ∷ lists) c after e = cc

-- rows of scenarios, one behind another
pub rows-append : (xs ys : List (List Change)) → rows (xs ++ ys) ≡ rows xs ++ rows ys
rows-append [] ys = refl
rows-append (cs ∷ xs) ys = ap (λ rs. Opens ∷ (map Makes cs ++ rs)) (rows-append xs ys) ∙
    ap (λ rs. Opens ∷ rs) (sym (append_assoc (map Makes cs) (rows xs) (rows ys)))

-- a scenario more
pub rows_opened : (lists : List (List Change)) → rows (lists ++ [] ∷ []) ≡ rows lists ++ Opens ∷ []
rows_opened lists = rows-append lists ([] ∷ [])

map_more : (cs : List Change) (c : Change) → map Makes (cs ++ c ∷ []) ≡ map Makes cs ++ Makes c ∷ []
map_more [] c = refl
map_more (d ∷ cs) c = ap (λ rs. Makes d ∷ rs) (map_more cs c)

-- a change more of the last one
pub rows_made : (lists : List (List Change)) (cs : List Change) (c : Change) → rows (lists ++ (cs ++ c ∷ []) ∷ []) ≡ rows (lists ++ cs ∷ []) ++ Makes c ∷ []
rows_made lists cs c =
    rows-append lists ((cs ++ c ∷ []) ∷ [])
    ∙ ap (λ rs. rows lists ++ Opens ∷ rs) (append-nil (map Makes (cs ++ c ∷ [])) ∙ map_more cs c ∙
    ap (λ rs. rs ++ Makes c ∷ []) (sym (append-nil (map Makes cs))))
    ∙ sym (append_assoc (rows lists) (rows (cs ∷ [])) (Makes c ∷ []))
    ∙ ap (λ rs. rs ++ Makes c ∷ []) (sym (rows-append lists (cs ∷ [])))

-- scenarios of which there is one have a last one
pub record HasLast (lists : List (List Change)) : Type 0 where
  pub front : List (List Change)
  pub last : List Change
  pub splits : lists ≡ front ++ last ∷ []

pub has_last : (lists : List (List Change)) → 0 < length lists → HasLast lists
has_last [] some = absurd (omega arith)
has_last (cs ∷ []) some = record { front = []; last = cs; splits = refl }
has_last (cs ∷ ds ∷ lists) some =
    let rest = has_last (ds ∷ lists) (omega arith) in
    record { front = cs ∷ rest.front; last = rest.last; splits = ap (λ xs. cs ∷ xs) rest.splits }

-- scenarios with the same rows are the same
changes_same : (cs ds : List Change) (xs ys : List (List Change)) → map Makes cs ++ rows xs ≡ map Makes ds ++ rows ys → (cs ≡ ds) × (rows xs ≡ rows ys)
changes_same [] [] xs ys e = (refl, e)
changes_same [] (d ∷ ds) xs ys e = absurd (opens_first xs d (map Makes ds ++ rows ys) e)
changes_same (c ∷ cs) [] xs ys e = absurd (opens_first ys c (map Makes cs ++ rows xs) (sym e))
changes_same (c ∷ cs) (d ∷ ds) xs ys e =
    let parts = parted (Makes c) (Makes d) (map Makes cs ++ rows xs) (map Makes ds ++ rows ys) e in
    let rest = changes_same cs ds xs ys parts.1 in
    let head : c ≡ d = let f : Makes c ≡ Makes d = parts.0 in cc in
    (ap (λ x. x ∷ cs) head ∙ ap (λ zs. d ∷ zs) rest.0, rest.1)

pub rows_injective : (xs ys : List (List Change)) → rows xs ≡ rows ys → xs ≡ ys
rows_injective [] [] e = refl
rows_injective [] (ds ∷ ys) e = absurd (cc)
rows_injective (cs ∷ xs) [] e = absurd (cc)
rows_injective (cs ∷ xs) (ds ∷ ys) e =
    let parts = parted Opens Opens (map Makes cs ++ rows xs) (map Makes ds ++ rows ys) e in
    let both = changes_same cs ds xs ys parts.1 in
    ap (λ x. x ∷ xs) both.0 ∙ ap (λ zs. ds ∷ zs) (rows_injective xs ys both.1)
