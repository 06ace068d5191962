-- What a reader of `csv` still gives, record by record.
use Rattle.std.proofs.Common.{
  ◌≡◌,
  ◌∙◌,
  sym,
  ap,
  refl,
  ℕ,
  zero,
  suc,
  ◌+◌,
  ◌<◌,
  ◌≤◌,
  Bool,
  true,
  false,
  cond,
  ◌==◌,
  ◌||◌,
  List,
  [],
  ◌∷◌,
  length,
  Option,
  Some,
  None,
  arith,
  inl,
  inr,
}
use Rattle.std.proofs.lemmas.Bool.{cases_Bool, false≢true}
use Rattle.csv.specs.declared.parser.State.{State}
use Rattle.csv.specs.declared.parser.State.TheVariants as st
use Rattle.csv.specs.declared.parser.Action.{Action}
use Rattle.csv.specs.declared.parser.Action.TheVariants as act
use Rattle.csv.specs.Machine.{Read, next_record, step, in_field, start_field, start_record, is_end, ends_at_end, fields_after, field_after}
use Rattle.std.specs.Borrow.{Bor}
use Rattle.csv.specs.declared.reader.Reader.{Reader}
use Rattle.csv.specs.declared.error.ErrorKind.{ErrorKind}
use Rattle.csv.specs.declared.error.ErrorKind.TheVariants as kind
use Rattle.csv.specs.Reading.{default_config, is_bom, strip_bom, records_from, records_next, Reached, Ready, ReadRecord, ExplainsRead}
use Rattle.csv.proofs.ReadFacts.{rows-end, rows-more}
use Rattle.bp_stayfile.specs.Tables.{Record}
use Rattle.bp_stayfile.specs.Records.{IsReading, IsWantOfMemory, records_in, records_left}

-- after the byte that ends a record no record has begun
abbrev EndsClean : State × Action → Type 0
EndsClean p = is_end p.1 ≡ true → ends_at_end p.0 ≡ false

clean_if : (b : Bool) (p q : State × Action) → EndsClean p → EndsClean q → EndsClean (cond b p q)
clean_if true p q left right = left
clean_if false p q left right = right

unended : (s : State) (a : Action) → is_end a ≡ false → EndsClean (s, a)
unended s a open_still = λ ended. absurd (false≢true (sym open_still ∙ ended))

in_field-clean : (c : ℕ) → EndsClean (in_field default_config c)
in_field-clean c =
    clean_if (c == 44) _ _ (unended st.StartField act.EndField refl)
    (clean_if ((c == 13) || (c == 10)) _ _ (λ _. at_end (c == 13)) (unended st.InField act.Copy refl))
  where
    at_end : (b : Bool) → ends_at_end (cond b st.AfterCr st.StartRecord) ≡ false
    at_end true = refl
    at_end false = refl

start_field-clean : (c : ℕ) → EndsClean (start_field default_config c)
start_field-clean c = clean_if (c == 34) _ _ (unended st.InQuoted act.Skip refl) (in_field-clean c)

start_record-clean : (c : ℕ) → EndsClean (start_record default_config c)
start_record-clean c =
    clean_if ((c == 13) || (c == 10)) _ _ (unended st.StartRecord act.Skip refl) (start_field-clean c)

step-clean : (s : State) (c : ℕ) → EndsClean (step default_config s c)
step-clean st.StartRecord c = start_record-clean c
step-clean st.StartField c = start_field-clean c
step-clean st.InField c = in_field-clean c
step-clean st.InQuoted c =
    clean_if (c == 34) _ _ (unended st.AfterQuote act.Skip refl) (unended st.InQuoted act.Copy refl)
step-clean st.InEscape c = unended st.InQuoted act.Copy refl
step-clean st.AfterQuote c = clean_if (c == 34) _ _ (unended st.InQuoted act.Copy refl) (in_field-clean c)
step-clean st.InComment c =
    clean_if (c == 10) _ _ (unended st.StartRecord act.Skip refl) (unended st.InComment act.Skip refl)
step-clean st.AfterCr c =
    clean_if (c == 10) _ _ (unended st.StartRecord act.Skip refl) (start_record-clean c)

-- a record that is read takes a byte at least, and leaves no record begun
record Goes (size : ℕ) (p : Read) : Type 0 where
  shorter : length p.2 < size
  clean : ends_at_end p.1 ≡ false

goes_now : (s : State) (fields : List (List ℕ)) (field : List ℕ) (c : ℕ) (rest : List ℕ) (p : Read) → is_end (step default_config s c).1 ≡ true →
    next_record default_config s fields field (c ∷ rest) ≡ Some p → Goes (length (c ∷ rest)) p
unfolding next_record
goes_now s fields field c rest p ends e =
    let read : Read = (fields_after (step default_config s c).1 fields field, (step default_config s c).0, rest) in
    let same : Some read ≡ Some p = rw ends at e in
    let is : read ≡ p = (cc) in
    record {
      shorter = omega (arith, ap (λ (q : Read). length q.2) is);
      clean = sym (ap (λ (q : Read). ends_at_end q.1) is) ∙ step-clean s c ends;
    }

goes_last : (b : Bool) (fields : List (List ℕ)) (p : Read) → cond b (Some (fields, st.StartRecord, [])) None ≡ Some p → Goes 1 p
goes_last true fields p e =
    let read : Read = (fields, st.StartRecord, []) in
    let is : read ≡ p = (cc) in
    record { shorter = omega (arith, ap (λ (q : Read). length q.2) is); clean = sym (ap (λ (q : Read). ends_at_end q.1) is) }
goes_last false fields p e = absurd (cc)

next_record-goes : (s : State) (fields : List (List ℕ)) (field : List ℕ) (c : ℕ) (rest : List ℕ) (p : Read) →
    next_record default_config s fields field (c ∷ rest) ≡ Some p → Goes (length (c ∷ rest)) p
unfolding next_record
next_record-goes s fields field c [] p e =
    elim (cases_Bool (is_end (step default_config s c).1)) [
      | inl ends ↦ goes_now s fields field c [] p ends e
      | inr more ↦ goes_last (ends_at_end (step default_config s c).0) _ p (rw more at e)
    ]
next_record-goes s fields field c (d ∷ rest) p e =
    elim (cases_Bool (is_end (step default_config s c).1)) [
      | inl ends ↦ goes_now s fields field c (d ∷ rest) p ends e
      | inr more ↦
          let h = next_record-goes (step default_config s c).0 (fields_after (step default_config s c).1 fields field)
          (field_after (step default_config s c).1 c field) d rest p (rw more at e) in
          record { shorter = omega (arith, h.shorter); clean = h.clean }
    ]

nothing_left : (s : State) (p : Read) → ends_at_end s ≡ false → next_record default_config s [] [] [] ≡ Some p → ⊥
unfolding next_record
nothing_left s p clean e = let no : None ≡ Some p = rw clean at e in (cc)

-- with turns for every byte, more turns read no more
same_turns : (n m : ℕ) (s : State) (xs : List ℕ) → ends_at_end s ≡ false → length xs < n → length xs < m →
    records_from default_config n s xs ≡ records_from default_config m s xs
unfolding records_from
same_turns zero m s xs clean more room = absurd (omega arith)
same_turns (suc n) zero s xs clean more room = absurd (omega arith)
same_turns (suc n) (suc m) s [] clean more room = by_next (next_record default_config s [] [] []) refl
  where
    by_next : (o : Option Read) → next_record default_config s [] [] [] ≡ o →
        records_next (records_from default_config n) (next_record default_config s [] [] []) ≡
        records_next (records_from default_config m) (next_record default_config s [] [] [])
    by_next None e = rw e refl
    by_next (Some p) e = absurd (nothing_left s p clean e)
same_turns (suc n) (suc m) s (c ∷ xs) clean more room =
    by_next (λ p e. let g = next_record-goes s [] [] c xs p e in
    same_turns n m p.1 p.2 g.clean (omega (arith, g.shorter, more)) (omega (arith, g.shorter, room))) (next_record default_config s [] [] (c ∷ xs)) refl
  where
    by_next : ((p : Read) → next_record default_config s [] [] (c ∷ xs) ≡ Some p →
        records_from default_config n p.1 p.2 ≡ records_from default_config m p.1 p.2) → (o : Option Read) → next_record default_config s [] [] (c ∷ xs) ≡ o →
        records_next (records_from default_config n) (next_record default_config s [] [] (c ∷ xs)) ≡
        records_next (records_from default_config m) (next_record default_config s [] [] (c ∷ xs))
    by_next again None e = rw e refl
    by_next again (Some p) e = rw e (ap (λ rs. p.0 ∷ rs) (again p e))

-- no more records are read than there are turns
pub records_few : (n : ℕ) (s : State) (xs : List ℕ) → length (records_from default_config n s xs) ≤ n
unfolding records_from
records_few zero s xs = omega arith
records_few (suc n) s xs = by_next (λ p. records_few n p.1 p.2) (next_record default_config s [] [] xs)
  where
    by_next : ((p : Read) → length (records_from default_config n p.1 p.2) ≤ n) → (o : Option Read) →
        length (records_next (records_from default_config n) o) ≤ suc n
    by_next few None = omega arith
    by_next few (Some p) = omega (arith, few p)

-- a text without its byte order mark is no longer
pub strip-le : (xs : List ℕ) → length (strip_bom xs) ≤ length xs
unfolding strip_bom
strip-le [] = omega arith
strip-le (a ∷ []) = omega arith
strip-le (a ∷ b ∷ []) = omega arith
strip-le (a ∷ b ∷ c ∷ rest) = by_bom (is_bom a b c)
  where
    by_bom : (m : Bool) → length (cond m rest (a ∷ b ∷ c ∷ rest)) ≤ length (a ∷ b ∷ c ∷ rest)
    by_bom true = omega arith
    by_bom false = omega arith

-- the records of bytes whose first record is read
one_read : (n : ℕ) (s : State) (xs : List ℕ) (p : Read) → next_record default_config s [] [] xs ≡ Some p →
    records_from default_config (suc n) s xs ≡ p.0 ∷ records_from default_config n p.1 p.2
unfolding records_from
one_read n s xs p e = ap (records_next (records_from default_config n)) e

none_read : (n : ℕ) (s : State) (xs : List ℕ) → next_record default_config s [] [] xs ≡ None → records_from default_config (suc n) s xs ≡ []
unfolding records_from
none_read n s xs e = ap (records_next (records_from default_config n)) e

goes_of : (s : State) (xs : List ℕ) (p : Read) → ends_at_end s ≡ false → next_record default_config s [] [] xs ≡ Some p → Goes (length xs) p
goes_of s [] p clean e = absurd (nothing_left s p clean e)
goes_of s (c ∷ xs) p clean e = next_record-goes s [] [] c xs p e

behind_one : (s : State) (xs : List ℕ) (p : Read) → ends_at_end s ≡ false → next_record default_config s [] [] xs ≡ Some p →
    records_from default_config (length xs + 1) s xs ≡ p.0 ∷ records_from default_config (length p.2 + 1) p.1 p.2
behind_one s xs p clean e =
    let g = goes_of s xs p clean e in
    let turns : length xs + 1 ≡ suc (length xs) = omega arith in
    ap (λ n. records_from default_config n s xs) turns ∙ one_read (length xs) s xs p e ∙
    ap (λ rs. p.0 ∷ rs) (same_turns (length xs) (length p.2 + 1) p.1 p.2 g.clean g.shorter (omega arith))

-- what a record reached one step on says of the step
one_step : (s s2 : State) (xs ys : List ℕ) (f : Record) → Reached default_config s xs (f ∷ []) s2 ys →
    (p : Read) × (next_record default_config s [] [] xs ≡ Some p) × (f ≡ p.0) × (p.1 ≡ s2) × (p.2 ≡ ys)
unfolding Reached
one_step s s2 xs ys f h = (h.0, h.1, h.2, h.3.0, h.3.1)

here : (s : State) (xs : List ℕ) → Reached default_config s xs [] s xs
unfolding Reached
here s xs = (refl, refl)

-- a record that is read is the first of those that were left
pub one_less : (a b : Reader (Bor (List ℕ))) (f : Record) → IsReading a → Ready b → b.flexible ≡ a.flexible → ReadRecord (λ s. Some s.now) a b true f →
    IsReading b × (records_left a ≡ f ∷ records_left b)
one_less a b f is ready flexible read =
    let more = rows-more (λ (s : Bor (List ℕ)). Some s.now) a b f default_config a.state is.bytes is.bytes [] is.config is.known (here a.state is.bytes) read in
    let step = one_step a.state b.state is.bytes more.0 f more.2 in
    let p : Read = step.0 in
    let g = goes_of a.state is.bytes p is.between step.1 in
    let state : p.1 ≡ b.state = step.3 in
    let rest : p.2 ≡ more.0 = step.4 in (
      record {
        config = read.2 ∙ is.config;
        trim = read.3 ∙ is.trim;
        flexible = flexible ∙ is.flexible;
        ready = ready;
        bytes = more.0;
        known = more.1;
        between = ap ends_at_end (sym state) ∙ g.clean;
      },
      ap (records_in a.state) is.known
          ∙ behind_one a.state is.bytes p is.between step.1
          ∙ ap (λ r. r ∷ records_from default_config (length p.2 + 1) p.1 p.2) (sym step.2)
          ∙ ap (λ s. f ∷ records_from default_config (length p.2 + 1) s p.2) state
          ∙ ap (λ ys. f ∷ records_from default_config (length ys + 1) b.state ys) rest
          ∙ ap (λ o. f ∷ records_in b.state o) (sym more.1),
    )

-- where no record is read none was left
pub none_less : (a b : Reader (Bor (List ℕ))) (f : Record) → IsReading a → ReadRecord (λ s. Some s.now) a b false f → records_left a ≡ []
none_less a b f is read =
    let turns : length is.bytes + 1 ≡ suc (length is.bytes) = omega arith in
    ap (records_in a.state) is.known
    ∙ ap (λ n. records_from default_config n a.state is.bytes) turns
    ∙ none_read (length is.bytes) a.state is.bytes (rows-end (λ (s : Bor (List ℕ)). Some s.now) a b f default_config is.bytes is.config is.known read)

-- a read of records of any length, as bytes, fails for nothing else
pub only_memory : (a b : Reader (Bor (List ℕ))) (k : ErrorKind) → IsReading a → ExplainsRead (λ s. Some s.now) a b false k → IsWantOfMemory k
only_memory a b (kind.Io e) is why = tt
only_memory a b kind.OutOfMemory is why = tt
only_memory a b (kind.UnequalLengths pos expected len) is why = absurd (false≢true (sym why.0 ∙ is.flexible))
only_memory a b (kind.Utf8 pos err) is why = absurd (false≢true why.0)
only_memory a b (kind.Serialize text) is why = absurd why
only_memory a b (kind.Deserialize pos err) is why = absurd why
