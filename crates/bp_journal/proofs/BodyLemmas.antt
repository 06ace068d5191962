-- The lines of a history can be told apart, entry by entry.
use Rattle.std.proofs.Common.{
  ◌≡◌,
  ℕ,
  suc,
  ◌+◌,
  ◌<◌,
  ap,
  ◌∙◌,
  sym,
  refl,
  arith,
  true,
  List,
  [],
  ◌∷◌,
  ◌++◌,
  length,
  get_or,
  append_assoc,
  Option,
  Some,
  None,
  is_some,
}
use Rattle.std.specs.Prelude.{codes}
use Rattle.std.proofs.lemmas.Bool.{and_parts, and_from}
use Rattle.bp_types.specs.Claim.{Claim}
use Rattle.bp_text.specs.Numbers.{spelled}
use Rattle.bp_text.specs.Lines.{Line as TextLine, line_of}
use Rattle.bp_cert.specs.Texts.{claim_lines}
use Rattle.bp_text.proofs.NumberLemmas.{spelled_is_digits, spelled_is_some}
use Rattle.bp_text.proofs.LineLemmas.{line_injective}
use Rattle.bp_core.specs.declared.line.Act.{Act}
use Rattle.bp_core.specs.declared.line.Act.TheVariants.{Do, Publish, Enrol, Leave}
use Rattle.bp_core.specs.declared.line.Entry.{Entry}
use Rattle.bp_core.specs.declared.line.Line.{Line}
use Rattle.bp_core.specs.Lines.{History, published_position}
use Rattle.bp_journal.specs.declared.version.Version.{Version}
use Rattle.bp_journal.specs.declared.version.Version.TheVariants.{One, Two}
use Rattle.bp_journal.specs.Journals.{entry_text, certificate_part, lines_from, version_line, has_certificate, is_form, is_line_of, is_journal}
use Rattle.bp_journal.proofs.EntryLemmas.{entry_injective}

pub parted : (a b : TextLine) (xs ys : List TextLine) → a ∷ xs ≡ b ∷ ys → (a ≡ b) × (xs ≡ ys)
parted a b xs ys e = let h : a ≡ b = cc in let t : xs ≡ ys = cc in (h, t)

-- no entry's line is the last one
first_byte : (xs ys : List ℕ) → 0 < length xs → get_or (xs ++ ys) 0 0 ≡ get_or xs 0 0
first_byte [] ys some = absurd (omega arith)
first_byte (x ∷ xs) ys some = refl

pub not_end : (place : ℕ) (e : Entry) → codes "end" ≡ entry_text place e → ⊥
not_end place e is =
    let some = spelled_is_some place in
    let digit = spelled_is_digits place 0 some in
    let b = ap (λ bs. get_or bs 0 0) is ∙ first_byte (spelled place) _ some in
    omega (arith, digit.1, b)

certificate_by : (a : Act) (c : Option Claim) → has_certificate a c ≡ true → is_some c ≡ is_some (published_position a)
certificate_by (Publish position) c is = is
certificate_by (Do command) None is = refl
certificate_by (Do command) (Some c) is = absurd (cc)
certificate_by Enrol None is = refl
certificate_by Enrol (Some c) is = absurd (cc)
certificate_by Leave None is = refl
certificate_by Leave (Some c) is = absurd (cc)

pub line_certificate : (version : Version) (x : Line) → is_line_of version x ≡ true → is_some x.certificate ≡ is_some (published_position x.entry.act)
line_certificate version x is = certificate_by x.entry.act x.certificate (and_parts (is_form version x.entry) (has_certificate x.entry.act x.certificate) is).1

claim_same : (c d : Claim) (xs ys : List TextLine) → claim_lines c ++ xs ≡ claim_lines d ++ ys → (c ≡ d) × (xs ≡ ys)
claim_same c d xs ys e =
    let values = parted (line_of (codes "value") (c.value ∷ [])) (line_of (codes "value") (d.value ∷ [])) _ _ e in
    let sales = parted (line_of (codes "sell") c.sell) (line_of (codes "sell") d.sell) _ _ values.1 in
    let nights = parted (line_of (codes "prices") c.prices) (line_of (codes "prices") d.prices) _ _ sales.1 in
    let value : c.value ≡ d.value = ap (λ ns. get_or ns 0 0) (line_injective (codes "value") (c.value ∷ []) (d.value ∷ []) values.0) in
    let built : ℕ → List ℕ → List ℕ → Claim = λ v s p. record { value = v; sell = s; prices = p } in (
      ap (λ v. built v c.sell c.prices) value ∙ ap (λ s. built d.value s c.prices) (line_injective (codes "sell") c.sell d.sell sales.0) ∙
          ap (built d.value d.sell) (line_injective (codes "prices") c.prices d.prices nights.0),
      nights.1,
    )

part_same : (c d : Option Claim) (xs ys : List TextLine) → is_some c ≡ is_some d → certificate_part c ++ xs ≡ certificate_part d ++ ys → (c ≡ d) × (xs ≡ ys)
part_same None None xs ys some e = (refl, e)
part_same None (Some d) xs ys some e = absurd (cc)
part_same (Some c) None xs ys some e = absurd (cc)
part_same (Some c) (Some d) xs ys some e = let both = claim_same c d xs ys e in (ap Some both.0, both.1)

-- what stands behind a version line
pub line_same : (version : Version) (place : ℕ) (x y : Line) (xs ys : List TextLine) → is_line_of version x ≡ true → is_line_of version y ≡ true →
    entry_text place x.entry ∷ (certificate_part x.certificate ++ xs) ≡ entry_text place y.entry ∷ (certificate_part y.certificate ++ ys) → (x ≡ y) × (xs ≡ ys)
line_same version place x y xs ys is_x is_y e =
    let parts = parted (entry_text place x.entry) (entry_text place y.entry) _ _ e in
    let entry = entry_injective place x.entry y.entry parts.0 in
    let some = line_certificate version x is_x ∙ ap (λ (n : Entry). is_some (published_position n.act)) entry ∙ sym (line_certificate version y is_y) in
    let rest = part_same x.certificate y.certificate xs ys some parts.1 in (
      ap (λ (n : Entry). record { entry = n; certificate = x.certificate }) entry ∙
          ap (λ (c : Option Claim). record { entry = y.entry; certificate = c }) rest.0,
      rest.1,
    )

-- of a journal and the lines of a history that begin it, what is left
pub record GoesOn (version : Version) (place : ℕ) (V H : History) (rest : List TextLine) : Type 0 where
  pub more : History
  pub splits : V ≡ H ++ more
  pub lines : lines_from (place + length H) more ++ codes "end" ∷ [] ≡ rest
  pub journal : is_journal version more ≡ true

grouped : (place : ℕ) (x : Line) (H : History) (rest : List TextLine) →
    lines_from place (x ∷ H) ++ rest ≡ entry_text place x.entry ∷ (certificate_part x.certificate ++ (lines_from (place + 1) H ++ rest))
grouped place x H rest = ap (λ ls. entry_text place x.entry ∷ ls) (append_assoc (certificate_part x.certificate) (lines_from (place + 1) H) rest)

pub goes_on : (version : Version) (place : ℕ) (V H : History) (rest : List TextLine) → is_journal version V ≡ true → is_journal version H ≡ true →
    (0 < length rest) → lines_from place V ++ codes "end" ∷ [] ≡ lines_from place H ++ rest → GoesOn version place V H rest
goes_on version place V [] rest is_v is_h some e = record {
  more = V;
  splits = refl;
  lines = ap (λ p. lines_from p V ++ codes "end" ∷ []) (let f : place + 0 ≡ place = omega arith in f) ∙ e;
  journal = is_v;
}
goes_on version place [] (x ∷ H) rest is_v is_h some e =
    let f : codes "end" ∷ [] ≡ entry_text place x.entry ∷ (certificate_part x.certificate ++ (lines_from (place + 1) H ++ rest)) = e ∙ grouped place x H rest in
    absurd (not_end place x.entry (parted (codes "end") (entry_text place x.entry) _ _ f).0)
goes_on version place (y ∷ V) (x ∷ H) rest is_v is_h some e =
    let v = and_parts (is_line_of version y) (is_journal version V) is_v in
    let w = and_parts (is_line_of version x) (is_journal version H) is_h in
    let f = sym (grouped place y V (codes "end" ∷ [])) ∙ e ∙ grouped place x H rest in
    let same = line_same version place y x _ _ v.0 w.0 f in
    let more = goes_on version (place + 1) V H rest v.1 w.1 some same.1 in
    record {
      more = more.more;
      splits = ap (λ z. z ∷ V) same.0 ∙ ap (λ zs. x ∷ zs) more.splits;
      lines = ap (λ p. lines_from p more.more ++ codes "end" ∷ []) (let g : place + suc (length H) ≡ place + 1 + length H = omega arith in g) ∙ more.lines;
      journal = more.journal;
    }

-- lines of a longer history
pub lines_from-append : (place : ℕ) (H G : History) → lines_from place (H ++ G) ≡ lines_from place H ++ lines_from (place + length H) G
lines_from-append place [] G = ap (λ p. lines_from p G) (let f : place ≡ place + 0 = omega arith in f)
lines_from-append place (x ∷ H) G =
    ap (λ ls. entry_text place x.entry ∷ (certificate_part x.certificate ++ ls)) (lines_from-append (place + 1) H G)
    ∙ ap (λ p. entry_text place x.entry ∷ (certificate_part x.certificate ++ (lines_from (place + 1) H ++ lines_from p G))) (let g : place + 1 + length H ≡
    place + suc (length H) = omega arith in g)
    ∙ ap (λ ls. entry_text place x.entry ∷ ls)
    (sym (append_assoc (certificate_part x.certificate) (lines_from (place + 1) H) (lines_from (place + suc (length H)) G)))

-- the version is told by the version line
pub version_same : (a b : Version) → version_line a ≡ version_line b → a ≡ b
version_same One One e = refl
version_same Two Two e = refl
version_same One Two e = absurd (let f : 49 ≡ 50 = ap (λ bs. get_or bs 8 0) e in omega (arith, f))
version_same Two One e = absurd (let f : 50 ≡ 49 = ap (λ bs. get_or bs 8 0) e in omega (arith, f))

pub journal-append : (version : Version) (H G : History) → is_journal version H ≡ true → is_journal version G ≡ true → is_journal version (H ++ G) ≡ true
journal-append version [] G is_h is_g = is_g
journal-append version (x ∷ H) G is_h is_g =
    let w = and_parts (is_line_of version x) (is_journal version H) is_h in
    and_from (is_line_of version x) (is_journal version (H ++ G)) w.0 (journal-append version H G w.1 is_g)
