-- The places of a journal's text, and what a refusal there says of the whole.
use Rattle.std.proofs.Common.{
  ◌≡◌,
  ℕ,
  suc,
  ◌+◌,
  ◌<◌,
  ap,
  ◌∙◌,
  sym,
  subst,
  refl,
  arith,
  true,
  List,
  [],
  ◌∷◌,
  ◌++◌,
  length,
  All,
  append_assoc,
  length-append,
  ◌⊎◌,
  inl,
  inr,
  Option,
  Some,
  None,
  is_some,
  MatchOption,
}
use Rattle.std.specs.Prelude.{codes, Err}
use Rattle.std.proofs.lemmas.Bool.{and_parts, and_from}
use Rattle.std.proofs.lemmas.List.{append-nil}
use Rattle.std.proofs.lemmas.List.Elements.{All-append, All-cons, All-nil}
use Rattle.bp_types.specs.Claim.{Claim}
use Rattle.bp_text.specs.declared.text_error.TextError.{TextError}
use Rattle.bp_text.specs.declared.text_error.TextError.TheVariants.{BadLine, Limit, TooShort, Trailing, Memory}
use Rattle.bp_text.specs.Lines.{Line as TextLine, HasNoEnd, Given}
use Rattle.bp_text.specs.Reading.{Begins, HasForm, GivesLines, IsReading}
use Rattle.bp_cert.specs.Texts.{claim_lines, IsSpeakable}
use Rattle.bp_text.proofs.EndLemmas.{no_end_in_front}
use Rattle.bp_text.proofs.StageLemmas.{one_more_line, more_lines}
use Rattle.bp_core.specs.declared.line.Act.{Act}
use Rattle.bp_core.specs.declared.line.Act.TheVariants.{Do, Publish, Enrol, Leave}
use Rattle.bp_core.specs.declared.line.Entry.{Entry}
use Rattle.bp_core.specs.declared.line.Line.{Line}
use Rattle.bp_core.specs.Lines.{History, published_position}
use Rattle.bp_journal.specs.declared.version.Version.{Version}
use Rattle.bp_journal.specs.declared.version.Version.TheVariants.{Two}
use Rattle.bp_journal.specs.Limits.{IsNotedWithin, IsLineWithin, IsEntryWithin}
use Rattle.bp_journal.specs.Journals.{
  Noted,
  noted_lines,
  entry_text,
  certificate_part,
  lines_from,
  version_line,
  journal_lines,
  has_certificate,
  is_form,
  is_line_of,
  is_journal,
}
use Rattle.bp_text.specs.Places.{IsPlace}
use Rattle.bp_journal.specs.Found.{IsEntryOrEnd, IsFineLine, IsVersionLine, IsAnyLine}
use Rattle.bp_journal.specs.Read.{IsLineRead}
use Rattle.bp_text.proofs.StageLemmas.{refused_here}
use Rattle.bp_cert.proofs.ClaimLemmas.{value_line, sell_line, prices_line}
use Rattle.bp_journal.proofs.EntryLemmas.{entry_injective}
use Rattle.bp_journal.proofs.BodyLemmas.{parted, not_end, GoesOn, goes_on, version_same, line_certificate, lines_from-append, journal-append}
use Rattle.bp_journal.proofs.EndsOfJournals.{journal_no_ends}

-- the version line

pub version_place : IsPlace noted_lines IsNotedWithin [] IsVersionLine IsAnyLine
version_place = record {
  no_ends = λ v. journal_no_ends v.0 v.1;
  begins = ((Two, [], refl), version_line Two, codes "end" ∷ [], All-nil IsLineWithin, refl);
  form = λ v line more e. (v.0, sym (parted (version_line v.0) line (lines_from 0 v.1 ++ codes "end" ∷ []) more e).0);
  some = λ line is. ((is.0, [], refl), codes "end" ∷ [], ap (λ l. l ∷ codes "end" ∷ []) (sym is.1));
  fine = λ v line more within e. tt;
}

-- behind the lines of a history

abbrev pub front_of : Version → History → List TextLine
front_of version H = version_line version ∷ lines_from 0 H

-- a journal that begins like this
pub goes_from : (version : Version) (H : History) → is_journal version H ≡ true → (v : Noted) (rest : List TextLine) → 0 < length rest →
    noted_lines v ≡ front_of version H ++ rest → GoesOn version 0 v.1 H rest
goes_from version H is v rest some e =
    let parts = parted (version_line v.0) (version_line version) (lines_from 0 v.1 ++ codes "end" ∷ []) (lines_from 0 H ++ rest) e in
    let same = version_same v.0 version parts.0 in
    let P : Version → Type 0 = λ b. is_journal b v.1 ≡ true in
    goes_on version 0 v.1 H rest (subst P same v.2) is some parts.1

entry_at : (place : ℕ) (e : Entry) → entry_text (0 + place) e ≡ entry_text place e
entry_at place e = ap (λ p. entry_text p e) (let f : 0 + place ≡ place = omega arith in f)

-- where the rest is a line and more: the last line, or an entry of what is left
pub record NextEntry (version : Version) (place : ℕ) (v : History) (H : History) (line : TextLine) (more : List TextLine) : Type 0 where
  pub next : Line
  pub after : History
  pub splits : v ≡ H ++ next ∷ after
  pub can : is_line_of version next ≡ true
  pub line_is : entry_text place next.entry ≡ line
  pub more_is : certificate_part next.certificate ++ (lines_from (place + 1) after ++ codes "end" ∷ []) ≡ more

pub next_of : (version : Version) (v H : History) (line : TextLine) (more : List TextLine) → GoesOn version 0 v H (line ∷ more) →
    (line ≡ codes "end") ⊎ NextEntry version (length H) v H line more
next_of version v H line more g = go g.more g.splits g.lines g.journal
  where
    go : (G : History) → v ≡ H ++ G → lines_from (0 + length H) G ++ codes "end" ∷ [] ≡ line ∷ more → is_journal version G ≡ true →
        (line ≡ codes "end") ⊎ NextEntry version (length H) v H line more
    go [] splits e is = inl (sym (parted (codes "end") line [] more e).0)
    go (z ∷ G) splits e is =
        let f : entry_text (0 + length H) z.entry ∷ (certificate_part z.certificate ++ (lines_from (0 + length H + 1) G ++ codes "end" ∷ [])) ≡ line ∷ more =
        sym (ap (λ ls. entry_text (0 + length H) z.entry ∷ ls)
        (append_assoc (certificate_part z.certificate) (lines_from (0 + length H + 1) G) (codes "end" ∷ []))) ∙ e in
        let parts = parted (entry_text (0 + length H) z.entry) line _ _ f in
        inr (record {
          next = z;
          after = G;
          splits = splits;
          can = (and_parts (is_line_of version z) (is_journal version G) is).0;
          line_is = sym (entry_at (length H) z.entry) ∙ parts.0;
          more_is = ap (λ p. certificate_part z.certificate ++ (lines_from p G ++ codes "end" ∷ [])) (let h : length H + 1 ≡ 0 + length H + 1 = omega arith in
              h) ∙ parts.1;
        })

-- a history with one line more, as lines
pub one_more : (version : Version) (H : History) (z : Line) →
    journal_lines version (H ++ z ∷ []) ≡ front_of version H ++ entry_text (length H) z.entry ∷ (certificate_part z.certificate ++ codes "end" ∷ [])
one_more version H z =
    ap (λ ls. version_line version ∷ (ls ++ codes "end" ∷ [])) (lines_from-append 0 H (z ∷ []))
    ∙ ap (λ ls. version_line version ∷ ls) (append_assoc (lines_from 0 H) (lines_from (0 + length H) (z ∷ [])) (codes "end" ∷ []))
    ∙ ap (λ l. version_line version ∷ (lines_from 0 H ++ l ∷ ((certificate_part z.certificate ++ []) ++ codes "end" ∷ []))) (entry_at (length H) z.entry)
    ∙ ap (λ ls. version_line version ∷ (lines_from 0 H ++ entry_text (length H) z.entry ∷ (ls ++ codes "end" ∷ [])))
    (append-nil (certificate_part z.certificate))

-- some certificate where one is wanted
abbrev blank : Act → Option Claim
blank (Publish position) = Some (record { value = 0; sell = []; prices = [] })
blank _ = None

pub journal_one : (version : Version) (z : Line) → is_line_of version z ≡ true → is_journal version (z ∷ []) ≡ true
journal_one version z is = and_from (is_line_of version z) true is refl

in_all : (H G : History) (z : Line) → All IsLineWithin (H ++ z ∷ G) → IsLineWithin z
in_all [] G z all = all 0 z (omega arith)
in_all (x ∷ H) G z all = in_all H G z (λ k d h. all (suc k) d (omega arith))

pub entry_place : (version : Version) (H : History) → is_journal version H ≡ true → All IsLineWithin H →
    IsPlace noted_lines IsNotedWithin (front_of version H) (IsEntryOrEnd version (length H)) (IsFineLine version (length H))
entry_place version H is within = record {
  no_ends = λ v. journal_no_ends v.0 v.1;
  begins = ((version, H, is), codes "end", [], within, refl);
  form = λ v line more e. formed v line more (next_of version v.1 H line more (goes_from version H is v (line ∷ more) (omega arith) e));
  some = λ line allowed. allowed_is line allowed;
  fine = λ v line more inside e. λ f form same. fine_is v line more inside
      (next_of version v.1 H line more (goes_from version H is v (line ∷ more) (omega arith) e)) f same;
}
  where
    formed : (v : Noted) (line : TextLine) (more : List TextLine) → (line ≡ codes "end") ⊎ NextEntry version (length H) v.1 H line more →
        IsEntryOrEnd version (length H) line
    formed v line more (inl last) = inl last
    formed v line more (inr n) =
        inr (n.next.entry, (and_parts (is_form version n.next.entry) (has_certificate n.next.entry.act n.next.certificate) n.can).0, sym n.line_is)

    with_blank : (e : Entry) → has_certificate e.act (blank e.act) ≡ true
    with_blank e = go e.act
      where
        go : (a : Act) → has_certificate a (blank a) ≡ true
        go (Publish position) = refl
        go (Do command) = refl
        go Enrol = refl
        go Leave = refl

    allowed_is : (line : TextLine) → IsEntryOrEnd version (length H) line → HasForm noted_lines (front_of version H) line
    allowed_is line (inl last) = ((version, H, is), [], ap (λ l. front_of version H ++ l ∷ []) (sym last))
    allowed_is line (inr (e, form, same)) =
        let z : Line = record { entry = e; certificate = blank e.act } in
        let can : is_line_of version z ≡ true = and_from (is_form version e) (has_certificate e.act (blank e.act)) form (with_blank e) in (
          (version, H ++ z ∷ [], journal-append version H (z ∷ []) is (journal_one version z can)),
          certificate_part z.certificate ++ codes "end" ∷ [],
          one_more version H z ∙ ap (λ l. front_of version H ++ l ∷ (certificate_part z.certificate ++ codes "end" ∷ [])) (sym same),
        )

    fine_is : (v : Noted) (line : TextLine) (more : List TextLine) → All IsLineWithin v.1 →
        (line ≡ codes "end") ⊎ NextEntry version (length H) v.1 H line more → (f : Entry) → line ≡ entry_text (length H) f → IsEntryWithin f
    fine_is v line more inside (inl last) f same = absurd (not_end (length H) f (sym last ∙ same))
    fine_is v line more inside (inr n) f same =
        let P : History → Type 0 = λ K. All IsLineWithin K in
        let z = in_all H n.after n.next (subst P n.splits inside) in
        subst IsEntryWithin (entry_injective (length H) n.next.entry f (n.line_is ∙ same)) z.0

-- behind a Publish

cut_front : (xs front tail : List TextLine) (line : TextLine) (more : List TextLine) → xs ++ tail ≡ front ++ line ∷ more → length front < length xs →
    (rest : List TextLine) × (xs ≡ front ++ line ∷ rest)
cut_front [] front tail line more e short = absurd (omega arith)
cut_front (x ∷ xs) [] tail line more e short = (xs, ap (λ l. l ∷ xs) (parted x line (xs ++ tail) more e).0)
cut_front (x ∷ xs) (f ∷ front) tail line more e short =
    let parts = parted x f (xs ++ tail) (front ++ line ∷ more) e in
    let rest = cut_front xs front tail line more parts.1 (omega arith) in
    (rest.0, ap (λ l. l ∷ xs) parts.0 ∙ ap (λ ls. f ∷ ls) rest.1)

short_front : (front : List TextLine) → Begins claim_lines IsSpeakable front → length front < 3
short_front front b = omega (arith, ap length b.4, length-append front (b.1 ∷ b.2))

-- the lines up to a Publish
abbrev pub behind_of : Version → History → Entry → List TextLine
behind_of version H e = front_of version H ++ entry_text (length H) e ∷ []

abbrev with_claim : Entry → Claim → Line
with_claim e c = record { entry = e; certificate = Some c }

can_publish : (version : Version) (e : Entry) (c : Claim) → is_form version e ≡ true → is_some (published_position e.act) ≡ true →
    is_line_of version (with_claim e c) ≡ true
can_publish version e c form some = and_from (is_form version e) (has_certificate e.act (Some c)) form (go e.act some)
  where
    go : (a : Act) → is_some (published_position a) ≡ true → has_certificate a (Some c) ≡ true
    go (Publish position) s = refl
    go (Do command) s = absurd (cc)
    go Enrol s = absurd (cc)
    go Leave s = absurd (cc)

wrapped : (version : Version) (H : History) (e : Entry) (c : Claim) (front : List TextLine) (line : TextLine) (more : List TextLine) →
    claim_lines c ≡ front ++ line ∷ more →
    journal_lines version (H ++ with_claim e c ∷ []) ≡ (behind_of version H e ++ front) ++ line ∷ (more ++ codes "end" ∷ [])
wrapped version H e c front line more is =
    one_more version H (with_claim e c)
    ∙ ap (λ ls. front_of version H ++ entry_text (length H) e ∷ (ls ++ codes "end" ∷ [])) is
    ∙ ap (λ ls. front_of version H ++ entry_text (length H) e ∷ ls) (append_assoc front (line ∷ more) (codes "end" ∷ []))
    ∙ sym (append_assoc (front_of version H) (entry_text (length H) e ∷ []) (front ++ line ∷ (more ++ codes "end" ∷ [])))
    ∙ sym (append_assoc (behind_of version H e) front (line ∷ (more ++ codes "end" ∷ [])))

pub record HasClaim (v : Noted) (front : List TextLine) (line : TextLine) : Type 0 where
  pub claim : Claim
  pub rest : List TextLine
  pub lines : claim_lines claim ≡ front ++ line ∷ rest
  pub within : IsNotedWithin v → IsSpeakable claim

unwrapped : (version : Version) (H : History) (e : Entry) → is_journal version H ≡ true → is_some (published_position e.act) ≡ true →
    (v : Noted) (front : List TextLine) (line : TextLine) (more : List TextLine) → length front < 3 →
    noted_lines v ≡ (behind_of version H e ++ front) ++ line ∷ more → HasClaim v front line
unwrapped version H e is some v front line more short same =
    let flat : noted_lines v ≡ front_of version H ++ entry_text (length H) e ∷ (front ++ line ∷ more) =
    same ∙ append_assoc (behind_of version H e) front (line ∷ more) ∙ append_assoc (front_of version H) (entry_text (length H) e ∷ []) (front ++ line ∷ more) in
    go (next_of version v.1 H (entry_text (length H) e) (front ++ line ∷ more)
    (goes_from version H is v (entry_text (length H) e ∷ (front ++ line ∷ more)) (omega arith) flat))
  where
    claimed : (n : NextEntry version (length H) v.1 H (entry_text (length H) e) (front ++ line ∷ more)) (o : Option Claim) → n.next.certificate ≡ o →
        is_some o ≡ true → HasClaim v front line
    claimed n None is_none s = absurd (cc)
    claimed n (Some c) is_some_c s =
        let tail = lines_from (length H + 1) n.after ++ codes "end" ∷ [] in
        let f : claim_lines c ++ tail ≡ front ++ line ∷ more = ap (λ o. certificate_part o ++ tail) (sym is_some_c) ∙ n.more_is in
        let cut = cut_front (claim_lines c) front tail line more f short in
        record {
          claim = c;
          rest = cut.0;
          lines = cut.1;
          within = λ inside.
              let P : History → Type 0 = λ K. All IsLineWithin K in
              let z = in_all H n.after n.next (subst P n.splits inside) in
              let Q : Option Claim → Type 0 = λ o. MatchOption o (Unit {0}) IsSpeakable in
              subst Q is_some_c z.1;
        }

    go : (entry_text (length H) e ≡ codes "end") ⊎ NextEntry version (length H) v.1 H (entry_text (length H) e) (front ++ line ∷ more) → HasClaim v front line
    go (inl last) = absurd (not_end (length H) e (sym last))
    go (inr n) =
        let entry = entry_injective (length H) n.next.entry e n.line_is in
        claimed n n.next.certificate refl (line_certificate version n.next n.can ∙ ap (λ (x : Entry). is_some (published_position x.act)) entry ∙ some)

-- the journal that ends with this Publish
abbrev value : (version : Version) (H : History) (e : Entry) → is_journal version H ≡ true → is_form version e ≡ true →
    is_some (published_position e.act) ≡ true → Claim → Noted
value version H e is form some c = (
  version,
  H ++ with_claim e c ∷ [],
  journal-append version H (with_claim e c ∷ []) is (journal_one version (with_claim e c) (can_publish version e c form some)),
)

value_within : (version : Version) (H : History) (e : Entry) (c : Claim) → All IsLineWithin H → IsEntryWithin e → IsSpeakable c →
    All IsLineWithin (H ++ with_claim e c ∷ [])
value_within version H e c within small speakable =
    All-append IsLineWithin H (with_claim e c ∷ []) within (All-cons IsLineWithin (with_claim e c) [] (small, speakable) (All-nil IsLineWithin))

-- what is refused of the claim is refused of the journal
pub refused_behind : (version : Version) (H : History) (e : Entry) (start middle new : Given) (err : TextError) → is_journal version H ≡ true →
    All IsLineWithin H → is_form version e ≡ true → IsEntryWithin e → is_some (published_position e.act) ≡ true →
    GivesLines start middle (behind_of version H e) middle.rest → IsReading claim_lines IsSpeakable middle new (Err err) →
    IsReading noted_lines IsNotedWithin start new (Err err)
refused_behind version H e start middle new err is within form small some before r = go err r
  where
    begins : (front : List TextLine) → Begins claim_lines IsSpeakable front → Begins noted_lines IsNotedWithin (behind_of version H e ++ front)
    begins front b = (
      value version H e is form some b.0,
      b.1,
      b.2 ++ codes "end" ∷ [],
      value_within version H e b.0 within small b.3,
      wrapped version H e b.0 front b.1 b.2 b.4,
    )

    gives_all : (front : List TextLine) (line : TextLine) → GivesLines middle new (front ++ line ∷ []) new.rest →
        GivesLines start new ((behind_of version H e ++ front) ++ line ∷ []) new.rest
    gives_all front line g =
        let P : List TextLine → Type 0 = λ ls. GivesLines start new ls new.rest in
        subst P (sym (append_assoc (behind_of version H e) front (line ∷ [])))
        (more_lines start middle new (behind_of version H e) (front ++ line ∷ []) before g)

    go : (x : TextError) → IsReading claim_lines IsSpeakable middle new (Err x) → IsReading noted_lines IsNotedWithin start new (Err x)
    go (BadLine place) q = record {
      front = behind_of version H e ++ q.front;
      line = q.line;
      begins = begins q.front q.begins;
      wrong = λ has. let u = unwrapped version H e is some has.0 q.front q.line has.1 (short_front q.front q.begins) has.2 in
          q.wrong (u.claim, u.rest, u.lines);
      no_end = q.no_end;
      gives = gives_all q.front q.line q.gives;
      counted = q.counted;
    }
    go (Limit place) q = record {
      front = behind_of version H e ++ q.front;
      line = q.line;
      begins = begins q.front q.begins;
      form = (value version H e is form some q.form.0, q.form.1 ++ codes "end" ∷ [], wrapped version H e q.form.0 q.front q.line q.form.1 q.form.2);
      outside = λ right. let u = unwrapped version H e is some right.0 q.front q.line right.1 (short_front q.front q.begins) right.3 in
          q.outside (u.claim, u.rest, u.within right.2, u.lines);
      no_end = q.no_end;
      gives = gives_all q.front q.line q.gives;
      counted = q.counted;
    }
    go TooShort q = record {
      front = behind_of version H e ++ q.front;
      begins = begins q.front q.begins;
      gives = more_lines start middle new (behind_of version H e) q.front before q.gives;
      no_end = q.no_end;
    }
    go (Trailing place) q = absurd q
    go Memory q =
        let c : Claim = record { value = 0; sell = []; prices = [] } in
        let speakable : IsSpeakable c = record { value = omega arith; stays = omega arith; nights = omega arith; sell = All-nil _; prices = All-nil _ } in
        let begun : Begins noted_lines IsNotedWithin (behind_of version H e) = (
          value version H e is form some c,
          value_line 0,
          sell_line [] ∷ prices_line [] ∷ codes "end" ∷ [],
          value_within version H e c within small speakable,
          one_more version H (with_claim e c) ∙ sym (append_assoc (front_of version H) (entry_text (length H) e ∷ []) (claim_lines c ++ codes "end" ∷ [])),
        ) in
        let none = no_end_in_front noted_lines IsNotedWithin (behind_of version H e) (λ v. journal_no_ends v.0 v.1) begun in (
          behind_of version H e ++ q.0,
          All-append HasNoEnd (behind_of version H e) q.0 none q.1,
          more_lines start middle new (behind_of version H e) q.0 before q.2,
        )

-- a refusal of the next line, or behind it, is one of the text
pub refused_line : (version : Version) (H : History) (place : ℕ) (start mid new : Given) (e : TextError) → place ≡ length H → is_journal version H ≡ true →
    All IsLineWithin H → GivesLines start mid (front_of version H) mid.rest → IsLineRead version place mid new (Err e) →
    IsReading noted_lines IsNotedWithin start new (Err e)
refused_line version H place start mid new e at is within before read =
    let P : ℕ → Type 0 = λ p. IsLineRead version p mid new (Err e) in
    elim (subst P at read) [
      | inl here ↦ refused_here noted_lines IsNotedWithin (front_of version H) (IsEntryOrEnd version (length H)) (IsFineLine version (length H))
          start mid new e (entry_place version H is within) before here
      | inr behind ↦ refused_behind version H behind.entry start behind.middle new e is within behind.form behind.within behind.publishes
          (one_more_line start mid behind.middle (front_of version H) (entry_text (length H) behind.entry) before behind.gives) behind.refused
    ]

-- where memory was wanted behind these lines
pub stopped_line : (version : Version) (H : History) (start new : Given) → is_journal version H ≡ true → All IsLineWithin H →
    GivesLines start new (front_of version H) new.rest → IsReading noted_lines IsNotedWithin start new (Err Memory)
stopped_line version H start new is within before = (
  front_of version H,
  no_end_in_front noted_lines IsNotedWithin (front_of version H) (λ v. journal_no_ends v.0 v.1)
      (entry_place version H is within).begins,
  before,
)

-- one line more
pub lines_more : (H : History) (x : Line) → lines_from 0 (H ++ x ∷ []) ≡ lines_from 0 H ++ entry_text (length H) x.entry ∷ certificate_part x.certificate
lines_more H x =
    lines_from-append 0 H (x ∷ [])
    ∙ ap (λ l. lines_from 0 H ++ l ∷ (certificate_part x.certificate ++ [])) (entry_at (length H) x.entry)
    ∙ ap (λ ls. lines_from 0 H ++ entry_text (length H) x.entry ∷ ls) (append-nil (certificate_part x.certificate))

-- what the loop over the entries keeps
pub record SoFar (version : Version) (old now : Given) (H : History) : Type 0 where
  pub journal : is_journal version H ≡ true
  pub within : All IsLineWithin H
  pub gives : GivesLines old now (lines_from 0 H) now.rest

pub so_far_more : (version : Version) (old mid new : Given) (H K : History) (x : Line) (place : ℕ) → K ≡ H ++ x ∷ [] → place ≡ length H →
    SoFar version old mid H → IsLineRead version place mid new (Rattle.std.specs.Prelude.Ok (Some x)) → SoFar version old new K
so_far_more version old mid new H K x place is at s read =
    let P : History → Type 0 = λ G. SoFar version old new G in
    let Q : List TextLine → Type 0 = λ ls. GivesLines old new ls new.rest in
    let R : ℕ → Type 0 = λ p. GivesLines mid new (entry_text p x.entry ∷ certificate_part x.certificate) new.rest in
    subst P (sym is) (record {
      journal = journal-append version H (x ∷ []) s.journal (journal_one version x read.0);
      within = All-append IsLineWithin H (x ∷ []) s.within (All-cons IsLineWithin x [] read.1 (All-nil IsLineWithin));
      gives = subst Q (sym (lines_more H x))
          (more_lines old mid new (lines_from 0 H) (entry_text (length H) x.entry ∷ certificate_part x.certificate) s.gives (subst R at read.2));
    })

-- the version lines stand before those of the history
pub from_start : (version : Version) (start old now : Given) (H : History) → GivesLines start old (version_line version ∷ []) old.rest →
    GivesLines old now (lines_from 0 H) now.rest → GivesLines start now (front_of version H) now.rest
from_start version start old now H head gives = more_lines start old now (version_line version ∷ []) (lines_from 0 H) head gives
