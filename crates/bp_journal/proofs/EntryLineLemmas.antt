-- From the words of a line to the entry that it tells.
use Rattle.std.proofs.Common.{
  ◌≡◌,
  ℕ,
  ◌==◌,
  ◌<◌,
  ◌≤◌,
  ◌&&◌,
  refl,
  ap,
  sym,
  subst,
  ◌∙◌,
  arith,
  Bool,
  true,
  false,
  List,
  [],
  ◌∷◌,
  ◌++◌,
  length,
  map,
  append-nil,
  length-append,
}
use Rattle.std.specs.Prelude.{not, MatchBool}
use Rattle.std.proofs.lemmas.Bool.{and_parts, and_from, eqb-true, eqb-false}
use Rattle.std.proofs.lemmas.List.{length-map}
use Rattle.bp_text.specs.Numbers.{spelled}
use Rattle.bp_text.specs.Lines.{Line}
use Rattle.bp_text.specs.Words.{Word, phrase, split, IsCounted}
use Rattle.bp_text.specs.declared.words.Counted.{Counted}
use Rattle.bp_text.proofs.NumberLemmas.{spelled_injective}
use Rattle.bp_text.proofs.WordLemmas.{first_word, split_joined, split_back}
use Rattle.bp_core.specs.declared.line.Act.{Act}
use Rattle.bp_core.specs.declared.line.Entry.{Entry}
use Rattle.bp_core.specs.declared.line.Reply.{Reply}
use Rattle.bp_journal.specs.declared.version.Version.{Version}
use Rattle.bp_journal.specs.declared.found.Found.{Found}
use Rattle.bp_journal.specs.declared.found.Found.TheVariants.{Bad, Great, Whole}
use Rattle.bp_journal.specs.declared.told.ToldAct.{ToldAct}
use Rattle.bp_journal.specs.Acts.{act_word, act_numbers, reply_word, reply_numbers, is_reply_of}
use Rattle.bp_journal.specs.Journals.{entry_words, entry_text, is_known, is_form}
use Rattle.bp_journal.specs.Limits.{IsEntryWithin}
use Rattle.bp_journal.specs.Found.{IsEntryLine, IsFound}
use Rattle.bp_journal.specs.Told.{IsEntryFound}
use Rattle.bp_journal.proofs.EntryLemmas.{entry_words_lack, act_same, replies_by_word, as_many_numbers}

-- an entry's line is split into its words
split_of_entry : (place : ℕ) (e : Entry) → split (entry_text place e) ≡ spelled place ∷ entry_words e
split_of_entry place e = split_joined (spelled place) (entry_words e) (entry_words_lack place e)

-- whether the first word is a place
pub placed : (words new : List Word) (place n : ℕ) (s : Counted) (b : Bool) → words ≡ spelled n ∷ new → IsCounted place n s →
    b ≡ (not s.great && (s.value == place))
    → MatchBool b (words ≡ spelled place ∷ new) ((more : List Word) → words ≡ spelled place ∷ more → ⊥)
placed words new place n s b is counted same = subst Q (sym same) (go s.great counted.1)
  where
    Q : Bool → Type 0
    Q x = MatchBool x (words ≡ spelled place ∷ new) ((more : List Word) → words ≡ spelled place ∷ more → ⊥)

    other : (n ≡ place → ⊥) → (more : List Word) → words ≡ spelled place ∷ more → ⊥
    other ne more e = ne (spelled_injective n place (first_word (spelled n) (spelled place) new more (sym is ∙ e)).0)

    by_value : (x : Bool) → (s.value == place) ≡ x → s.value ≡ n → Q x
    by_value true e value = is ∙ ap (λ k. spelled k ∷ new) (sym value ∙ eqb-true s.value place e)
    by_value false e value = other (λ n_is. eqb-false s.value place e (value ∙ n_is))

    go : (g : Bool) → MatchBool g (place < n) ((n ≤ place) × (s.value ≡ n)) → Q (not g && (s.value == place))
    go true above = other (λ n_is. omega (arith, above, n_is))
    go false here = by_value (s.value == place) refl here.1

-- another place stands first
pub not_placed : (version : Version) (place : ℕ) (line : Line) (words : List Word) → words ≡ split line →
    ((more : List Word) → words ≡ spelled place ∷ more → ⊥) → IsEntryLine version place line → ⊥
not_placed version place line words is none (e, form, same) = none (entry_words e) (is ∙ ap split same ∙ split_of_entry place e)

-- no entry's words stand behind the place
pub not_told : (version : Version) (place : ℕ) (line : Line) (words ws : List Word) → words ≡ split line → words ≡ spelled place ∷ ws →
    ((e : Entry) → is_form version e ≡ true → ws ≡ entry_words e → ⊥) → IsEntryLine version place line → ⊥
not_told version place line words ws is placed none (e, form, same) =
    none e form (first_word (spelled place) (spelled place) ws (entry_words e) (sym placed ∙ is ∙ ap split same ∙ split_of_entry place e)).1

-- what was found of the entry is found on its line
pub found_line : (version : Version) (place : ℕ) (line : Line) (words ws : List Word) (e : Entry) (f : Found) → words ≡ split line →
    words ≡ spelled place ∷ ws → is_form version e ≡ true → ws ≡ entry_words e → IsEntryFound e f → IsFound version place line f
found_line version place line words ws e f is placed form told found =
    go f found (split_back line (spelled place) (entry_words e) (sym is ∙ placed ∙ ap (λ vs. spelled place ∷ vs) told))
  where
    go : (f : Found) → IsEntryFound e f → line ≡ entry_text place e → IsFound version place line f
    go Bad never same = absurd never
    go Great outside same = ((e, form, same), λ fine. outside (fine e form same))
    go (Whole d) within same =
        let P : Entry → Type 0 = λ x. is_form version x ≡ true in
        let back : e ≡ d = sym within.1 in
        (subst P back form, subst IsEntryWithin back within.0, same ∙ ap (entry_text place) back)

-- the words behind the caller are no act's
pub no_act : (version : Version) (old mid : List Word) (n : ℕ) → old ≡ spelled n ∷ mid →
    ((a : Act) (more : List Word) → is_known version a ≡ true → mid ≡ phrase (act_word a) (act_numbers a) ++ more → ⊥)
    → (e : Entry) → is_form version e ≡ true → old ≡ entry_words e → ⊥
no_act version old mid n is none e form same =
    none e.act (phrase (reply_word e.reply) (reply_numbers e.reply)) (and_parts (is_known version e.act) (is_reply_of e.act e.reply) form).0
    (first_word (spelled n) (spelled e.caller) mid _ (sym is ∙ same)).1

-- of an entry with these words and this act in front, what the reply is
behind_act : (version : Version) (old mid last : List Word) (n : ℕ) (a : Act) (t : ToldAct) → old ≡ spelled n ∷ mid →
    mid ≡ phrase (act_word a) (act_numbers a) ++ last → act_word t.act ≡ act_word a
    → (e : Entry) → is_form version e ≡ true → old ≡ entry_words e →
    (is_reply_of t.act e.reply ≡ true) × (last ≡ phrase (reply_word e.reply) (reply_numbers e.reply))
behind_act version old mid last n a t is acts word e form same =
    let words = (first_word (spelled n) (spelled e.caller) mid _ (sym is ∙ same)).1 in
    let parts = act_same a e.act last (phrase (reply_word e.reply) (reply_numbers e.reply)) (sym acts ∙ words) in
    let fits = (and_parts (is_known version e.act) (is_reply_of e.act e.reply) form).1 in
    (ap (λ p. p e.reply) (replies_by_word t.act a word ∙ ap is_reply_of parts.0) ∙ fits, parts.1)

-- the words behind the act are no reply's
pub no_reply : (version : Version) (old mid last : List Word) (n : ℕ) (a : Act) (t : ToldAct) → old ≡ spelled n ∷ mid →
    mid ≡ phrase (act_word a) (act_numbers a) ++ last → act_word t.act ≡ act_word a
    → ((r : Reply) (more : List Word) → is_reply_of t.act r ≡ true → last ≡ phrase (reply_word r) (reply_numbers r) ++ more → ⊥) → (e : Entry) →
    is_form version e ≡ true → old ≡ entry_words e → ⊥
no_reply version old mid last n a t is acts word none e form same =
    let reply = behind_act version old mid last n a t is acts word e form same in
    none e.reply [] reply.0 (reply.1 ∙ sym (append-nil (phrase (reply_word e.reply) (reply_numbers e.reply))))

-- a word is left
pub one_too_many : (version : Version) (old mid last rest : List Word) (n : ℕ) (a : Act) (t : ToldAct) (r : Reply) (w : Word) (more : List Word) →
    old ≡ spelled n ∷ mid → mid ≡ phrase (act_word a) (act_numbers a) ++ last → act_word t.act ≡ act_word a
    → is_reply_of t.act r ≡ true → last ≡ phrase (reply_word r) (reply_numbers r) ++ rest → rest ≡ w ∷ more → (e : Entry) → is_form version e ≡ true →
    old ≡ entry_words e → ⊥
one_too_many version old mid last rest n a t r w more is acts word fits replies left e form same =
    let reply = behind_act version old mid last n a t is acts word e form same in
    let parts = first_word (reply_word r) (reply_word e.reply) (map spelled (reply_numbers r) ++ rest) (map spelled (reply_numbers e.reply)) (sym replies ∙
    reply.1) in
    let counts = as_many_numbers t.act r e.reply fits reply.0 parts.0 in
    omega (
      arith,
      ap length parts.1,
      length-append (map spelled (reply_numbers r)) rest,
      length-map (reply_numbers r) spelled,
      length-map (reply_numbers e.reply) spelled,
      counts,
      ap length left,
    )

-- all words were told
pub all_told : (version : Version) (old mid last rest : List Word) (n : ℕ) (a : Act) (t : ToldAct) (r : Reply) → old ≡ spelled n ∷ mid →
    is_known version a ≡ true → mid ≡ phrase (act_word a) (act_numbers a) ++ last → act_word t.act ≡ act_word a
    → is_reply_of t.act r ≡ true → last ≡ phrase (reply_word r) (reply_numbers r) ++ rest → rest ≡ []
    → (is_form version (record { caller = n; act = a; reply = r }) ≡ true) × (old ≡ entry_words (record { caller = n; act = a; reply = r }))
all_told version old mid last rest n a t r is known acts word fits replies left =
    let words : List Word = phrase (reply_word r) (reply_numbers r) in (
      and_from (is_known version a) (is_reply_of a r) known (sym (ap (λ p. p r) (replies_by_word t.act a word)) ∙ fits),
      is ∙ ap (λ vs. spelled n ∷ vs) (acts ∙ ap (λ vs. phrase (act_word a) (act_numbers a) ++ vs) (replies ∙ ap (λ vs. words ++ vs) left ∙ append-nil words)),
    )
