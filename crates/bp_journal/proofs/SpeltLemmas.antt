-- What is spelt piece by piece is the line.
use Rattle.std.proofs.Common.{◌≡◌, ℕ, refl, ap, sym, ◌∙◌, List, [], ◌∷◌, ◌++◌, map, append_assoc, append-nil}
use Rattle.std.proofs.lemmas.Grind.{flat_map-append}
use Rattle.bp_text.specs.Numbers.{spelled}
use Rattle.bp_text.specs.Lines.{Line as TextLine, numbers_text, text_of}
use Rattle.bp_text.specs.Words.{Word, words_behind, phrase}
use Rattle.bp_core.specs.declared.line.Entry.{Entry}
use Rattle.bp_journal.specs.Acts.{act_word, act_numbers, reply_word, reply_numbers}
use Rattle.bp_journal.specs.Journals.{entry_words, entry_text}

numbers_are_words : (ns : List ℕ) → numbers_text ns ≡ words_behind (map spelled ns)
numbers_are_words [] = refl
numbers_are_words (n ∷ ns) = ap (λ t. 32 ∷ (spelled n ++ t)) (numbers_are_words ns)

pub phrase_is : (old word : List ℕ) (ns : List ℕ) → ((old ++ 32 ∷ []) ++ word) ++ numbers_text ns ≡ old ++ words_behind (phrase word ns)
phrase_is old word ns =
    append_assoc (old ++ 32 ∷ []) word (numbers_text ns) ∙ append_assoc old (32 ∷ []) (word ++ numbers_text ns)
    ∙ ap (λ t. old ++ 32 ∷ (word ++ t)) (numbers_are_words ns)

pub words_join : (xs ys : List Word) → words_behind xs ++ words_behind ys ≡ words_behind (xs ++ ys)
words_join xs ys = sym (flat_map-append (λ w. 32 ∷ w) xs ys)

pub one_text : (line : TextLine) → line ++ 10 ∷ [] ≡ text_of (line ∷ [])
one_text line = sym (append-nil (line ++ 10 ∷ []))

pub entry_is : (old : List ℕ) (place : ℕ) (e : Entry) →
    (((((old ++ spelled place) ++ 32 ∷ []) ++ spelled e.caller) ++ words_behind (phrase (act_word e.act) (act_numbers e.act))) ++ words_behind
    (phrase (reply_word e.reply) (reply_numbers e.reply))) ++ 10 ∷ [] ≡ old ++ text_of (entry_text place e ∷ [])
entry_is old place e =
    let a : List Word = phrase (act_word e.act) (act_numbers e.act) in
    let r : List Word = phrase (reply_word e.reply) (reply_numbers e.reply) in
    let t : List ℕ = 10 ∷ [] in
    append_assoc ((((old ++ spelled place) ++ 32 ∷ []) ++ spelled e.caller) ++ words_behind a) (words_behind r) t
    ∙ append_assoc (((old ++ spelled place) ++ 32 ∷ []) ++ spelled e.caller) (words_behind a) (words_behind r ++ t)
    ∙ append_assoc ((old ++ spelled place) ++ 32 ∷ []) (spelled e.caller) (words_behind a ++ (words_behind r ++ t))
    ∙ append_assoc (old ++ spelled place) (32 ∷ []) (spelled e.caller ++ (words_behind a ++ (words_behind r ++ t)))
    ∙ append_assoc old (spelled place) (32 ∷ (spelled e.caller ++ (words_behind a ++ (words_behind r ++ t))))
    ∙ ap (λ x. old ++ (spelled place ++ 32 ∷ (spelled e.caller ++ x))) (sym (append_assoc (words_behind a) (words_behind r) t) ∙
    ap (λ x. x ++ t) (words_join a r))
    ∙ ap (λ x. old ++ (spelled place ++ x)) (sym (append_assoc (32 ∷ spelled e.caller) (words_behind (a ++ r)) t))
    ∙ ap (λ x. old ++ x) (sym (append_assoc (spelled place) (words_behind (entry_words e)) t))
    ∙ ap (λ x. old ++ x) (one_text (entry_text place e))
