-- Entries can be told apart by their lines.
use Rattle.std.proofs.Common.{◌≡◌, ℕ, ◌+◌, ◌*◌, ◌==◌, cond, ap, ◌∙◌, sym, refl, arith, Bool, true, false, List, [], ◌∷◌, ◌++◌, length, map, All, get_or}
use Rattle.std.specs.Prelude.{codes}
use Rattle.std.proofs.lemmas.List.{length-map}
use Rattle.std.proofs.lemmas.List.Elements.{All-append}
use Rattle.bp_types.specs.declared.command.Command.TheVariants.{Book, Cancel, Reforecast, Reprice, Resize, Group}
use Rattle.bp_text.specs.Numbers.{spelled}
use Rattle.bp_text.specs.Words.{Word, HasNoSpace, phrase}
use Rattle.bp_text.proofs.NumberLemmas.{spelled_injective}
use Rattle.bp_text.proofs.WordLemmas.{first_word, joined_injective, number_lacks, word_lacks, word_in_front, phrase_lacks}
use Rattle.bp_core.specs.declared.line.Act.{Act}
use Rattle.bp_core.specs.declared.line.Act.TheVariants.{Do, Publish, Enrol, Leave}
use Rattle.bp_core.specs.declared.line.Entry.{Entry}
use Rattle.bp_core.specs.declared.line.Reply.{Reply}
use Rattle.bp_core.specs.declared.line.Reply.TheVariants.{
  Accepted,
  TooLow,
  NoRoom,
  Cancelled,
  NotBooked,
  AlreadyCancelled,
  Done,
  BelowSold,
  GroupAccepted,
  GroupTooLow,
  GroupNoRoom,
  Vector,
}
use Rattle.bp_core.specs.Lines.{is_done}
use Rattle.bp_journal.specs.Acts.{
  act_word,
  act_numbers,
  reply_word,
  reply_numbers,
  is_book_reply,
  is_cancel_reply,
  is_resize_reply,
  is_group_reply,
  is_publish_reply,
  is_reply_of,
}
use Rattle.bp_journal.specs.Journals.{entry_words, entry_text}

act_word_lacks : (a : Act) → HasNoSpace (act_word a)
act_word_lacks (Do (Book stay)) = word_lacks (codes "book") refl
act_word_lacks (Do (Cancel nth)) = word_lacks (codes "cancel") refl
act_word_lacks (Do (Reforecast stay count)) = word_lacks (codes "reforecast") refl
act_word_lacks (Do (Reprice stay rate)) = word_lacks (codes "reprice") refl
act_word_lacks (Do (Resize night rooms)) = word_lacks (codes "resize") refl
act_word_lacks (Do (Group span rooms amount)) = word_lacks (codes "group") refl
act_word_lacks (Publish position) = word_lacks (codes "publish") refl
act_word_lacks Enrol = word_lacks (codes "enrol") refl
act_word_lacks Leave = word_lacks (codes "leave") refl

reply_word_lacks : (r : Reply) → HasNoSpace (reply_word r)
reply_word_lacks (Accepted vector sum) = word_lacks (codes "accepted") refl
reply_word_lacks (TooLow vector sum rate) = word_lacks (codes "toolow") refl
reply_word_lacks (NoRoom vector sum night) = word_lacks (codes "noroom") refl
reply_word_lacks Cancelled = word_lacks (codes "cancelled") refl
reply_word_lacks NotBooked = word_lacks (codes "notbooked") refl
reply_word_lacks AlreadyCancelled = word_lacks (codes "alreadycancelled") refl
reply_word_lacks Done = word_lacks (codes "done") refl
reply_word_lacks (BelowSold sold) = word_lacks (codes "belowsold") refl
reply_word_lacks (GroupAccepted displacement) = word_lacks (codes "accepted") refl
reply_word_lacks (GroupTooLow displacement) = word_lacks (codes "toolow") refl
reply_word_lacks (GroupNoRoom night) = word_lacks (codes "noroom") refl
reply_word_lacks (Vector number) = word_lacks (codes "vector") refl

pub entry_words_lack : (place : ℕ) (e : Entry) → All HasNoSpace (spelled place ∷ entry_words e)
entry_words_lack place e =
    let act = phrase_lacks (act_word e.act) (act_numbers e.act) (act_word_lacks e.act) in
    let reply = phrase_lacks (reply_word e.reply) (reply_numbers e.reply) (reply_word_lacks e.reply) in
    let both = All-append HasNoSpace (phrase (act_word e.act) (act_numbers e.act)) (phrase (reply_word e.reply) (reply_numbers e.reply)) act reply in
    word_in_front (spelled place) (entry_words e) (number_lacks place)
    (word_in_front (spelled e.caller) (phrase (act_word e.act) (act_numbers e.act) ++ phrase (reply_word e.reply) (reply_numbers e.reply))
    (number_lacks e.caller) both)

-- numbers by their words

numbers_same : (ns ms : List ℕ) → map spelled ns ≡ map spelled ms → ns ≡ ms
numbers_same [] [] e = refl
numbers_same [] (m ∷ ms) e = absurd (cc)
numbers_same (n ∷ ns) [] e = absurd (cc)
numbers_same (n ∷ ns) (m ∷ ms) e =
    let h : spelled n ≡ spelled m = cc in
    let t : map spelled ns ≡ map spelled ms = cc in
    ap (λ x. x ∷ ns) (spelled_injective n m h) ∙ ap (λ xs. m ∷ xs) (numbers_same ns ms t)

-- a word by its version and third bytes
abbrev pub kind : Word → ℕ
kind w = 256 * get_or w 0 0 + get_or w 2 0

abbrev pub at : List ℕ → ℕ → ℕ
at ns k = get_or ns k 0

-- an act by its word and numbers
abbrev pub act_by : ℕ → List ℕ → Act
act_by k ns =
    cond (k == kind (codes "book")) (Do (Book (at ns 0)))
    (cond (k == kind (codes "cancel")) (Do (Cancel (at ns 0)))
    (cond (k == kind (codes "reforecast")) (Do (Reforecast (at ns 0) (at ns 1)))
    (cond (k == kind (codes "reprice")) (Do (Reprice (at ns 0) (at ns 1)))
    (cond (k == kind (codes "resize")) (Do (Resize (at ns 0) (at ns 1)))
    (cond (k == kind (codes "group")) (Do (Group (record { from = at ns 0; to = at ns 1 }) (at ns 2) (at ns 3)))
    (cond (k == kind (codes "publish")) (Publish (at ns 0))
    (cond (k == kind (codes "enrol")) Enrol Leave)))))))

pub act_again : (a : Act) → act_by (kind (act_word a)) (act_numbers a) ≡ a
act_again (Do (Book stay)) = refl
act_again (Do (Cancel nth)) = refl
act_again (Do (Reforecast stay count)) = refl
act_again (Do (Reprice stay rate)) = refl
act_again (Do (Resize night rooms)) = refl
act_again (Do (Group span rooms amount)) = refl
act_again (Publish position) = refl
act_again Enrol = refl
act_again Leave = refl

-- how many numbers go with an act's word
abbrev pub count_by_kind : ℕ → ℕ
count_by_kind k = length (act_numbers (act_by k []))

pub count_again : (a : Act) → count_by_kind (kind (act_word a)) ≡ length (act_numbers a)
count_again (Do (Book stay)) = refl
count_again (Do (Cancel nth)) = refl
count_again (Do (Reforecast stay count)) = refl
count_again (Do (Reprice stay rate)) = refl
count_again (Do (Resize night rooms)) = refl
count_again (Do (Group span rooms amount)) = refl
count_again (Publish position) = refl
count_again Enrol = refl
count_again Leave = refl

-- which replies fit an act's word
abbrev fits_by_kind : ℕ → Reply → Bool
fits_by_kind k = is_reply_of (act_by k [])

fits_again : (a : Act) → fits_by_kind (kind (act_word a)) ≡ is_reply_of a
fits_again (Do (Book stay)) = refl
fits_again (Do (Cancel nth)) = refl
fits_again (Do (Reforecast stay count)) = refl
fits_again (Do (Reprice stay rate)) = refl
fits_again (Do (Resize night rooms)) = refl
fits_again (Do (Group span rooms amount)) = refl
fits_again (Publish position) = refl
fits_again Enrol = refl
fits_again Leave = refl

-- the replies that fit an act go by its word
pub replies_by_word : (a b : Act) → act_word a ≡ act_word b → is_reply_of a ≡ is_reply_of b
replies_by_word a b e = sym (fits_again a) ∙ ap (λ w. fits_by_kind (kind w)) e ∙ fits_again b

-- a reply by its word and numbers; by its third byte and length, where two begin alike
abbrev pub reply_kind : Word → ℕ
reply_kind w = 65536 * length w + kind w

abbrev pub reply_by : ℕ → List ℕ → Reply
reply_by k ns =
    cond (k == reply_kind (codes "accepted")) (cond (length ns == 1) (GroupAccepted (at ns 0)) (Accepted (at ns 0) (at ns 1)))
    (cond (k == reply_kind (codes "toolow")) (cond (length ns == 1) (GroupTooLow (at ns 0)) (TooLow (at ns 0) (at ns 1) (at ns 2)))
    (cond (k == reply_kind (codes "noroom")) (cond (length ns == 1) (GroupNoRoom (at ns 0)) (NoRoom (at ns 0) (at ns 1) (at ns 2)))
    (cond (k == reply_kind (codes "cancelled")) Cancelled
    (cond (k == reply_kind (codes "notbooked")) NotBooked
    (cond (k == reply_kind (codes "alreadycancelled")) AlreadyCancelled
    (cond (k == reply_kind (codes "done")) Done
    (cond (k == reply_kind (codes "belowsold")) (BelowSold (at ns 0)) (Vector (at ns 0)))))))))

pub reply_again : (r : Reply) → reply_by (reply_kind (reply_word r)) (reply_numbers r) ≡ r
reply_again (Accepted vector sum) = refl
reply_again (TooLow vector sum rate) = refl
reply_again (NoRoom vector sum night) = refl
reply_again Cancelled = refl
reply_again NotBooked = refl
reply_again AlreadyCancelled = refl
reply_again Done = refl
reply_again (BelowSold sold) = refl
reply_again (GroupAccepted displacement) = refl
reply_again (GroupTooLow displacement) = refl
reply_again (GroupNoRoom night) = refl
reply_again (Vector number) = refl

-- the replies to a Group, told from others with the same words
abbrev is_group : Act → Bool
is_group (Do (Group span rooms amount)) = true
is_group _ = false

not_group : (p : Reply → Bool) → ((d : ℕ) → p (GroupAccepted d) ≡ false) → ((d : ℕ) → p (GroupTooLow d) ≡ false) → ((n : ℕ) → p (GroupNoRoom n) ≡ false)
    → (r : Reply) → p r ≡ true → is_group_reply r ≡ false
not_group p no_a no_t no_n (Accepted vector sum) is = refl
not_group p no_a no_t no_n (TooLow vector sum rate) is = refl
not_group p no_a no_t no_n (NoRoom vector sum night) is = refl
not_group p no_a no_t no_n Cancelled is = refl
not_group p no_a no_t no_n NotBooked is = refl
not_group p no_a no_t no_n AlreadyCancelled is = refl
not_group p no_a no_t no_n Done is = refl
not_group p no_a no_t no_n (BelowSold sold) is = refl
not_group p no_a no_t no_n (GroupAccepted d) is = let f : true ≡ false = sym is ∙ no_a d in absurd (cc)
not_group p no_a no_t no_n (GroupTooLow d) is = let f : true ≡ false = sym is ∙ no_t d in absurd (cc)
not_group p no_a no_t no_n (GroupNoRoom n) is = let f : true ≡ false = sym is ∙ no_n n in absurd (cc)
not_group p no_a no_t no_n (Vector number) is = refl

group_by : (a : Act) (r : Reply) → is_reply_of a r ≡ true → is_group_reply r ≡ is_group a
group_by (Do (Book stay)) r is = not_group is_book_reply (λ d. refl) (λ d. refl) (λ n. refl) r is
group_by (Do (Cancel nth)) r is = not_group is_cancel_reply (λ d. refl) (λ d. refl) (λ n. refl) r is
group_by (Do (Reforecast stay count)) r is = not_group is_done (λ d. refl) (λ d. refl) (λ n. refl) r is
group_by (Do (Reprice stay rate)) r is = not_group is_done (λ d. refl) (λ d. refl) (λ n. refl) r is
group_by (Do (Resize night rooms)) r is = not_group is_resize_reply (λ d. refl) (λ d. refl) (λ n. refl) r is
group_by (Do (Group span rooms amount)) r is = is
group_by (Publish position) r is = not_group is_publish_reply (λ d. refl) (λ d. refl) (λ n. refl) r is
group_by Enrol r is = not_group is_done (λ d. refl) (λ d. refl) (λ n. refl) r is
group_by Leave r is = not_group is_done (λ d. refl) (λ d. refl) (λ n. refl) r is

-- how many numbers go with a reply's word, of a Group's replies and of the others
abbrev reply_count : Bool → ℕ → ℕ
reply_count group k =
    cond (k == reply_kind (codes "accepted")) (cond group 1 2)
    (cond (k == reply_kind (codes "toolow")) (cond group 1 3)
    (cond (k == reply_kind (codes "noroom")) (cond group 1 3)
    (cond (k == reply_kind (codes "belowsold")) 1 (cond (k == reply_kind (codes "vector")) 1 0))))

reply_count_again : (r : Reply) → reply_count (is_group_reply r) (reply_kind (reply_word r)) ≡ length (reply_numbers r)
reply_count_again (Accepted vector sum) = refl
reply_count_again (TooLow vector sum rate) = refl
reply_count_again (NoRoom vector sum night) = refl
reply_count_again Cancelled = refl
reply_count_again NotBooked = refl
reply_count_again AlreadyCancelled = refl
reply_count_again Done = refl
reply_count_again (BelowSold sold) = refl
reply_count_again (GroupAccepted displacement) = refl
reply_count_again (GroupTooLow displacement) = refl
reply_count_again (GroupNoRoom night) = refl
reply_count_again (Vector number) = refl

-- two replies to one act with one word have as many numbers
pub as_many_numbers : (a : Act) (r s : Reply) → is_reply_of a r ≡ true → is_reply_of a s ≡ true → reply_word r ≡ reply_word s →
    length (reply_numbers r) ≡ length (reply_numbers s)
as_many_numbers a r s fits_r fits_s word =
    sym (reply_count_again r) ∙ ap (λ w. reply_count (is_group_reply r) (reply_kind w)) word
    ∙ ap (λ g. reply_count g (reply_kind (reply_word s))) (group_by a r fits_r ∙ sym (group_by a s fits_s)) ∙ reply_count_again s

halves : {X : Type 0} (xs ys cs ds : List X) → length xs ≡ length ys → xs ++ cs ≡ ys ++ ds → (xs ≡ ys) × (cs ≡ ds)
halves [] [] cs ds same e = (refl, e)
halves [] (b ∷ ys) cs ds same e = absurd (omega (arith, same))
halves (a ∷ xs) [] cs ds same e = absurd (omega (arith, same))
halves (a ∷ xs) (b ∷ ys) cs ds same e =
    let h : a ≡ b = cc in
    let t : xs ++ cs ≡ ys ++ ds = cc in
    let more = halves xs ys cs ds (omega (arith, same)) t in
    (ap (λ x. x ∷ xs) h ∙ ap (λ zs. b ∷ zs) more.0, more.1)

reply_same : (r s : Reply) → phrase (reply_word r) (reply_numbers r) ≡ phrase (reply_word s) (reply_numbers s) → r ≡ s
reply_same r s e =
    let parts = first_word (reply_word r) (reply_word s) _ _ e in
    let numbers = numbers_same (reply_numbers r) (reply_numbers s) parts.1 in
    sym (reply_again r) ∙ ap (λ w. reply_by (reply_kind w) (reply_numbers r)) parts.0 ∙ ap (reply_by (reply_kind (reply_word s))) numbers ∙ reply_again s

-- four numbers stand behind the word of a Group
pub no_group : (old mid : List Word) (f t : ℕ) → old ≡ spelled f ∷ spelled t ∷ mid → ((m n : ℕ) (more : List Word) → mid ≡ spelled m ∷ spelled n ∷ more → ⊥)
    → (a : Act) (more : List Word) → act_word a ≡ codes "group" → old ≡ map spelled (act_numbers a) ++ more → ⊥
no_group old mid f t two none a more e is =
    let numbers = act_numbers a in
    let group : a ≡ Do (Group (record { from = at numbers 0; to = at numbers 1 }) (at numbers 2) (at numbers 3)) = sym (act_again a) ∙
    ap (λ w. act_by (kind w) numbers) e in
    let flat : old ≡ spelled (at numbers 0) ∷ spelled (at numbers 1) ∷ spelled (at numbers 2) ∷ spelled (at numbers 3) ∷ more = is ∙
    ap (λ b. map spelled (act_numbers b) ++ more) group in
    let rest = (first_word (spelled f) (spelled (at numbers 0)) _ _ (sym two ∙ flat)).1 in
    none (at numbers 2) (at numbers 3) more (first_word (spelled t) (spelled (at numbers 1)) _ _ rest).1

-- an act is told from its words, whatever stands behind them
pub act_same : (a b : Act) (ws vs : List Word) → phrase (act_word a) (act_numbers a) ++ ws ≡ phrase (act_word b) (act_numbers b) ++ vs → (a ≡ b) × (ws ≡ vs)
act_same a b ws vs e =
    let parts = first_word (act_word a) (act_word b) _ _ e in
    let long : length (map spelled (act_numbers a)) ≡ length (map spelled (act_numbers b)) =
    length-map (act_numbers a) spelled ∙ sym (count_again a) ∙ ap (λ w. count_by_kind (kind w)) parts.0 ∙ count_again b ∙
    sym (length-map (act_numbers b) spelled) in
    let two = halves (map spelled (act_numbers a)) (map spelled (act_numbers b)) _ _ long parts.1 in
    let numbers = numbers_same (act_numbers a) (act_numbers b) two.0 in
    (sym (act_again a) ∙ ap (λ w. act_by (kind w) (act_numbers a)) parts.0 ∙ ap (act_by (kind (act_word b))) numbers ∙ act_again b, two.1)

-- different entries are spelt differently
pub entry_injective : (place : ℕ) (e f : Entry) → entry_text place e ≡ entry_text place f → e ≡ f
entry_injective place e f is =
    let words = (joined_injective (spelled place) (spelled place) (entry_words e) (entry_words f) (entry_words_lack place e) (entry_words_lack place f) is).1 in
    let parts = first_word (spelled e.caller) (spelled f.caller) _ _ words in
    let acts = act_same e.act f.act _ _ parts.1 in
    let reply = reply_same e.reply f.reply acts.1 in
    let build : ℕ → Act → Reply → Entry = λ c a r. record { caller = c; act = a; reply = r } in
    ap (λ c. build c e.act e.reply) (spelled_injective e.caller f.caller parts.0) ∙ ap (λ a. build f.caller a e.reply) acts.0 ∙ ap (build f.caller f.act) reply
