-- Names of files and the lines that they stand on: no byte of a name is a space or a line's end, so the names of a line can
-- be told.
use Rattle.std.proofs.Common.{◌≡◌, ◌≢◌, ℕ, zero, suc, ◌<◌, ◌≤◌, ◌==◌, ◌&&◌, ap, sym, subst, ◌∙◌, arith, true, false, List, [], ◌∷◌, ◌++◌, length, All, get_or}
use Rattle.std.specs.Prelude.{not, nat_le, IsTrue}
use Rattle.std.specs.List.{list_all}
use Rattle.std.specs.Str.{IsAscii, IsUtf8}
use Rattle.std.proofs.lemmas.Bool.{and_parts, and_from, leb-true}
use Rattle.std.proofs.lemmas.List.Elements.{All-append}
use Rattle.std.proofs.lemmas.List.Sums.{AllPass-from_list_all}
use Rattle.std.proofs.lemmas.Str.{IsUtf8-from_ascii}
use Rattle.bp_types.specs.declared.limits.TheConstants.{MOST_NAME}
use Rattle.bp_text.specs.Lines.{Line, HasNoEnd}
use Rattle.bp_text.specs.Words.{Word, HasNoSpace, words_behind, split}
use Rattle.bp_text.proofs.WordLemmas.{split_joined, joined_injective, word_in_front}
use Rattle.bp_portfolio.specs.Lists.{FiveNames, is_name_byte, is_name, is_named, other_names, names_line, IsNamesLine}

-- a word that is a name has such bytes
name_bytes : (w : Word) → IsTrue (is_name w) → IsTrue (list_all is_name_byte w)
name_bytes [] is = absurd (cc)
name_bytes (b ∷ bs) is =
    (and_parts (not (b == 45)) (list_all is_name_byte (b ∷ bs))
    (and_parts (nat_le (length (b ∷ bs)) MOST_NAME) (not (b == 45) && list_all is_name_byte (b ∷ bs)) is).1).1

byte_within : (b : ℕ) → IsTrue (is_name_byte b) → (33 ≤ b) × (b ≤ 126)
byte_within b is = let p = and_parts (nat_le 33 b) (nat_le b 126) is in (leb-true 33 b p.0, leb-true b 126 p.1)

-- each byte of a name
pub bytes_within : (w : Word) → IsTrue (is_name w) → All (λ b. (33 ≤ b) × (b ≤ 126)) w
bytes_within w is k d h = byte_within (get_or w k d) (AllPass-from_list_all is_name_byte w (name_bytes w is) k d h)

pub name_has_no_space : (w : Word) → IsTrue (is_name w) → HasNoSpace w
name_has_no_space w is k d h e = omega (arith, e, (bytes_within w is k d h).0)

name_has_no_end : (w : Word) → IsTrue (is_name w) → HasNoEnd w
name_has_no_end w is k d h e = omega (arith, e, (bytes_within w is k d h).0)

-- a name is a text
pub name_is_text : (w : Word) → IsTrue (is_name w) → IsUtf8 w
name_is_text w is = IsUtf8-from_ascii w (below w (bytes_within w is))
  where
    below : (bs : List ℕ) → All (λ b. (33 ≤ b) × (b ≤ 126)) bs → IsAscii bs
    below [] all i = omega arith
    below (b ∷ bs) all zero = omega (arith, (all 0 0 (omega arith)).1)
    below (b ∷ bs) all (suc i) = below bs (λ k d h. all (suc k) d (omega arith)) i

-- the five names
pub record Five (n : FiveNames) : Type 0 where
  pub hotel : IsTrue (is_name n.hotel)
  pub stays : IsTrue (is_name n.stays)
  pub forecast : IsTrue (is_name n.forecast)
  pub bookings : IsTrue (is_name n.bookings)
  pub script : IsTrue (is_name n.script)

pub five : (n : FiveNames) → IsTrue (is_named n) → Five n
five n is =
    let p = and_parts (is_name n.hotel) (is_name n.stays && (is_name n.forecast && (is_name n.bookings && is_name n.script))) is in
    let q = and_parts (is_name n.stays) (is_name n.forecast && (is_name n.bookings && is_name n.script)) p.1 in
    let r = and_parts (is_name n.forecast) (is_name n.bookings && is_name n.script) q.1 in
    let s = and_parts (is_name n.bookings) (is_name n.script) r.1 in
    record { hotel = p.0; stays = q.0; forecast = r.0; bookings = s.0; script = s.1 }

pub named_five : (n : FiveNames) → Five n → IsTrue (is_named n)
named_five n f =
    and_from (is_name n.hotel) (is_name n.stays && (is_name n.forecast && (is_name n.bookings && is_name n.script))) f.hotel
    (and_from (is_name n.stays) (is_name n.forecast && (is_name n.bookings && is_name n.script)) f.stays
    (and_from (is_name n.forecast) (is_name n.bookings && is_name n.script) f.forecast
    (and_from (is_name n.bookings) (is_name n.script) f.bookings f.script)))

pub names_lack : (n : FiveNames) → IsTrue (is_named n) → All HasNoSpace (n.hotel ∷ other_names n)
names_lack n is =
    let f = five n is in
    word_in_front n.hotel (other_names n) (name_has_no_space n.hotel f.hotel)
    (word_in_front n.stays (n.forecast ∷ n.bookings ∷ n.script ∷ []) (name_has_no_space n.stays f.stays)
    (word_in_front n.forecast (n.bookings ∷ n.script ∷ []) (name_has_no_space n.forecast f.forecast)
    (word_in_front n.bookings (n.script ∷ []) (name_has_no_space n.bookings f.bookings)
    (word_in_front n.script [] (name_has_no_space n.script f.script) (λ k d h. absurd (omega arith))))))

-- a byte that is no line's end, and then more
no_end_behind : (b : ℕ) (bs : List ℕ) → b ≢ 10 → HasNoEnd bs → HasNoEnd (b ∷ bs)
no_end_behind b bs first rest zero d h = first
no_end_behind b bs first rest (suc k) d h = rest k d (omega arith)

behind_no_end : (w : Word) (ws : List Word) → HasNoEnd w → HasNoEnd (words_behind ws) → HasNoEnd (words_behind (w ∷ ws))
behind_no_end w ws first rest = no_end_behind 32 (w ++ words_behind ws) (λ e. omega (arith, e)) (All-append (λ b. b ≢ 10) w (words_behind ws) first rest)

pub names_no_end : (n : FiveNames) → IsTrue (is_named n) → HasNoEnd (names_line n)
names_no_end n is =
    let f = five n is in
    All-append (λ b. b ≢ 10) n.hotel (words_behind (other_names n)) (name_has_no_end n.hotel f.hotel)
    (behind_no_end n.stays (n.forecast ∷ n.bookings ∷ n.script ∷ []) (name_has_no_end n.stays f.stays)
    (behind_no_end n.forecast (n.bookings ∷ n.script ∷ []) (name_has_no_end n.forecast f.forecast)
    (behind_no_end n.bookings (n.script ∷ []) (name_has_no_end n.bookings f.bookings)
    (behind_no_end n.script [] (name_has_no_end n.script f.script) (λ k d h. absurd (omega arith))))))

-- the words of a line of names are the names
pub split_names : (n : FiveNames) → IsTrue (is_named n) → split (names_line n) ≡ n.hotel ∷ other_names n
split_names n is = split_joined n.hotel (other_names n) (names_lack n is)

names_told : (n m : FiveNames) → n.hotel ≡ m.hotel → other_names n ≡ other_names m → n ≡ m
names_told n m hotel others =
    let made : Word → Word → Word → Word → Word → FiveNames = λ a b c d e. record { hotel = a; stays = b; forecast = c; bookings = d; script = e } in
    let stays : n.stays ≡ m.stays = cc in
    let forecast : n.forecast ≡ m.forecast = cc in
    let bookings : n.bookings ≡ m.bookings = cc in
    let script : n.script ≡ m.script = cc in
    ap (λ w. made w n.stays n.forecast n.bookings n.script) hotel
    ∙ ap (λ w. made m.hotel w n.forecast n.bookings n.script) stays
    ∙ ap (λ w. made m.hotel m.stays w n.bookings n.script) forecast
    ∙ ap (λ w. made m.hotel m.stays m.forecast w n.script) bookings
    ∙ ap (λ w. made m.hotel m.stays m.forecast m.bookings w) script

pub names_injective : (n m : FiveNames) → IsTrue (is_named n) → IsTrue (is_named m) → names_line n ≡ names_line m → n ≡ m
names_injective n m is also e =
    let parts = joined_injective n.hotel m.hotel (other_names n) (other_names m) (names_lack n is) (names_lack m also) e in
    names_told n m parts.0 parts.1

-- a line with other words is none of names
pub not_names : (line : Line) (words : List Word) → split line ≡ words → ((n : FiveNames) → Five n → words ≡ n.hotel ∷ other_names n → ⊥) → IsNamesLine line → ⊥
not_names line words are other (n, is, e) = other n (five n is) (sym are ∙ ap split e ∙ split_names n is)
