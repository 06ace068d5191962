-- What `clap` makes of five plain words, and of `--workers` with a sixth: a word that does not begin with `-` goes to
-- what waits for it.
use Rattle.std.proofs.Common.{Bool, ◌&&◌, subst, ◌≡◌, ◌≢◌, ◌==◌, ℕ, true, false, List, [], ◌∷◌, Option, Some, None, codes, refl, sym, ap, ◌∙◌, ne_eqb}
use Rattle.clap.specs.Walk.{
  Held,
  Names,
  Row,
  Rule,
  Step,
  Text,
  Waiting,
  Walk,
  positional,
  to_positional,
  arg_by_index,
  finished,
  settled,
  idle,
  option,
  value,
  walked,
  walk,
  walk_from,
  word_met,
  plain_word,
  after_step,
  nothing_held,
  first_of,
}
use Rattle.clap.specs.Simple.{App, built, is_simple, matches_of, Shape, entered}
use Rattle.clap.specs.Takes.{takes, step_passes, turn_passes, walk_passes, word_passes, settle_passes, default_passes, is_valid, entered_passes}
use Rattle.std.specs.List.{list_all}
use Rattle.std.specs.Prelude.{is_some}
use Rattle.clap.proofs.OnLiterals.{clap_on_literals}
use Rattle.bp_cli.specs.Words.{IsFileName}
use Rattle.bp_cli.specs.Tasks.{FiveNames, AreFileNames, workers_words}
use Rattle.bp_cli.specs.Clap.{DeskLine, IsPlainLine, IsPlainOption, Gives, words_of, desk_app}

abbrev pub rules : List Rule
rules = (built desk_app).top.rules

pub simple : is_simple desk_app ≡ true
unfolding clap_on_literals
simple = refl

-- a word that does not begin with `-` goes to what waits for it
plain : (c : List Rule) (waiting : Waiting) (position x : ℕ) (xs : List ℕ) (h : Held) → x ≢ 45 →
    word_met c [] false waiting position (x ∷ xs) h ≡ plain_word c waiting (x ∷ xs) h
plain c idle position x xs h n = let e : (x == 45) ≡ false = ne_eqb _ _ n in rw (e, e) refl
plain c (option id) position x xs h n = let e : (x == 45) ≡ false = ne_eqb _ _ n in rw (e, e) refl
plain c positional position x xs h n = let e : (x == 45) ≡ false = ne_eqb _ _ n in rw (e, e) refl

-- the walk at a position, where nothing waits
abbrev at : ℕ → Held → Walk
at position h = record { held = h; waiting = idle; position = position; is_trailing = false; stopped = None }

-- what is held after one plain word more, and an option's value
abbrev then : ℕ → Held → Text → Held
then position h word = (to_positional rules (arg_by_index rules position) word (at position h) h).held

goes : (position : ℕ) (h : Held) (word : Text) → IsFileName word →
    walked rules [] (at position h) word ≡ to_positional rules (arg_by_index rules position) word (at position h) h
unfolding walked
goes position h [] p = absurd p
goes position h (x ∷ xs) p = ap (λ (met : Held × Step). after_step rules (x ∷ xs) (at position h) met.0 met.1) (plain rules idle position x xs h p)

abbrev five : Text → Text → Text → Text → Text → Held
five a b c d e = then 5 (then 4 (then 3 (then 2 (then 1 nothing_held a) b) c) d) e

walk_five : (a b c d e : Text) → IsFileName a → IsFileName b → IsFileName c → IsFileName d → IsFileName e
    → walk rules [] nothing_held (a ∷ b ∷ c ∷ d ∷ e ∷ []) ≡ at 6 (five a b c d e)
unfolding clap_on_literals
walk_five a b c d e pa pb pc pd pe =
    let w = walked rules [] in
    ap (λ (z : Walk). w (w (w (w z b) c) d) e) (goes 1 nothing_held a pa)
    ∙ ap (λ (z : Walk). w (w (w z c) d) e) (goes 2 (then 1 nothing_held a) b pb)
    ∙ ap (λ (z : Walk). w (w z d) e) (goes 3 (then 2 (then 1 nothing_held a) b) c pc)
    ∙ ap (λ (z : Walk). w z e) (goes 4 (then 3 (then 2 (then 1 nothing_held a) b) c) d pd)
    ∙ goes 5 (then 4 (then 3 (then 2 (then 1 nothing_held a) b) c) d) e pe

abbrev top : Shape
top = (built desk_app).top

and_true : (a b : Bool) → a ≡ true → b ≡ true → (a && b) ≡ true
and_true a b p q = rw (p, q) refl

word_ok : (h : Held) (waiting : Waiting) (x : ℕ) (xs : List ℕ) → x ≢ 45 → word_passes top [] false waiting (x ∷ xs) h ≡ true
word_ok h idle x xs p = let e : (x == 45) ≡ false = ne_eqb _ _ p in rw (e, e) refl
word_ok h (option id) x xs p = let e : (x == 45) ≡ false = ne_eqb _ _ p in rw (e, e) refl
word_ok h positional x xs p = let e : (x == 45) ≡ false = ne_eqb _ _ p in rw (e, e) refl

pass_step : (position : ℕ) (h : Held) (word : Text) (rest : List Text) (w : Walk) → IsFileName word → step_passes top position h value ≡ true
    → to_positional rules (arg_by_index rules position) word (at position h) h ≡ w → walk_passes top [] w rest ≡ true →
    walk_passes top [] (at position h) (word ∷ rest) ≡ true
unfolding walk_passes
pass_step position h [] rest w p step moved more = absurd p
pass_step position h (x ∷ xs) rest w p step moved more =
    let met = plain rules idle position x xs h p in
    let going = goes position h (x ∷ xs) p in
    and_true _ _ (and_true _ _ (word_ok h idle x xs p) (subst (λ (m : Held × Step). step_passes top position m.0 m.1 ≡ true) (sym met) step))
    (subst (λ (z : Walk). walk_passes top [] z rest ≡ true) (sym (going ∙ moved)) more)

passes_five : (n : DeskLine) (rest : List Text) → IsPlainLine n →
    walk_passes top [] (at 6 (five n.names.hotel n.names.stays n.names.forecast n.names.bookings n.names.last)) rest ≡ true
    → walk_passes top [] (walk_from nothing_held) (n.names.hotel ∷ n.names.stays ∷ n.names.forecast ∷ n.names.bookings ∷ n.names.last ∷ rest) ≡ true
unfolding clap_on_literals
passes_five n rest p more =
    let one = then 1 nothing_held n.names.hotel in
    let two = then 2 one n.names.stays in
    let three = then 3 two n.names.forecast in
    let four = then 4 three n.names.bookings in
    pass_step 1 nothing_held n.names.hotel (n.names.stays ∷ n.names.forecast ∷ n.names.bookings ∷ n.names.last ∷ rest) (at 2 one) p.names.hotel refl refl
    (pass_step 2 one n.names.stays (n.names.forecast ∷ n.names.bookings ∷ n.names.last ∷ rest) (at 3 two) p.names.stays refl refl
    (pass_step 3 two n.names.forecast (n.names.bookings ∷ n.names.last ∷ rest) (at 4 three) p.names.forecast refl refl
    (pass_step 4 three n.names.bookings (n.names.last ∷ rest) (at 5 four) p.names.bookings refl refl
    (pass_step 5 four n.names.last rest (at 6 (then 5 four n.names.last)) p.names.last refl refl more))))

-- after `--workers`
abbrev asked : Held → Walk
asked h = record {
  held = record { rows = (settled rules h).rows; pending = Some (codes "workers", []); skip = 0 };
  waiting = option (codes "workers");
  position = 6;
  is_trailing = false;
  stopped = None;
}

abbrev told : Held → Text → Held
told h w = record { rows = (settled rules h).rows; pending = Some (codes "workers", w ∷ []); skip = 0 }

asks : (a b c d e : Text) → walked rules [] (at 6 (five a b c d e)) (codes "--workers") ≡ asked (five a b c d e)
unfolding clap_on_literals
asks a b c d e = refl

tells : (h : Held) (w : Text) → IsFileName w → walked rules [] (asked h) w ≡ at 6 (told h w)
unfolding walked
tells h [] p = absurd p
tells h (x ∷ xs) p = ap (λ (met : Held × Step). after_step rules (x ∷ xs) (asked h) met.0 met.1)
    (plain rules (option (codes "workers")) 6 x xs (asked h).held p)

abbrev at_end : DeskLine → Option Text → Held
at_end n None = five n.names.hotel n.names.stays n.names.forecast n.names.bookings n.names.last
at_end n (Some w) = told (five n.names.hotel n.names.stays n.names.forecast n.names.bookings n.names.last) w

walk_all : (n : DeskLine) (o : Option Text) → IsPlainLine n → IsPlainOption o →
    walk rules [] nothing_held (n.names.hotel ∷ n.names.stays ∷ n.names.forecast ∷ n.names.bookings ∷ n.names.last ∷ workers_words o) ≡ at 6 (at_end n o)
unfolding clap_on_literals
walk_all n None p q = walk_five n.names.hotel n.names.stays n.names.forecast n.names.bookings n.names.last p.names.hotel p.names.stays p.names.forecast
    p.names.bookings p.names.last
walk_all n (Some w) p q =
    let f = five n.names.hotel n.names.stays n.names.forecast n.names.bookings n.names.last in
    ap (λ (z : Walk). walked rules [] (walked rules [] z (codes "--workers")) w)
    (walk_five n.names.hotel n.names.stays n.names.forecast n.names.bookings n.names.last p.names.hotel p.names.stays p.names.forecast p.names.bookings
    p.names.last)
    ∙ ap (λ (z : Walk). walked rules [] z w) (asks n.names.hotel n.names.stays n.names.forecast n.names.bookings n.names.last) ∙ tells f w q

pass_last : (h : Held) (w : Text) → IsFileName w → walk_passes top [] (asked h) (w ∷ []) ≡ true
unfolding walk_passes
pass_last h [] p = absurd p
pass_last h (x ∷ xs) p =
    let met = plain rules (option (codes "workers")) 6 x xs (asked h).held p in
    and_true _ _ (and_true _ _ (word_ok (asked h).held (option (codes "workers")) x xs p)
    (subst (λ (m : Held × Step). step_passes top 6 m.0 m.1 ≡ true) (sym met) refl)) refl

turn_ask : (a b c d e : Text) → turn_passes top [] (at 6 (five a b c d e)) (codes "--workers") ≡ true
unfolding clap_on_literals
turn_ask a b c d e = refl

pass_ask : (a b c d e w : Text) → IsFileName w → walk_passes top [] (at 6 (five a b c d e)) (codes "--workers" ∷ w ∷ []) ≡ true
unfolding walk_passes
pass_ask a b c d e w p =
    and_true _ _ (turn_ask a b c d e) (subst (λ (z : Walk). walk_passes top [] z (w ∷ []) ≡ true) (sym (asks a b c d e)) (pass_last (five a b c d e) w p))

pass_none : (w : Walk) → walk_passes top [] w [] ≡ true
unfolding walk_passes
pass_none w = refl

walk_passes_all : (n : DeskLine) (o : Option Text) → IsPlainLine n → IsPlainOption o
    → walk_passes top [] (walk_from nothing_held) (n.names.hotel ∷ n.names.stays ∷ n.names.forecast ∷ n.names.bookings ∷ n.names.last ∷ workers_words o) ≡ true
walk_passes_all n None p q = passes_five n [] p (pass_none (at 6 (five n.names.hotel n.names.stays n.names.forecast n.names.bookings n.names.last)))
walk_passes_all n (Some w) p q =
    passes_five n (codes "--workers" ∷ w ∷ []) p (pass_ask n.names.hotel n.names.stays n.names.forecast n.names.bookings n.names.last w q)

rows_are : (n : DeskLine) (o : Option Text) →
    Gives (record n { workers = o }) (first_of (codes "hotel") (finished rules (at_end n o))) (first_of (codes "stays") (finished rules (at_end n o)))
    (first_of (codes "forecast") (finished rules (at_end n o)))
    (first_of (codes "bookings") (finished rules (at_end n o))) (first_of (codes "script") (finished rules (at_end n o)))
    (first_of (codes "workers") (finished rules (at_end n o)))
unfolding clap_on_literals
rows_are n None = record { hotel_is = refl; stays_is = refl; forecast_is = refl; bookings_is = refl; script_is = refl; workers_is = refl }
rows_are n (Some w) = record { hotel_is = refl; stays_is = refl; forecast_is = refl; bookings_is = refl; script_is = refl; workers_is = refl }

abbrev pub GivesRows : DeskLine → List Row → Type 0
GivesRows n rows = Gives n (first_of (codes "hotel") rows) (first_of (codes "stays") rows) (first_of (codes "forecast") rows)
    (first_of (codes "bookings") rows) (first_of (codes "script") rows) (first_of (codes "workers") rows)

pub reads : (n : DeskLine) → IsPlainLine n → GivesRows n (matches_of desk_app (words_of n))
reads n p = subst (λ (z : Walk). GivesRows n (finished rules z.held)) (sym (walk_all n n.workers p p.workers)) (rows_are n n.workers)

abbrev Ends : DeskLine → Walk → Type 0
Ends n z = (entered_passes (built desk_app) z.stopped && (walk_passes top [] (walk_from nothing_held) (words_of n)
    && (settle_passes rules false z.held &&
    (list_all default_passes rules && is_valid top (finished rules z.held) (is_some (entered (built desk_app) z.stopped)))))) ≡ true

ends : (n : DeskLine) (o : Option Text) →
    (settle_passes rules false (at_end n o) && (list_all default_passes rules && is_valid top (finished rules (at_end n o)) false)) ≡ true
unfolding clap_on_literals
ends n None = refl
ends n (Some w) = refl

pub takes_words : (n : DeskLine) → IsPlainLine n → takes desk_app (words_of n) ≡ true
takes_words n p = subst (Ends n) (sym (walk_all n n.workers p p.workers)) (and_true _ _ (walk_passes_all n n.workers p p.workers) (ends n n.workers))
