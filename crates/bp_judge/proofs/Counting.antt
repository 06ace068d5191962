-- How many searches are counted.
use Rattle.std.proofs.Common.{
  ◌≡◌,
  ℕ,
  zero,
  suc,
  ◌+◌,
  ◌-◌,
  ◌≤◌,
  ◌∙◌,
  refl,
  ap,
  sym,
  subst,
  arith,
  Bool,
  true,
  false,
  nat_lt,
  if◌then◌else◌,
  [],
  ◌∷◌,
  ◌++◌,
  length,
  Option,
  Some,
  None,
}
use Rattle.std.proofs.lemmas.Bool.{le-ltb, both_ways}
use Rattle.std.proofs.lemmas.List.{length-append}
use Rattle.std.proofs.Math.Seq.{take-append_seam, get_or-append_seam}
use Rattle.bp_types.specs.declared.stay.Span.{Span}
use Rattle.bp_types.specs.declared.command.Command.TheVariants.{Group}
use Rattle.bp_types.specs.House.{Inn}
use Rattle.bp_types.specs.Program.{Program}
use Rattle.bp_types.specs.Sums.{sum_below}
use Rattle.bp_flow.specs.Rising.{searches_from_nothing}
use Rattle.bp_flow.specs.Solvers.{CountsUpTo}
use Rattle.bp_core.specs.declared.line.Act.TheVariants.{Do}
use Rattle.bp_core.specs.declared.line.Line.{Line}
use Rattle.bp_core.specs.Acting.{Diary}
use Rattle.bp_core.specs.Instance.{instance_of, instance_at}
use Rattle.bp_core.specs.Lines.{History, line_at, no_line}
use Rattle.bp_judge.specs.declared.replay.Replay.{Replay}
use Rattle.bp_judge.specs.Searches.{
  wants_quote,
  last_quoted,
  moved_between,
  most_moved,
  searches_to_solve,
  searches_to_quote,
  searches_of,
  searches_at,
  most_searches,
}
use Rattle.bp_judge.proofs.Rooms.{now_of}

-- no more than the one of two numbers that is taken
within_either : (b : Bool) (n x y : ℕ) → (b ≡ true → n ≤ x) → (b ≡ false → n ≤ y) → n ≤ (if b then x else y)
within_either true n x y first second = first refl
within_either false n x y first second = second refl

-- a solver that catches up with all that is moved
pub counts_along : (h : Inn) (H : History) (o : Option ℕ) (a b position until : ℕ) → o ≡ Some position → until ≡ length H → CountsUpTo a b (most_moved h) →
    CountsUpTo a b (moved_between h H position until) → CountsUpTo a b (searches_to_solve h H o)
counts_along h H o a b position until some end few moved =
    let P : Option ℕ → Type 0 = λ q. CountsUpTo a b (searches_to_solve h H q) in
    let whole = ap (moved_between h H position) end in
    let bound = within_either (nat_lt (moved_between h H position (length H)) (most_moved h)) (b - a) (moved_between h H position (length H))
    (most_moved h + searches_from_nothing (instance_of h H))
    (λ _. omega (arith, moved.1, whole)) (λ _. omega (arith, few.1)) in
    subst P (sym some) (moved.0, omega (arith, moved.0, bound))

-- one from which too much is moved, and then a solve from nothing
pub counts_anew : (h : Inn) (H : History) (o : Option ℕ) (a b c position until at : ℕ) (p : Program) → o ≡ Some position → until ≡ length H →
    CountsUpTo a b (most_moved h) → most_moved h ≤ moved_between h H position until →
    at ≡ length H → p ≡ instance_at h H at → CountsUpTo b c (searches_from_nothing p) → CountsUpTo a c (searches_to_solve h H o)
counts_anew h H o a b c position until at p some end few much stands is anew =
    let P : Option ℕ → Type 0 = λ q. CountsUpTo a c (searches_to_solve h H q) in
    let whole = ap (moved_between h H position) end in
    let own = ap searches_from_nothing (now_of h H at p stands is) in
    let wrong = le-ltb (moved_between h H position (length H)) (most_moved h) (omega (arith, much, whole)) in
    let bound = within_either (nat_lt (moved_between h H position (length H)) (most_moved h)) (c - a) (moved_between h H position (length H))
    (most_moved h + searches_from_nothing (instance_of h H))
    (λ right. absurd (both_ways _ wrong right)) (λ _. omega (arith, few.0, few.1, anew.0, anew.1, own)) in
    subst P (sym some) (omega (arith, few.0, anew.0), omega (arith, few.0, anew.0, bound))

-- the first solver
pub counts_first : (h : Inn) (H : History) (o : Option ℕ) (a b at : ℕ) (p : Program) → o ≡ None → at ≡ length H → p ≡ instance_at h H at →
    CountsUpTo a b (searches_from_nothing p) → CountsUpTo a b (searches_to_solve h H o)
counts_first h H o a b at p none stands is anew =
    let P : Option ℕ → Type 0 = λ q. CountsUpTo a b (searches_to_solve h H q) in
    let own = ap searches_from_nothing (now_of h H at p stands is) in
    subst P (sym none) (anew.0, omega (arith, anew.1, own))

-- a Group that wants a quote
pub counts_quoted : (h : Inn) (H : History) (span : Span) (rooms amount a b : ℕ) (o : Option ℕ) → wants_quote h H (Do (Group span rooms amount)) ≡ true →
    o ≡ last_quoted h H → CountsUpTo a b (searches_to_solve h H o + searches_to_quote h rooms) →
    CountsUpTo a b (searches_of h H (Do (Group span rooms amount)))
counts_quoted h H span rooms amount a b o wants last counts =
    let same = ap (searches_to_solve h H) last in
    let bound = within_either (wants_quote h H (Do (Group span rooms amount))) (b - a) (searches_to_solve h H (last_quoted h H) + searches_to_quote h rooms) 0
    (λ _. omega (arith, counts.1, same)) (λ wrong. absurd (both_ways _ wrong wants)) in
    (counts.0, omega (arith, counts.0, bound))

-- a sum over more numbers is no smaller
sum_below-grows : (f : ℕ → ℕ) (m n : ℕ) → sum_below f m ≤ sum_below f (m + n)
sum_below-grows f m zero = let last = ap (sum_below f) (let e : m + zero ≡ m = omega arith in e) in omega (arith, last)
sum_below-grows f m (suc n) =
    let next : m + suc n ≡ suc (m + n) = omega arith in
    let more = sum_below-grows f m n in
    let last = ap (sum_below f) next in
    omega (arith, more, last)

-- the next line of a journal stands after those that were read
at_next : (h : Inn) (lines G left rest : History) (x : Line) → lines ≡ G ++ left → left ≡ x ∷ rest →
    searches_at h lines (length G) ≡ searches_of h G x.entry.act
at_next h lines G left rest x is next =
    let whole : lines ≡ G ++ x ∷ rest = is ∙ ap (λ (K : History). G ++ K) next in
    ap (λ (K : History). searches_at h K (length G)) whole
    ∙ ap (λ (K : History). searches_of h K (line_at (G ++ x ∷ rest) (length G)).entry.act) (take-append_seam G (x ∷ rest))
    ∙ ap (λ (y : Line). searches_of h G y.entry.act) (get_or-append_seam G x rest no_line)

-- with the next line's as many as the lines up to it may want
pub counts_next : (h : Inn) (book : Diary) (lines left rest : History) (x : Line) (a b c : ℕ) → book.house ≡ h → lines ≡ book.history ++ left →
    left ≡ x ∷ rest →
    CountsUpTo a b (sum_below (searches_at h lines) (length book.history)) → CountsUpTo b c (searches_of book.house book.history x.entry.act) →
    CountsUpTo a c (sum_below (searches_at h lines) (length book.history + 1))
counts_next h book lines left rest x a b c house is next before here =
    let n = length book.history in
    let one : n + 1 ≡ suc n = omega arith in
    let last = ap (sum_below (searches_at h lines)) one in
    let same = at_next h lines book.history left rest x is next in
    let own = ap (λ (i : Inn). searches_of i book.history x.entry.act) house in
    (omega (arith, before.0, here.0), omega (arith, before.1, here.1, last, same, own))

-- and so no more than all lines
pub counts_all : (h : Inn) (lines : History) (a b n : ℕ) → n ≤ length lines → CountsUpTo a b (sum_below (searches_at h lines) n) →
    CountsUpTo a b (most_searches h lines)
counts_all h lines a b n within counts =
    let more = sum_below-grows (searches_at h lines) n (length lines - n) in
    let whole = ap (sum_below (searches_at h lines)) (let e : n + (length lines - n) ≡ length lines = omega (arith, within) in e) in
    (counts.0, omega (arith, counts.1, more, whole))

-- the line that stops the judge
pub counts_stop : (h : Inn) (book : Diary) (lines left rest : History) (x : Line) (a b c : ℕ) → book.house ≡ h → lines ≡ book.history ++ left →
    left ≡ x ∷ rest →
    CountsUpTo a b (sum_below (searches_at h lines) (length book.history)) → CountsUpTo b c (searches_of book.house book.history x.entry.act) →
    CountsUpTo a c (most_searches h lines)
counts_stop h book lines left rest x a b c house is next before here =
    let size = ap length (is ∙ ap (λ (K : History). book.history ++ K) next) ∙ length-append book.history (x ∷ rest) in
    counts_all h lines a c (length book.history + 1) (omega (arith, size)) (counts_next h book lines left rest x a b c house is next before here)

-- the end of the journal
pub counts_end : (h : Inn) (lines G left : History) (a b : ℕ) → lines ≡ G ++ left → CountsUpTo a b (sum_below (searches_at h lines) (length G)) →
    CountsUpTo a b (most_searches h lines)
counts_end h lines G left a b is counts =
    let size = ap length is ∙ length-append G left in
    counts_all h lines a b (length G) (omega (arith, size)) counts

-- one line more was read
pub counts_on : (h : Inn) (old new : Replay) (lines left rest : History) (x : Line) (a b c : ℕ) → old.book.house ≡ h → lines ≡ old.book.history ++ left →
    left ≡ x ∷ rest →
    new.book ≡ record { house = old.book.house; history = old.book.history ++ x ∷ [] } →
    CountsUpTo a b (sum_below (searches_at h lines) (length old.book.history)) → CountsUpTo b c (searches_of old.book.house old.book.history x.entry.act) →
    CountsUpTo a c (sum_below (searches_at h lines) (length new.book.history))
counts_on h old new lines left rest x a b c house is next added before here =
    let size : length new.book.history ≡ length old.book.history + 1 = ap (λ (d : Diary). length d.history) added ∙ length-append old.book.history (x ∷ []) in
    let P : ℕ → Type 0 = λ n. CountsUpTo a c (sum_below (searches_at h lines) n) in
    subst P (sym size) (counts_next h old.book lines left rest x a b c house is next before here)
