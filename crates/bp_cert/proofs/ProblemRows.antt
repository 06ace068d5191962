-- The text of a problem as a kind whose rows are the numbers of its lines: none, the nights, the rooms, the stays' count,
-- four for each stay, and none.
use Rattle.std.proofs.Common.{
  ◌≡◌,
  ℕ,
  zero,
  suc,
  ◌+◌,
  ◌-◌,
  ◌≤◌,
  refl,
  ap,
  sym,
  subst,
  ◌∙◌,
  arith,
  List,
  [],
  ◌∷◌,
  ◌++◌,
  length,
  map,
  take,
  All,
  slice_index,
  append_assoc,
  length-append,
}
use Rattle.std.specs.Prelude.{codes, replicate}
use Rattle.std.proofs.Math.ListN.{length-map}
use Rattle.std.proofs.lemmas.List.{append-nil, length-replicate, get_or-replicate}
use Rattle.bp_types.specs.declared.stay.Stay.{Stay}
use Rattle.bp_types.specs.declared.limits.TheConstants.{MOST_NIGHTS, MOST_STAYS, MOST_ROOMS}
use Rattle.bp_types.specs.Program.{Program}
use Rattle.bp_text.specs.Lines.{Line, HasNoEnd, line_of}
use Rattle.bp_text.specs.Forms.{AreWithin}
use Rattle.bp_text.specs.Kinds.{EachRow, row_lines}
use Rattle.bp_text.proofs.EndLemmas.{no_end_in_spelled}
use Rattle.bp_text.proofs.LineLemmas.{line_injective}
use Rattle.bp_text.proofs.NextLemmas.{only_number, no_numbers}
use Rattle.bp_text.proofs.KindLemmas.{IsKind}
use Rattle.bp_cert.specs.Texts.{stay_numbers, stay_lines, problem_lines, IsProblem, IsStayWithin, AreStaysWithin, IsHead}

-- the numbers of each line
abbrev pub Rows : Type 0
Rows = List (List ℕ)

-- how many lines are left, where the stays not yet counted are none
abbrev pub lines_left : Rows → ℕ
lines_left [] = 5
lines_left (a ∷ []) = 4
lines_left (a ∷ b ∷ []) = 3
lines_left (a ∷ b ∷ c ∷ []) = 2
lines_left (a ∷ b ∷ c ∷ d ∷ done) = (slice_index d 0 + 1) - length done

-- with so many lines left behind the head, stands a stay, or the last line, or nothing
abbrev pub tail_word : ℕ → List ℕ
tail_word zero = codes "end"
tail_word (suc zero) = codes "end"
tail_word (suc (suc n)) = codes "stay"

abbrev pub tail_form : ℕ → List ℕ → Type 0
tail_form zero ns = ⊥
tail_form (suc zero) ns = length ns ≡ 0
tail_form (suc (suc n)) ns = length ns ≡ 4

abbrev pub tail_fine : ℕ → ℕ → List ℕ → Type 0
tail_fine nights zero ns = Unit {0}
tail_fine nights (suc zero) ns = Unit {0}
tail_fine nights (suc (suc n)) ns = IsStayWithin nights ns

abbrev tail_plain : ℕ → List ℕ
tail_plain zero = []
tail_plain (suc zero) = []
tail_plain (suc (suc n)) = 0 ∷ 1 ∷ 1 ∷ 0 ∷ []

-- the word of the next line
abbrev word_at : Rows → List ℕ
word_at [] = codes "problem 1"
word_at (a ∷ []) = codes "nights"
word_at (a ∷ b ∷ []) = codes "rooms"
word_at (a ∷ b ∷ c ∷ []) = codes "stays"
word_at (a ∷ b ∷ c ∷ d ∷ done) = tail_word ((slice_index d 0 + 1) - length done)

abbrev pub line_at : Rows → List ℕ → Line
line_at rows ns = line_of (word_at rows) ns

-- which numbers it may have
abbrev pub Form : Rows → List ℕ → Type 0
Form [] ns = length ns ≡ 0
Form (a ∷ []) ns = length ns ≡ 1
Form (a ∷ b ∷ []) ns = length ns ≡ slice_index b 0
Form (a ∷ b ∷ c ∷ []) ns = length ns ≡ 1
Form (a ∷ b ∷ c ∷ d ∷ done) ns = tail_form ((slice_index d 0 + 1) - length done) ns

-- and which of them are within the limits
abbrev pub Fine : Rows → List ℕ → Type 0
Fine [] ns = Unit {0}
Fine (a ∷ []) ns = All (λ n. (1 ≤ n) × (n ≤ MOST_NIGHTS)) ns
Fine (a ∷ b ∷ []) ns = AreWithin (record { most = slice_index b 0; greatest = MOST_ROOMS }) ns
Fine (a ∷ b ∷ c ∷ []) ns = All (λ k. (0 ≤ k) × (k ≤ MOST_STAYS)) ns
Fine (a ∷ b ∷ c ∷ d ∷ done) ns = tail_fine (length c) ((slice_index d 0 + 1) - length done) ns

-- some numbers that may stand there
abbrev pub plain : Rows → List ℕ
plain [] = []
plain (a ∷ []) = 1 ∷ []
plain (a ∷ b ∷ []) = replicate (slice_index b 0) 0
plain (a ∷ b ∷ c ∷ []) = 0 ∷ []
plain (a ∷ b ∷ c ∷ d ∷ done) = tail_plain ((slice_index d 0 + 1) - length done)

-- a stay by its numbers
abbrev pub stay_of : List ℕ → Stay
stay_of ns = record { span = record { from = slice_index ns 0; to = slice_index ns 1 }; rate = slice_index ns 2; forecast = slice_index ns 3 }

-- the rows of a problem, and the problem of rows
abbrev pub head_rows : List ℕ → ℕ → Rows
head_rows rooms stays = [] ∷ (length rooms ∷ []) ∷ rooms ∷ (stays ∷ []) ∷ []

abbrev pub rows_of : Program → Rows
rows_of p = head_rows p.rooms (length p.stays) ++ (map stay_numbers p.stays ++ [] ∷ [])

abbrev pub program_of : Rows → Program
program_of [] = record { rooms = []; stays = [] }
program_of (a ∷ []) = record { rooms = []; stays = [] }
program_of (a ∷ b ∷ []) = record { rooms = []; stays = [] }
program_of (a ∷ b ∷ c ∷ []) = record { rooms = []; stays = [] }
program_of (a ∷ b ∷ c ∷ d ∷ done) = record { rooms = c; stays = map stay_of (take (slice_index d 0) done) }

-- the lines behind the head

tail_no_end : (n : ℕ) (ns : List ℕ) → HasNoEnd (line_of (tail_word n) ns)
tail_no_end zero ns = no_end_in_spelled (codes "end") ns refl
tail_no_end (suc zero) ns = no_end_in_spelled (codes "end") ns refl
tail_no_end (suc (suc n)) ns = no_end_in_spelled (codes "stay") ns refl

no_end : (front : Rows) (ns : List ℕ) → HasNoEnd (line_at front ns)
no_end [] ns = no_end_in_spelled (codes "problem 1") ns refl
no_end (a ∷ []) ns = no_end_in_spelled (codes "nights") ns refl
no_end (a ∷ b ∷ []) ns = no_end_in_spelled (codes "rooms") ns refl
no_end (a ∷ b ∷ c ∷ []) ns = no_end_in_spelled (codes "stays") ns refl
no_end (a ∷ b ∷ c ∷ d ∷ done) ns = tail_no_end ((slice_index d 0 + 1) - length done) ns

ends : (front : Rows) (ns : List ℕ) → lines_left front ≡ 0 → Form front ns → ⊥
ends [] ns none form = omega arith
ends (a ∷ []) ns none form = omega arith
ends (a ∷ b ∷ []) ns none form = omega arith
ends (a ∷ b ∷ c ∷ []) ns none form = omega arith
ends (a ∷ b ∷ c ∷ d ∷ done) ns none form = let P : ℕ → Type 0 = λ n. tail_form n ns in subst P none form

tail_stands : (n : ℕ) → tail_form (suc n) (tail_plain (suc n))
tail_stands zero = refl
tail_stands (suc n) = refl

goes_on : (front : Rows) (n : ℕ) → EachRow Form [] front → lines_left front ≡ suc n → Form front (plain front) × (lines_left (front ++ plain front ∷ []) ≡ n)
goes_on [] n all some = (refl, omega arith)
goes_on (a ∷ []) n all some = (refl, omega arith)
goes_on (a ∷ b ∷ []) n all some = (length-replicate {A = ℕ} (slice_index b 0) 0, omega arith)
goes_on (a ∷ b ∷ c ∷ []) n all some = (refl, omega arith)
goes_on (a ∷ b ∷ c ∷ d ∷ done) n all some =
    let P : ℕ → Type 0 = λ k. tail_form k (tail_plain k) in
    (subst P (sym some) (tail_stands n), omega (arith, some, length-append done (tail_plain ((slice_index d 0 + 1) - length done) ∷ [])))

tail_plain_fine : (nights n : ℕ) → 1 ≤ nights → tail_fine nights n (tail_plain n)
tail_plain_fine nights zero some = tt
tail_plain_fine nights (suc zero) some = tt
tail_plain_fine nights (suc (suc n)) some =
    record { some = omega arith; inside = omega arith; rate = omega arith; small_rate = omega arith; forecast = omega arith }

one_such : (P : ℕ → Type 0) (n : ℕ) → P n → All P (n ∷ [])
one_such P n is zero d h = is
one_such P n is (suc k) d h = absurd (omega arith)

zeros_within : (n : ℕ) → AreWithin (record { most = n; greatest = MOST_ROOMS }) (replicate n 0)
zeros_within n =
    let long = length-replicate {A = ℕ} n 0 in
    (omega (arith, long), λ k d h. let e = get_or-replicate {A = ℕ} n k 0 d (omega (arith, h, long)) in omega (arith, e))

plain_fine : (front : Rows) (n : ℕ) → EachRow Form [] front → EachRow Fine [] front → lines_left front ≡ suc n → Fine front (plain front)
plain_fine [] n all fine some = tt
plain_fine (a ∷ []) n all fine some = one_such (λ n. (1 ≤ n) × (n ≤ MOST_NIGHTS)) 1 (omega arith, omega arith)
plain_fine (a ∷ b ∷ []) n all fine some = zeros_within (slice_index b 0)
plain_fine (a ∷ b ∷ c ∷ []) n all fine some = one_such (λ k. (0 ≤ k) × (k ≤ MOST_STAYS)) 0 (omega arith, omega arith)
plain_fine (a ∷ b ∷ c ∷ d ∷ done) n all fine some =
    let one : length b ≡ 1 = all.1.0 in
    let each : length c ≡ slice_index b 0 = all.1.1.0 in
    let night = fine.1.0 0 0 (omega (arith, one)) in
    tail_plain_fine (length c) ((slice_index d 0 + 1) - length done) (omega (arith, each, night.0))

-- the stays and the last line behind a head that counts them

module _ (a b c d : List ℕ) where
  -- so many lines are left behind the stays so far
  abbrev LeavesTail : Rows → ℕ → Type 0
  LeavesTail before n = (slice_index d 0 + 1) - length before ≡ n

  leaves_less : (before : Rows) (r : List ℕ) (n : ℕ) → LeavesTail before (suc n) → LeavesTail (before ++ r ∷ []) n
  leaves_less before r n leaves = omega (arith, leaves, length-append before (r ∷ []))

  stays_spelt : (before : Rows) (stays : List Stay) → LeavesTail before (suc (length stays))
      → row_lines line_at (a ∷ b ∷ c ∷ d ∷ before) (map stay_numbers stays ++ [] ∷ []) ≡ stay_lines stays
  stays_spelt before [] leaves = ap (λ n. line_of (tail_word n) [] ∷ []) leaves
  stays_spelt before (s ∷ stays) leaves =
      ap (λ n. line_of (tail_word n) (stay_numbers s) ∷ row_lines line_at (a ∷ b ∷ c ∷ d ∷ (before ++ stay_numbers s ∷ []))
      (map stay_numbers stays ++ [] ∷ [])) leaves
      ∙ ap (λ ls. line_of (codes "stay") (stay_numbers s) ∷ ls)
      (stays_spelt (before ++ stay_numbers s ∷ []) stays (leaves_less before (stay_numbers s) (suc (length stays)) leaves))

  stays_formed : (before : Rows) (stays : List Stay) → LeavesTail before (suc (length stays)) →
      EachRow Form (a ∷ b ∷ c ∷ d ∷ before) (map stay_numbers stays ++ [] ∷ [])
  stays_formed before [] leaves = let P : ℕ → Type 0 = λ n. tail_form n [] in (subst P (sym leaves) refl, tt)
  stays_formed before (s ∷ stays) leaves =
      let P : ℕ → Type 0 = λ n. tail_form n (stay_numbers s) in
      (subst P (sym leaves) refl, stays_formed (before ++ stay_numbers s ∷ []) stays (leaves_less before (stay_numbers s) (suc (length stays)) leaves))

  stays_fine : (before : Rows) (stays : List Stay) → LeavesTail before (suc (length stays)) → AreStaysWithin (length c) stays →
      EachRow Fine (a ∷ b ∷ c ∷ d ∷ before) (map stay_numbers stays ++ [] ∷ [])
  stays_fine before [] leaves all = let P : ℕ → Type 0 = λ n. tail_fine (length c) n [] in (subst P (sym leaves) tt, tt)
  stays_fine before (s ∷ stays) leaves all =
      let P : ℕ → Type 0 = λ n. tail_fine (length c) n (stay_numbers s) in (
        subst P (sym leaves) (all 0 s (omega arith)),
        stays_fine (before ++ stay_numbers s ∷ []) stays (leaves_less before (stay_numbers s) (suc (length stays)) leaves)
            (λ k e h. all (suc k) e (omega arith)),
      )

  -- stays alone, where as many lines are left and one more
  pub some_stays_formed : (n : ℕ) (before : Rows) (stays : List Stay) → LeavesTail before (suc (length stays + n)) →
      EachRow Form (a ∷ b ∷ c ∷ d ∷ before) (map stay_numbers stays)
  some_stays_formed n before [] leaves = tt
  some_stays_formed n before (s ∷ stays) leaves =
      let P : ℕ → Type 0 = λ n. tail_form n (stay_numbers s) in
      let more : (slice_index d 0 + 1) - length before ≡ suc (suc (length stays + n)) = omega (arith, leaves) in
      (subst P (sym more) refl, some_stays_formed n (before ++ stay_numbers s ∷ []) stays (leaves_less before (stay_numbers s) (suc (length stays + n)) more))

  pub some_stays_fine : (n : ℕ) (before : Rows) (stays : List Stay) → LeavesTail before (suc (length stays + n)) → AreStaysWithin (length c) stays →
      EachRow Fine (a ∷ b ∷ c ∷ d ∷ before) (map stay_numbers stays)
  some_stays_fine n before [] leaves all = tt
  some_stays_fine n before (s ∷ stays) leaves all =
      let P : ℕ → Type 0 = λ n. tail_fine (length c) n (stay_numbers s) in
      let more : (slice_index d 0 + 1) - length before ≡ suc (suc (length stays + n)) = omega (arith, leaves) in (
        subst P (sym more) (all 0 s (omega arith)),
        some_stays_fine n (before ++ stay_numbers s ∷ []) stays (leaves_less before (stay_numbers s) (suc (length stays + n)) more)
            (λ k e h. all (suc k) e (omega arith)),
      )

  pub some_stays_spelt : (n : ℕ) (before : Rows) (stays : List Stay) → LeavesTail before (suc (length stays + n)) →
      row_lines line_at (a ∷ b ∷ c ∷ d ∷ before) (map stay_numbers stays) ≡ map (λ s. line_of (codes "stay") (stay_numbers s)) stays
  some_stays_spelt n before [] leaves = refl
  some_stays_spelt n before (s ∷ stays) leaves =
      let more : (slice_index d 0 + 1) - length before ≡ suc (suc (length stays + n)) = omega (arith, leaves) in
      ap (λ n. line_of (tail_word n) (stay_numbers s) ∷ row_lines line_at (a ∷ b ∷ c ∷ d ∷ (before ++ stay_numbers s ∷ [])) (map stay_numbers stays)) more
      ∙ ap (λ ls. line_of (codes "stay") (stay_numbers s) ∷ ls)
      (some_stays_spelt n (before ++ stay_numbers s ∷ []) stays (leaves_less before (stay_numbers s) (suc (length stays + n)) more))

  -- rows in the form are stays and the last line
  rows_are_stays : (n : ℕ) (before done : Rows) → LeavesTail before (suc n) → EachRow Form (a ∷ b ∷ c ∷ d ∷ before) done → LeavesTail (before ++ done) 0
      → (map stay_numbers (map stay_of (take n done)) ++ [] ∷ [] ≡ done) × (length (take n done) ≡ n)
  rows_are_stays n before [] leaves all none = absurd (omega (arith, leaves, none, ap length (append-nil before)))
  rows_are_stays zero before (r ∷ done) leaves all none =
      let P : ℕ → Type 0 = λ n. tail_form n r in
      let nothing : r ≡ [] = no_numbers r (subst P leaves all.0) in
      (ap (λ x. x ∷ []) (sym nothing) ∙ ap (λ rs. r ∷ rs) (no_more done all.1), refl)
    where
      no_more : (done : Rows) → EachRow Form (a ∷ b ∷ c ∷ d ∷ (before ++ r ∷ [])) done → [] ≡ done
      no_more [] all = refl
      no_more (t ∷ done) all = absurd (ends (a ∷ b ∷ c ∷ d ∷ (before ++ r ∷ [])) t (leaves_less before r 0 leaves) all.0)
  rows_are_stays (suc n) before (r ∷ done) leaves all none =
      let P : ℕ → Type 0 = λ n. tail_form n r in
      let four : length r ≡ 4 = subst P leaves all.0 in
      let rest = rows_are_stays n (before ++ r ∷ []) done (leaves_less before r (suc n) leaves) all.1
      (omega (arith, none, ap length (append_assoc before (r ∷ []) done))) in
      (ap (λ x. x ∷ (map stay_numbers (map stay_of (take n done)) ++ [] ∷ [])) (stay_again r four) ∙ ap (λ rs. r ∷ rs) rest.0, ap suc rest.1)
    where
      stay_again : (ns : List ℕ) → length ns ≡ 4 → stay_numbers (stay_of ns) ≡ ns
      stay_again [] e = absurd (omega (arith, e))
      stay_again (p ∷ []) e = absurd (omega (arith, e))
      stay_again (p ∷ q ∷ []) e = absurd (omega (arith, e))
      stay_again (p ∷ q ∷ s ∷ []) e = absurd (omega (arith, e))
      stay_again (p ∷ q ∷ s ∷ t ∷ []) e = refl
      stay_again (p ∷ q ∷ s ∷ t ∷ u ∷ ns) e = absurd (omega (arith, e))

  rows_are_fine : (n : ℕ) (before done : Rows) → LeavesTail before (suc n) → EachRow Form (a ∷ b ∷ c ∷ d ∷ before) done →
      EachRow Fine (a ∷ b ∷ c ∷ d ∷ before) done → AreStaysWithin (length c) (map stay_of (take n done))
  rows_are_fine zero before done leaves all fine = λ k e h. absurd (omega arith)
  rows_are_fine (suc n) before [] leaves all fine = λ k e h. absurd (omega arith)
  rows_are_fine (suc n) before (r ∷ done) leaves all fine =
      let P : ℕ → Type 0 = λ n. tail_fine (length c) n r in
      let here : IsStayWithin (length c) r = subst P leaves fine.0 in
      first_and_rest (stay_of r) (map stay_of (take n done)) (record {
        some = here.some;
        inside = here.inside;
        rate = here.rate;
        small_rate = here.small_rate;
        forecast = here.forecast;
      })
      (rows_are_fine n (before ++ r ∷ []) done (leaves_less before r (suc n) leaves) all.1 fine.1)
    where
      first_and_rest : (s : Stay) (ss : List Stay) → IsStayWithin (length c) (stay_numbers s) → AreStaysWithin (length c) ss →
          AreStaysWithin (length c) (s ∷ ss)
      first_and_rest s ss first rest zero e h = first
      first_and_rest s ss first rest (suc k) e h = rest k e (omega arith)

-- the rows of a problem

formed : (p : Program) → EachRow Form [] (rows_of p)
formed p = (refl, (refl, (refl, (refl, stays_formed [] (length p.rooms ∷ []) p.rooms (length p.stays ∷ []) [] p.stays (omega arith)))))

ended : (p : Program) → lines_left (rows_of p) ≡ 0
ended p = omega (arith, length-append (map stay_numbers p.stays) ([] ∷ []), length-map p.stays stay_numbers)

spelt : (p : Program) → problem_lines p ≡ row_lines line_at [] (rows_of p)
spelt p =
    ap (λ ls. codes "problem 1" ∷ line_of (codes "nights") (length p.rooms ∷ []) ∷ line_of (codes "rooms") p.rooms ∷ line_of (codes "stays")
    (length p.stays ∷ []) ∷ ls)
    (sym (stays_spelt [] (length p.rooms ∷ []) p.rooms (length p.stays ∷ []) [] p.stays (omega arith)))

pub head_fine : (rooms : List ℕ) (stays : ℕ) → IsHead rooms stays → EachRow Fine [] (head_rows rooms stays)
head_fine rooms stays head = (
  tt,
  (
    one_such (λ n. (1 ≤ n) × (n ≤ MOST_NIGHTS)) (length rooms) (head.some_night, head.nights),
    ((omega arith, head.few_rooms), (one_such (λ k. (0 ≤ k) × (k ≤ MOST_STAYS)) stays (omega arith, head.few_stays), tt)),
  ),
)

head_of_problem : (p : Program) → IsProblem p → IsHead p.rooms (length p.stays)
head_of_problem p h = record { some_night = h.limits.some_night; nights = h.limits.nights; few_rooms = h.rooms; few_stays = h.limits.stays }

stays_of_problem : (p : Program) → IsProblem p → AreStaysWithin (length p.rooms) p.stays
stays_of_problem p h k d l = record {
  some = (h.limits.spans k d l).0;
  inside = (h.limits.spans k d l).1;
  rate = (h.limits.rates k d l).0;
  small_rate = (h.limits.rates k d l).1;
  forecast = h.limits.forecasts k d l;
}

fine : (p : Program) → IsProblem p → EachRow Fine [] (rows_of p)
fine p within =
    let head = head_fine p.rooms (length p.stays) (head_of_problem p within) in (
      tt,
      (
        head.1.0,
        (
          head.1.1.0,
          (head.1.1.1.0, stays_fine [] (length p.rooms ∷ []) p.rooms (length p.stays ∷ []) [] p.stays (omega arith) (stays_of_problem p within)),
        ),
      ),
    )

value_again : (p : Program) → program_of (rows_of p) ≡ p
value_again p = let made : List Stay → Program = λ ss. record { rooms = p.rooms; stays = ss } in ap made (back p.stays)
  where
    back : (stays : List Stay) → map stay_of (take (length stays) (map stay_numbers stays ++ [] ∷ [])) ≡ stays
    back [] = refl
    back (s ∷ stays) = ap (λ ss. s ∷ ss) (back stays)

rows_again : (rows : Rows) → EachRow Form [] rows → lines_left rows ≡ 0 → rows_of (program_of rows) ≡ rows
rows_again [] all none = absurd (omega arith)
rows_again (a ∷ []) all none = absurd (omega arith)
rows_again (a ∷ b ∷ []) all none = absurd (omega arith)
rows_again (a ∷ b ∷ c ∷ []) all none = absurd (omega arith)
rows_again (a ∷ b ∷ c ∷ d ∷ done) all none =
    let first : a ≡ [] = no_numbers a all.0 in
    let nights = only_number b all.1.0 in
    let each : length c ≡ slice_index b 0 = all.1.1.0 in
    let count = only_number d all.1.1.1.0 in
    let k : ℕ = slice_index d 0 in
    let rest = rows_are_stays a b c d k [] done (omega arith) all.1.1.1.1 none in
    let second : length c ∷ [] ≡ b = ap (λ n. n ∷ []) (each ∙ ap (λ ns. slice_index ns 0) nights.1) ∙ sym nights.1 in
    let counted : length (map stay_of (take k done)) ≡ k = length-map (take k done) stay_of ∙ rest.1 in
    let fourth : length (map stay_of (take k done)) ∷ [] ≡ d = ap (λ n. n ∷ []) (counted ∙ ap (λ ns. slice_index ns 0) count.1) ∙ sym count.1 in
    let tail : Rows = map stay_numbers (map stay_of (take k done)) ++ [] ∷ [] in
    ap (λ x. x ∷ (length c ∷ []) ∷ c ∷ (length (map stay_of (take k done)) ∷ []) ∷ tail) (sym first)
    ∙ ap (λ x. a ∷ x ∷ c ∷ (length (map stay_of (take k done)) ∷ []) ∷ tail) second
    ∙ ap (λ x. a ∷ b ∷ c ∷ x ∷ tail) fourth
    ∙ ap (λ xs. a ∷ b ∷ c ∷ d ∷ xs) rest.0

-- a head and its stays are a problem
pub problem_within : (rooms : List ℕ) (stays : List Stay) → IsHead rooms (length stays) → AreStaysWithin (length rooms) stays →
    IsProblem (record { rooms = rooms; stays = stays })
problem_within rooms stays head all = record {
  limits = record {
    some_night = head.some_night;
    nights = head.nights;
    stays = head.few_stays;
    rooms = λ k d h. let r = head.few_rooms k d h in omega (arith, r);
    spans = λ k d h. let s = all k d h in (s.some, s.inside);
    rates = λ k d h. let s = all k d h in (s.rate, s.small_rate);
    forecasts = λ k d h. (all k d h).forecast;
  };
  rooms = head.few_rooms;
}

within : (rows : Rows) → EachRow Form [] rows → lines_left rows ≡ 0 → EachRow Fine [] rows → IsProblem (program_of rows)
within [] all none fine = absurd (omega arith)
within (a ∷ []) all none fine = absurd (omega arith)
within (a ∷ b ∷ []) all none fine = absurd (omega arith)
within (a ∷ b ∷ c ∷ []) all none fine = absurd (omega arith)
within (a ∷ b ∷ c ∷ d ∷ done) all none fine =
    let k : ℕ = slice_index d 0 in
    let one : length b ≡ 1 = all.1.0 in
    let each : length c ≡ slice_index b 0 = all.1.1.0 in
    let nights = fine.1.0 0 0 (omega (arith, one)) in
    let single : length d ≡ 1 = all.1.1.1.0 in
    let few = fine.1.1.1.0 0 0 (omega (arith, single)) in
    let rest = rows_are_stays a b c d k [] done (omega arith) all.1.1.1.1 none in
    let counted : length (map stay_of (take k done)) ≡ k = length-map (take k done) stay_of ∙ rest.1 in
    problem_within c (map stay_of (take k done))
    (record {
      some_night = omega (arith, each, nights.0);
      nights = omega (arith, each, nights.1);
      few_rooms = fine.1.1.0.1;
      few_stays =
          omega (arith, counted, few.1);
    })
    (rows_are_fine a b c d k [] done (omega arith) all.1.1.1.1 fine.1.1.1.1)

pub problem_kind : IsKind problem_lines IsProblem line_at Form Fine lines_left plain rows_of program_of
problem_kind = record {
  no_end = λ front r form. no_end front r;
  told = λ front r t f g e. line_injective (word_at front) r t e;
  ends = ends;
  goes_on = goes_on;
  plain_fine = plain_fine;
  spelt = spelt;
  formed = formed;
  ended = ended;
  fine = fine;
  value_again = value_again;
  rows_again = rows_again;
  within = within;
}
