-- The line of each call asks for its task.
use Rattle.std.proofs.Common.{◌≡◌, ◌∙◌, ℕ, ◌^◌, ◌<◌, refl, sym, ap, subst, arith, List, ◌∷◌, length}
use Rattle.std.specs.Prelude.{codes}
use Rattle.std.specs.Fmt.{decimal}
use Rattle.std.specs.Str.Parse.{digits_value}
use Rattle.std.proofs.lemmas.Fmt.{decimal_nonempty, digits_decimal, digits_value-decimal, length-decimal-le}
use Rattle.std.proofs.lemmas.Str.Parse.{digits_value_short}
use Rattle.bp_types.specs.declared.limits.TheConstants.{MOST_GROUP_ROOMS}
use Rattle.bp_cli.specs.Words.{Word, IsNumber}
use Rattle.bp_cli.specs.Tasks.{Task, Asks, check, solve, group, judge, desk, replay, report, demo, scenarios, sheet, portfolio}
use Rattle.bp_cli.proofs.NumberLemmas.{numerals}
use Rattle.bp_run.specs.Served.{AreServed}
use Rattle.bp_c.specs.Calls.{AreGroupNumbers, line_of_one, line_of_two, group_line}

module _ (p : Word) (is : p ≡ codes "first") where
  pub solve_asked : Asks (line_of_one (codes "solve")) (solve p)
  solve_asked = let P : Word → Type 0 = λ w. Asks (line_of_one (codes "solve")) (solve w) in subst P (sym is) (refl, omega arith)

  pub sheet_asked : Asks (line_of_one (codes "sheet")) (sheet p)
  sheet_asked = let P : Word → Type 0 = λ w. Asks (line_of_one (codes "sheet")) (sheet w) in subst P (sym is) (refl, omega arith)

module _ (p q : Word) (p_is : p ≡ codes "first") (q_is : q ≡ codes "second") where
  pub check_asked : Asks (line_of_two (codes "check")) (check p q)
  check_asked =
      let P : Word → Type 0 = λ w. Asks (line_of_two (codes "check")) (check w q) in
      let Q : Word → Type 0 = λ w. Asks (line_of_two (codes "check")) (check (codes "first") w) in
      subst P (sym p_is) (subst Q (sym q_is) (refl, omega arith, omega arith))

  pub judge_asked : Asks (line_of_two (codes "judge")) (judge p q)
  judge_asked =
      let P : Word → Type 0 = λ w. Asks (line_of_two (codes "judge")) (judge w q) in
      let Q : Word → Type 0 = λ w. Asks (line_of_two (codes "judge")) (judge (codes "first") w) in
      subst P (sym p_is) (subst Q (sym q_is) (refl, omega arith, omega arith))

  pub scenarios_asked : Asks (line_of_two (codes "scenarios")) (scenarios p q)
  scenarios_asked =
      let P : Word → Type 0 = λ w. Asks (line_of_two (codes "scenarios")) (scenarios w q) in
      let Q : Word → Type 0 = λ w. Asks (line_of_two (codes "scenarios")) (scenarios (codes "first") w) in
      subst P (sym p_is) (subst Q (sym q_is) (refl, omega arith, omega arith))

-- a number of at most nine digits, as it is written
number : (n : ℕ) → n < 1000000000 → IsNumber (decimal n) n
number n small = record {
  digits = (decimal_nonempty n (omega (arith, small)), digits_decimal numerals n (omega (arith, small)));
  short = length-decimal-le 9 n (omega arith) (omega (arith, small)) (omega (arith, small));
  value = sym (digits_value-decimal numerals n (omega (arith, small)));
}

-- what is written of a number is that number, and has at most nine digits
number_of : (word : Word) (n m : ℕ) → n < 2 ^ 64 → decimal n ≡ word → IsNumber word m → (m ≡ n) × (n < 1000000000)
number_of word n m fits is number =
    let value : m ≡ n = number.value ∙ ap (digits_value 10) (sym is) ∙ digits_value-decimal numerals n fits in
    (value, omega (arith, value, number.value, digits_value_short numerals word 9 number.digits.1 number.short))

pub group_asked : (p : Word) (from to rooms : ℕ) → p ≡ codes "first" → AreGroupNumbers from to rooms → Asks (group_line from to rooms) (group p from to rooms)
group_asked p from to rooms is are =
    let P : Word → Type 0 = λ w. Asks (group_line from to rooms) (group w from to rooms) in
    subst P (sym is) (record {
      from_word = decimal from;
      to_word = decimal to;
      rooms_word = decimal rooms;
      words_are = refl;
      file_name = omega arith;
      from_is = number from are.small_from;
      to_is = number to are.small_to;
      rooms_is = number rooms (omega (arith, are.few_rooms));
      some_rooms = are.some_rooms;
      few_rooms = are.few_rooms;
    })

-- the line of a group with other numbers asks for nothing
module _ (from to rooms : ℕ) (from_fits : from < 2 ^ 64) (to_fits : to < 2 ^ 64) (rooms_fit : rooms < 2 ^ 64) where
  numbers_of : (task : Task) → Asks (group_line from to rooms) task → AreGroupNumbers from to rooms
  numbers_of (check p c) asks = absurd (let words = asks.0 in cc)
  numbers_of (solve p) asks = absurd (let words = asks.0 in cc)
  numbers_of (group p f t r) asks =
      let words = asks.words_are in
      let f_word : decimal from ≡ asks.from_word = cc in
      let t_word : decimal to ≡ asks.to_word = cc in
      let r_word : decimal rooms ≡ asks.rooms_word = cc in
      let f_is = number_of asks.from_word from f from_fits f_word asks.from_is in
      let t_is = number_of asks.to_word to t to_fits t_word asks.to_is in
      let r_is = number_of asks.rooms_word rooms r rooms_fit r_word asks.rooms_is in
      record {
        small_from = f_is.1;
        small_to = t_is.1;
        some_rooms = omega (arith, r_is.0, asks.some_rooms);
        few_rooms = omega (arith, r_is.0, asks.few_rooms);
      }
  numbers_of (judge p j) asks = absurd (let words = asks.0 in cc)
  numbers_of (desk names workers) asks = absurd (let words = asks.words_are in cc)
  numbers_of (replay names) asks = absurd (let words = asks.0 in cc)
  numbers_of (report names) asks = absurd (let words = asks.0 in cc)
  numbers_of (demo seed nights units stays) asks = absurd (let words = asks.words_are in cc)
  numbers_of (scenarios p c) asks = absurd (let words = asks.0 in cc)
  numbers_of (sheet p) asks = absurd (let words = asks.0 in cc)
  numbers_of (portfolio list workers) asks = absurd (let words = asks.words_are in cc)

  pub group_not_asked : (AreGroupNumbers from to rooms → ⊥) → AreServed (group_line from to rooms) → ⊥
  group_not_asked none (task, asks) = none (numbers_of task asks)
