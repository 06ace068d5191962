-- The first lines of a run: the opener's vector, and the Enrols in order.
use Rattle.std.proofs.Common.{
  ◌≡◌,
  ℕ,
  zero,
  suc,
  ◌+◌,
  ◌<◌,
  ◌≤◌,
  ◌==◌,
  Bool,
  true,
  false,
  cond,
  List,
  [],
  ◌∷◌,
  ◌++◌,
  length,
  refl,
  sym,
  ap,
  subst,
  ◌∙◌,
  arith,
  append-nil,
  append_assoc,
  length-append,
  eq-eqb,
}
use mathlib.Core.Logic.{dite}
use native.Mathlib.Decide.{ℕ_discrete, dec_lt}
use Rattle.std.proofs.lemmas.Bool.{ne_eqb}
use Rattle.std.proofs.lemmas.List.Elements.{filter-append}
use Rattle.bp_turn.specs.Prefix.{IsPrefix}
use Rattle.bp_core.specs.declared.line.Line.{Line}
use Rattle.bp_core.specs.declared.line.Reply.TheVariants.{Done}
use Rattle.bp_core.specs.declared.call.Call.TheVariants.{Enrol}
use Rattle.bp_core.specs.Lines.{History, line_at, is_by, calls}
use Rattle.bp_core.specs.Callers.{is_enrol}
use Rattle.bp_core.specs.Acting.{line_of}
use Rattle.bp_core.proofs.Pushes.{line_at-old, line_at-new}
use Rattle.bp_core.specs.Counting.{HasInOrder}
use Rattle.bp_core.proofs.Quietly.{just_these}
use Rattle.bp_desk_run.specs.Beginnings.{first_lines}

pub length-first_lines : (o : Line) (n : ℕ) → length (first_lines o n) ≡ n + 1
length-first_lines o zero = refl
length-first_lines o (suc n) = omega (arith, length-first_lines o n, length-append (first_lines o n) (line_of (suc n) Enrol Done ∷ []))

-- the Enrol of a caller stands at the place of its number
pub enrol_at : (o : Line) (n c : ℕ) → 1 ≤ c → c ≤ n → line_at (first_lines o n) c ≡ line_of c Enrol Done
enrol_at o zero c low high = absurd (omega (arith, low, high))
enrol_at o (suc n) c low high = dite (ℕ_discrete c (suc n))
    (λ is.
    let e : suc n ≡ length (first_lines o n) = omega (arith, length-first_lines o n) in
    ap (line_at (first_lines o (suc n))) (is ∙ e) ∙ line_at-new (first_lines o n) (line_of (suc n) Enrol Done) ∙ ap (λ k. line_of k Enrol Done) (sym is))
    (λ other. line_at-old (first_lines o n) (line_of (suc n) Enrol Done) c (omega (arith, other, high, length-first_lines o n)) ∙
    enrol_at o n c low (omega (arith, other, high)))

one_by : (c m : ℕ) (b : Bool) → (m == c) ≡ b → calls (line_of m Enrol Done ∷ []) c ≡ cond b (line_of m Enrol Done ∷ []) []
one_by c m b e = ap (λ (t : Bool). cond t (line_of m Enrol Done ∷ []) []) e

push_other : (o : Line) (n c : ℕ) → (suc n ≡ c → ⊥) → calls (first_lines o (suc n)) c ≡ calls (first_lines o n) c
push_other o n c other = filter-append (is_by c) (first_lines o n) (line_of (suc n) Enrol Done ∷ []) ∙
    ap (λ l. calls (first_lines o n) c ++ l) (one_by c (suc n) false (ne_eqb (suc n) c other)) ∙ append-nil (calls (first_lines o n) c)

pub opener_calls : (o : Line) (n : ℕ) → o.entry.caller ≡ 0 → calls (first_lines o n) 0 ≡ o ∷ []
opener_calls o zero by = ap (λ (b : Bool). cond b (o ∷ []) []) (eq-eqb o.entry.caller 0 by)
opener_calls o (suc n) by = push_other o n 0 (λ e. absurd (omega (arith, e))) ∙ opener_calls o n by

pub no_calls_above : (o : Line) (n c : ℕ) → o.entry.caller ≡ 0 → n < c → calls (first_lines o n) c ≡ []
no_calls_above o zero c by lt = ap (λ (b : Bool). cond b (o ∷ []) []) (ne_eqb o.entry.caller c (λ e. absurd (omega (arith, e, by, lt))))
no_calls_above o (suc n) c by lt = push_other o n c (λ e. absurd (omega (arith, e, lt))) ∙ no_calls_above o n c by (omega (arith, lt))

pub enrolled_calls : (o : Line) (n c : ℕ) → o.entry.caller ≡ 0 → 1 ≤ c → c ≤ n → calls (first_lines o n) c ≡ line_of c Enrol Done ∷ []
enrolled_calls o zero c by low high = absurd (omega (arith, low, high))
enrolled_calls o (suc n) c by low high = dite (ℕ_discrete (suc n) c)
    (λ is. filter-append (is_by c) (first_lines o n) (line_of (suc n) Enrol Done ∷ [])
    ∙ ap (λ l. l ++ calls (line_of (suc n) Enrol Done ∷ []) c) (no_calls_above o n c by (omega (arith, is)))
    ∙ one_by c (suc n) true (eq-eqb (suc n) c is) ∙ ap (λ k. line_of k Enrol Done ∷ []) is)
    (λ other. push_other o n c other ∙ enrolled_calls o n c by low (omega (arith, other, high)))

-- lines that stand in a history stand in a longer one
pub in_order_later : (lines G H : History) → IsPrefix G H → HasInOrder lines G → HasInOrder lines H
in_order_later [] G H begins has = tt
in_order_later (x ∷ xs) G H (rest, is) (before, after, at, has) =
    (before, after ++ rest, is ∙ ap (λ l. l ++ rest) at ∙ append_assoc before (x ∷ after) rest, in_order_later xs after (after ++ rest) (rest, refl) has)

-- a line more
pub in_order_push : (lines G mid : History) (x : Line) → HasInOrder lines G → HasInOrder (lines ++ x ∷ []) (G ++ (mid ++ x ∷ []))
in_order_push [] G mid x has = (G ++ mid, [], sym (append_assoc G mid (x ∷ [])), tt)
in_order_push (y ∷ ys) G mid x (before, after, at, has) =
    (before, after ++ (mid ++ x ∷ []), ap (λ l. l ++ (mid ++ x ∷ [])) at ∙ append_assoc before (y ∷ after) (mid ++ x ∷ []), in_order_push ys after mid x has)

pub one_in_order : (o : Line) → HasInOrder (o ∷ []) (o ∷ [])
one_in_order o = ([], [], refl, tt)

-- where the Enrols stand in order, and each caller has just its own, they are the whole history
pub just_enrolled : (o : Line) (n : ℕ) (F : History) → o.entry.caller ≡ 0 → HasInOrder (first_lines o n) F → calls F 0 ≡ o ∷ [] →
    ((c : ℕ) → 1 ≤ c → c ≤ n → calls F c ≡ line_of c Enrol Done ∷ [])
    → ((c : ℕ) → n < c → calls F c ≡ []) → F ≡ first_lines o n
just_enrolled o n F by has zeroth each above = just_these (first_lines o n) F has (λ c. dite (ℕ_discrete c 0)
    (λ z. subst (λ k. calls F k ≡ calls (first_lines o n) k) (sym z) (zeroth ∙ sym (opener_calls o n by)))
    (λ nz. dite (dec_lt n c)
    (λ high. above c high ∙ sym (no_calls_above o n c by high))
    (λ low. each c (omega (arith, nz)) (omega (arith, low)) ∙ sym (enrolled_calls o n c by (omega (arith, nz)) (omega (arith, low))))))
