-- When nothing more can have been logged.
use Rattle.std.proofs.Common.{◌≡◌, ℕ, ◌≤◌, Bool, true, false, cond, [], ◌∷◌, ◌++◌, length, refl, sym, ap, ◌∙◌, arith, append-nil, length-append, eq-eqb}
use Rattle.std.proofs.lemmas.List.Elements.{filter-append}
use Rattle.bp_core.specs.declared.line.Line.{Line}
use Rattle.bp_core.specs.Lines.{History, calls, is_by}
use Rattle.bp_core.specs.Counting.{NothingMore, HasInOrder, JustThese}

-- the first line's caller has it as its first entry
calls_cons : (x : Line) (xs : History) → calls (x ∷ xs) x.entry.caller ≡ x ∷ calls xs x.entry.caller
calls_cons x xs = ap (λ (b : Bool). cond b (x ∷ calls xs x.entry.caller) (calls xs x.entry.caller)) (eq-eqb x.entry.caller x.entry.caller refl)

pub nothing_more : NothingMore
nothing_more part whole ([], is) same = is ∙ append-nil part
nothing_more part whole (x ∷ rest, is) same =
    let n = x.entry.caller in
    let e : calls whole n ≡ calls part n ++ calls (x ∷ rest) n = ap (λ H. calls H n) is ∙ filter-append (is_by n) part (x ∷ rest) in
    let l = ap length e in
    let m = ap length (same n) in
    let k = ap length (calls_cons x rest) in
    absurd (omega (arith, length-append (calls part n) (calls (x ∷ rest) n), l, m, k))

-- the number of a caller's entries in lines that stand in a history is no greater there
fewer : (lines whole : History) → HasInOrder lines whole → (n : ℕ) → length (calls lines n) ≤ length (calls whole n)
fewer [] whole h n = omega arith
fewer (x ∷ xs) whole (before, after, is, rest) n =
    let r = fewer xs after rest n in
    let e = ap (λ H. length (calls H n)) is in
    let f = ap length (filter-append (is_by n) before (x ∷ after)) in
    let g = length-append (calls before n) (calls (x ∷ after) n) in
    let both : length (calls (x ∷ xs) n) ≤ length (calls (x ∷ after) n) = more (is_by n x) r in
    omega (arith, e, f, g, both)
  where
    more : (b : Bool) → length (calls xs n) ≤ length (calls after n) →
        length (cond b (x ∷ calls xs n) (calls xs n)) ≤ length (cond b (x ∷ calls after n) (calls after n))
    more true r = omega arith
    more false r = r

tails : (x : Line) (xs ys : History) (b : Bool) → cond b (x ∷ xs) xs ≡ cond b (x ∷ ys) ys → xs ≡ ys
tails x xs ys true e = cc
tails x xs ys false e = e

pub just_these : JustThese
just_these [] [] h same = refl
just_these [] (y ∷ ys) h same = absurd (let e = sym (calls_cons y ys) ∙ same y.entry.caller in cc)
just_these (x ∷ xs) whole ([], after, is, rest) same =
    let tail : (n : ℕ) → calls after n ≡ calls xs n = λ n. tails x (calls after n) (calls xs n) (is_by n x) (sym (ap (λ H. calls H n) is) ∙ same n) in
    is ∙ ap (λ (l : History). x ∷ l) (just_these xs after rest tail)
just_these (x ∷ xs) whole (y ∷ before, after, is, rest) same =
    let n = y.entry.caller in
    let at : HasInOrder (x ∷ xs) (before ++ x ∷ after) = (before, after, refl, rest) in
    let le = fewer (x ∷ xs) (before ++ x ∷ after) at n in
    let e = ap length (ap (λ H. calls H n) is ∙ calls_cons y (before ++ x ∷ after)) in
    let m = ap length (same n) in
    absurd (omega (arith, le, e, m))
