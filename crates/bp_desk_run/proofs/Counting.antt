-- How many vectors a run has.
use Rattle.std.proofs.Common.{
  ◌≡◌,
  ◌⊎◌,
  inl,
  inr,
  ℕ,
  zero,
  suc,
  ◌+◌,
  ◌-◌,
  ◌*◌,
  ◌/◌,
  ◌<◌,
  ◌≤◌,
  ◌==◌,
  Bool,
  true,
  false,
  not,
  ◌&&◌,
  ◌||◌,
  cond,
  nat_le,
  nat_lt,
  List,
  [],
  ◌∷◌,
  ◌++◌,
  length,
  take,
  drop,
  count_by,
  filter,
  Option,
  Some,
  None,
  is_some,
  unwrap_or,
  IsTrue,
  refl,
  sym,
  ap,
  subst,
  ◌∙◌,
  arith,
  length-append,
  take-append-drop,
  eq-eqb,
}
use mathlib.Core.Logic.{dite}
use native.Mathlib.Decide.{dec_le, dec_lt, ℕ_discrete}
use Rattle.std.proofs.Math.Seq.{take-length}
use Rattle.std.proofs.lemmas.Bool.{ne_eqb, and_parts, leb-true, eqb-true}
use Rattle.std.proofs.lemmas.Nat.{le-div}
use Rattle.std.proofs.lemmas.List.{length-drop, length-take, length-take-le}
use Rattle.std.proofs.lemmas.List.Sums.{sum_by-cons, count_by-le-length}
use Rattle.bp_types.specs.House.{Inn}
use Rattle.bp_types.specs.declared.command.Command.{Command}
use Rattle.bp_core.specs.declared.line.Act.{Act}
use Rattle.bp_core.specs.declared.line.Act.TheVariants.{Do, Publish, Enrol, Leave}
use Rattle.bp_core.specs.declared.line.Line.{Line}
use Rattle.bp_core.specs.Lines.{History, no_line, line_at, is_by, is_publish, is_command, published_position, last_position, calls, commands, vectors}
use Rattle.bp_core.specs.Changes.{is_change, changes_between, changes_after}
use Rattle.bp_core.specs.Legal.{IsLegal, IsLegalLine, opens, is_opening_act, is_newer}
use Rattle.bp_core.proofs.Pushes.{count-push, last_value-push}
use Rattle.bp_core.proofs.Prefixes.{take_take, take-more}
use Rattle.bp_optimise.specs.Vectors.{IsLeastVector}
use Rattle.bp_desk_run.specs.DeskRun.{lead_of, IsDeskRun, OpensAndCloses}

-- a vector that is not the opener's
abbrev pub other_vector : Line → Bool
other_vector x = not (x.entry.caller == 0) && is_publish x

count_split : (p : Line → Bool) (xs ys : History) → count_by p (xs ++ ys) ≡ count_by p xs + count_by p ys
count_split p [] ys = let e : 0 + count_by p ys ≡ count_by p ys = omega arith in sym e
count_split p (x ∷ xs) ys = omega (arith, count_split p xs ys, sum_by-cons (λ y. cond (p y) 1 0) x xs, sum_by-cons (λ y. cond (p y) 1 0) x (xs ++ ys))

drop_past : (H : History) (q : ℕ) → length H ≤ q → drop q H ≡ []
drop_past H q le = Rattle.std.proofs.Math.ListN.drop_of_length-le H le

-- with a change between two positions, the second is the later, and the changes up to it are those up to the first and those between
changes_add : (H : History) (q p : ℕ) → p ≤ length H → 1 ≤ count_by is_change (drop q (take p H)) →
    count_by is_change (take p H) ≡ count_by is_change (take q H) + count_by is_change (drop q (take p H))
changes_add H q p within some = dite (dec_le q p)
    (λ le. ap (count_by is_change) (sym (take-append-drop q (take p H))) ∙ count_split is_change (take q (take p H)) (drop q (take p H)) ∙
    ap (λ l. count_by is_change l + count_by is_change (drop q (take p H))) (take_take H q p le))
    (λ gt. absurd (let n = length-take-le p H within in let e = ap (count_by is_change) (drop_past (take p H) q (omega (arith, n, gt))) in
    omega (arith, e, some)))

-- the changes up to the last vector's position pay for the vectors that are not the opener's
abbrev PaidFor : ℕ → History → ℕ → Type 0
PaidFor lead H n = count_by other_vector (take n H) * lead ≤ count_by is_change (take (last_position (take n H)) H)

pub one_more : (k lead : ℕ) → (k + 1) * lead ≡ k * lead + lead
one_more k lead = omega arith

same_position : (P : ℕ → Act → Type 0) (p q : ℕ) → Publish p ≡ Publish q → p ≡ q
same_position P p q e = cc

push_paid : (lead : ℕ) (H : History) (n : ℕ) (lt : n < length H) →
    count_by other_vector (take (n + 1) H) ≡ count_by other_vector (take n H) + cond (other_vector (line_at H n)) 1 0
push_paid lead H n lt = ap (count_by other_vector) (take-more H n lt) ∙ count-push other_vector (take n H) (line_at H n)

push_position : (H : History) (n : ℕ) (lt : n < length H) →
    last_position (take (n + 1) H) ≡ unwrap_or (published_position (line_at H n).entry.act) (last_position (take n H))
push_position H n lt = ap last_position (take-more H n lt) ∙ last_value-push (λ (y : Line). published_position y.entry.act) 0 (take n H) (line_at H n)

some_position : (act : Act) (p : ℕ) → published_position act ≡ Some p → act ≡ Publish p
some_position (Publish q) p e = ap Publish (same q p e)
  where
    same : (a b : ℕ) → Some a ≡ Some b → a ≡ b
    same a b e = cc
some_position (Do command) p e = absurd (cc)
some_position Enrol p e = absurd (cc)
some_position Leave p e = absurd (cc)

-- a later vector is for a position so far, with a change from the last one's position on
newer : (G : History) (p : ℕ) → 1 ≤ length G → IsTrue (is_newer G (Publish p)) → (p ≤ length G) × (1 ≤ changes_between G (last_position G) p)
newer G p some is = go (length G == 0) refl is
  where
    go : (b : Bool) → (length G == 0) ≡ b → IsTrue (b || (nat_le p (length G) && nat_le 1 (changes_between G (last_position G) p))) →
        (p ≤ length G) × (1 ≤ changes_between G (last_position G) p)
    go true e t = absurd (let f = eqb-true (length G) 0 e in omega (arith, f, some))
    go false e t = let b = and_parts (nat_le p (length G)) (nat_le 1 (changes_between G (last_position G) p)) t in (leb-true p (length G) b.0, leb-true 1 _ b.1)

-- the first line is the opener's
first_is_opener : (x : Line) → IsTrue (opens [] x) → (x.entry.caller == 0) ≡ true
first_is_opener x is = (and_parts (is_by 0 x) (is_opening_act x.entry.act) is).0

paid_step : (house : Inn) (lead : ℕ) (H : History) (n : ℕ) → n < length H → IsLegalLine house (take n H) (line_at H n)
    → (is_publish (line_at H n) ≡ true → IsLeastVector house (cond ((line_at H n).entry.caller == 0) 0 lead) (take n H) (line_at H n)) → PaidFor lead H n →
    PaidFor lead H (n + 1)
paid_step house lead H n lt legal vector paid = by_kind (published_position x.entry.act) refl
  where
    x : Line
    x = line_at H n

    G : History
    G = take n H

    many : length (take n H) ≡ n
    many = length-take-le n H (omega (arith, lt))

    by_kind : (o : Option ℕ) → published_position (line_at H n).entry.act ≡ o → PaidFor lead H (n + 1)
    by_kind None e =
        let none : other_vector x ≡ false = ap (λ o. not (x.entry.caller == 0) && is_some o) e ∙ off (not (x.entry.caller == 0)) in
        let c = push_paid lead H n lt in
        let k : count_by other_vector (take (n + 1) H) ≡ count_by other_vector (take n H) =
        (let f = ap (λ (b : Bool). cond {A = ℕ} b 1 0) none in omega (arith, c, f)) in
        let at : last_position (take (n + 1) H) ≡ last_position (take n H) = push_position H n lt ∙ ap (λ o. unwrap_or o (last_position (take n H))) e in
        subst (λ j. j * lead ≤ count_by is_change (take (last_position (take (n + 1) H)) H)) (sym k)
        (subst (λ j. count_by other_vector (take n H) * lead ≤ count_by is_change (take j H)) (sym at) paid)
      where
        off : (b : Bool) → (b && false) ≡ false
        off true = refl
        off false = refl
    by_kind (Some p) e = dite (ℕ_discrete n 0) first later
      where
        at : last_position (take (n + 1) H) ≡ p
        at = push_position H n lt ∙ ap (λ o. unwrap_or o (last_position (take n H))) e

        finish : (k : ℕ) → count_by other_vector (take (n + 1) H) ≡ k → k * lead ≤ count_by is_change (take p H) → PaidFor lead H (n + 1)
        finish k is le = subst (λ j. j * lead ≤ count_by is_change (take (last_position (take (n + 1) H)) H)) (sym is)
            (subst (λ j. k * lead ≤ count_by is_change (take j H)) (sym at) le)

        first : n ≡ 0 → PaidFor lead H (n + 1)
        first z =
            let empty : take n H ≡ [] = ap (λ k. take k H) z in
            let mine : (x.entry.caller == 0) ≡ true = first_is_opener x (subst (λ K. IsTrue (opens K x)) empty legal.opening) in
            let none : other_vector x ≡ false = ap (λ b. not b && is_publish x) mine in
            let c = push_paid lead H n lt in
            let zero_before = ap (count_by other_vector) empty in
            let k : count_by other_vector (take (n + 1) H) ≡ 0 = (let f = ap (λ (b : Bool). cond {A = ℕ} b 1 0) none in omega (arith, c, f, zero_before)) in
            finish 0 k (let w : 0 * lead ≡ 0 = omega arith in omega (arith, w))

        later : (n ≡ 0 → ⊥) → PaidFor lead H (n + 1)
        later nz = by_caller (x.entry.caller == 0) refl
          where
            act : x.entry.act ≡ Publish p
            act = some_position x.entry.act p e

            new : (p ≤ length (take n H)) × (1 ≤ changes_between (take n H) (last_position (take n H)) p)
            new = newer (take n H) p (omega (arith, many, nz)) (subst (λ a. IsTrue (is_newer (take n H) a)) act legal.position)

            q : ℕ
            q = last_position (take n H)

            cut : take p (take n H) ≡ take p H
            cut = let le = new.0 in take_take H p n (omega (arith, le, many))

            some : 1 ≤ count_by is_change (drop (last_position (take n H)) (take p H))
            some = subst (λ l. 1 ≤ count_by is_change (drop (last_position (take n H)) l)) cut new.1

            split : count_by is_change (take p H) ≡
                count_by is_change (take (last_position (take n H)) H) + count_by is_change (drop (last_position (take n H)) (take p H))
            split = let le = new.0 in changes_add H (last_position (take n H)) p (omega (arith, le, many, lt)) some

            by_caller : (b : Bool) → (x.entry.caller == 0) ≡ b → PaidFor lead H (n + 1)
            by_caller true mine =
                let none : other_vector x ≡ false = ap (λ b. not b && is_publish x) mine in
                let c = push_paid lead H n lt in
                let k : count_by other_vector (take (n + 1) H) ≡ count_by other_vector (take n H) =
                (let f = ap (λ (b : Bool). cond {A = ℕ} b 1 0) none in omega (arith, c, f)) in
                finish (count_by other_vector (take n H)) k (omega (arith, paid, split))
            by_caller false other =
                let publishes : is_publish x ≡ true = ap is_some e in
                let one : other_vector x ≡ true = ap (λ b. not b && is_publish x) other ∙ publishes in
                let c = push_paid lead H n lt in
                let k : count_by other_vector (take (n + 1) H) ≡ count_by other_vector (take n H) + 1 =
                (let f = ap (λ (b : Bool). cond {A = ℕ} b 1 0) one in omega (arith, c, f)) in
                let v = vector publishes in
                let same : v.position ≡ p = position_is v.position p (sym v.publishes ∙ act) in
                let enough : lead ≤ changes_between (take n H) (last_position (take n H)) p =
                subst (λ j. lead ≤ changes_between (take n H) (last_position (take n H)) j) same
                (subst (λ b. cond b 0 lead ≤ changes_between (take n H) (last_position (take n H)) v.position) other v.enough) in
                let enough2 : lead ≤ count_by is_change (drop (last_position (take n H)) (take p H)) =
                subst (λ l. lead ≤ count_by is_change (drop (last_position (take n H)) l)) cut enough in
                finish (count_by other_vector (take n H) + 1) k (omega (arith, paid, split, enough2, one_more (count_by other_vector (take n H)) lead))
              where
                position_is : (a b : ℕ) → Publish a ≡ Publish b → a ≡ b
                position_is a b e = cc

paid_all : (house : Inn) (scripts : List (List Command)) (workers : ℕ) (H : History) → IsDeskRun house scripts workers H → (n : ℕ) → n ≤ length H →
    PaidFor (lead_of house) H n
paid_all house scripts workers H r zero le = let w : 0 * lead_of house ≡ 0 = omega arith in omega (arith, w)
paid_all house scripts workers H r (suc n) le =
    let e : n + 1 ≡ suc n = omega arith in
    subst (PaidFor (lead_of house) H) e
    (paid_step house (lead_of house) H n (omega (arith, le)) (r.legal.lines n (omega (arith, le))) (r.least_prices n (omega (arith, le)))
    (paid_all house scripts workers H r n (omega (arith, le))))

-- each change is a command
change_is_command : (x : Line) → cond {A = ℕ} (is_change x) 1 0 ≤ cond {A = ℕ} (is_command x) 1 0
change_is_command x = by_act x.entry.act refl
  where
    small : (b : Bool) → cond {A = ℕ} b 1 0 ≤ 1
    small true = omega arith
    small false = omega arith

    by_act : (a : Act) → x.entry.act ≡ a → cond {A = ℕ} (is_change x) 1 0 ≤ cond {A = ℕ} (is_command x) 1 0
    by_act (Do command) e = rw e (small (Rattle.bp_core.specs.Changes.command_changes command x.entry.reply))
    by_act (Publish position) e = rw e (omega arith)
    by_act Enrol e = rw e (omega arith)
    by_act Leave e = rw e (omega arith)

changes_few : (xs : History) → count_by is_change xs ≤ count_by is_command xs
changes_few [] = omega arith
changes_few (x ∷ xs) = omega (
  arith,
  changes_few xs,
  change_is_command x,
  sum_by-cons (λ y. cond (is_change y) 1 0) x xs,
  sum_by-cons (λ y. cond (is_command y) 1 0) x xs,
)

-- the opener's vectors and the others'
one_kind : (x : Line) → cond {A = ℕ} (is_publish x) 1 0 ≤ cond {A = ℕ} (other_vector x) 1 0 + cond {A = ℕ} (is_by 0 x) 1 0
one_kind x = go (x.entry.caller == 0) (is_publish x)
  where
    go : (b p : Bool) → cond {A = ℕ} p 1 0 ≤ cond {A = ℕ} (not b && p) 1 0 + cond {A = ℕ} b 1 0
    go true true = omega arith
    go true false = omega arith
    go false true = omega arith
    go false false = omega arith

pub vectors_few : (xs : History) → vectors xs ≤ count_by other_vector xs + length (calls xs 0)
vectors_few [] = omega arith
vectors_few (x ∷ xs) = go (vectors_few xs) (is_by 0 x) refl
  where
    go : vectors xs ≤ count_by other_vector xs + length (calls xs 0) → (b : Bool) → is_by 0 x ≡ b →
        vectors (x ∷ xs) ≤ count_by other_vector (x ∷ xs) + length (calls (x ∷ xs) 0)
    go rest true e =
        let l : length (calls (x ∷ xs) 0) ≡ 1 + length (calls xs 0) = ap (λ (b : Bool). length (cond b (x ∷ calls xs 0) (calls xs 0))) e ∙ omega arith in
        let o = ap (λ (b : Bool). cond {A = ℕ} b 1 0) e in
        omega (arith, l, o, rest, one_kind x, sum_by-cons (λ y. cond (is_publish y) 1 0) x xs, sum_by-cons (λ y. cond (other_vector y) 1 0) x xs)
    go rest false e =
        let l : length (calls (x ∷ xs) 0) ≡ length (calls xs 0) = ap (λ (b : Bool). length (cond b (x ∷ calls xs 0) (calls xs 0))) e in
        let o = ap (λ (b : Bool). cond {A = ℕ} b 1 0) e in
        omega (arith, l, o, rest, one_kind x, sum_by-cons (λ y. cond (is_publish y) 1 0) x xs, sum_by-cons (λ y. cond (other_vector y) 1 0) x xs)

pub opener_few : (H : History) → OpensAndCloses H → length (calls H 0) ≤ 2
opener_few H (inl one) = let n = ap length one in omega (arith, n)
opener_few H (inr (before, x, is, p, two)) = let n = ap length two in omega (arith, n)

-- the other vectors have their changes, and those after the last vector's position are more
pub paid_after : (house : Inn) (scripts : List (List Command)) (workers : ℕ) (H : History) → IsDeskRun house scripts workers H →
    count_by other_vector H * lead_of house + changes_after H (last_position H) ≤ commands H
paid_after house scripts workers H r =
    let lead = lead_of house in
    let paid : count_by other_vector (take (length H) H) * lead ≤ count_by is_change (take (last_position (take (length H) H)) H) =
    paid_all house scripts workers H r (length H) (omega arith) in
    let whole : count_by other_vector H * lead ≤ count_by is_change (take (last_position H) H) =
    subst (λ K. count_by other_vector K * lead ≤ count_by is_change (take (last_position K) H)) (take-length H) paid in
    let parts = ap (count_by is_change) (take-append-drop (last_position H) H) in
    let split = count_split is_change (take (last_position H) H) (drop (last_position H) H) in
    let after = ap (λ l. count_by is_change (drop (last_position H) l)) (take-length H) in
    omega (arith, whole, parts, split, after, changes_few H)

pub bounded : (house : Inn) (scripts : List (List Command)) (workers : ℕ) (H : History) (many : ℕ) → IsDeskRun house scripts workers H → 1 ≤ lead_of house →
    commands H ≤ many → vectors H ≤ 2 + many / lead_of house
bounded house scripts workers H many r some le =
    let lead = lead_of house in
    let under : count_by other_vector H * lead ≤ many = (let p = paid_after house scripts workers H r in omega (arith, p, le)) in
    let most : count_by other_vector H ≤ many / lead = le-div (count_by other_vector H) many lead (omega (arith, some)) under in
    omega (arith, most, vectors_few H, opener_few H r.opener)
