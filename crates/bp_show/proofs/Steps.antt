-- Each step on the table keeps the rule.
use Rattle.std.proofs.Common.{
  ◌≡◌,
  ℕ,
  zero,
  suc,
  eqb,
  cond,
  eq-eqb,
  ne_eqb,
  ◌≢◌,
  Bool,
  true,
  false,
  List,
  [],
  ◌∷◌,
  ◌++◌,
  set,
  get_or,
  sym,
  refl,
  ap,
  ◌∙◌,
  subst,
  ⊎_elim,
  arith,
}
use mathlib.Core.Option.{some, none, some-injective, some-ne-none}
use mathlib.Core.Logic.{dite}
use native.Mathlib.Decide.{ℕ_discrete}
use prog.Atomic.{either}
use lib.ListN.{get_elem?}
use Rattle.std.proofs.lemmas.Bool.{false≢true}
use Rattle.atomic_table.specs.Table.{State, keeps, step, stepped, opening, Allows, Splits, Joins}
use Rattle.atomic_table.proofs.Lists.{at_set, at_snoc, exchanged}
use Rattle.bp_show.specs.Vectors.{Vector}
use Rattle.bp_show.specs.declared.order.Sight.{Sight}
use Rattle.bp_show.specs.Shown.{IsPrefix, EndsIn, Rises}
use Rattle.bp_show.specs.Order.{Fits, Keeps, Sat, first_sight, spent, note, gift, told_by, took, heard, Prepared, Committed, Adopted, Settled}
use Rattle.bp_show.proofs.Lists.{prefix_self, prefix_none, prefix_push}

not_leading : {X : Type 0} (v : Sight) → v.leads ≡ false → v.leads ≡ true → X
not_leading v f t = absurd (false≢true (sym f ∙ t))

-- the seats' views: each fits, and one leads
abbrev Each : (Sight → Type 0) → List Sight → Type 0
Each P views = (seat : ℕ) (v : Sight) → get_elem? views seat ≡ some v → P v

abbrev One : List Sight → Type 0
One views = (i j : ℕ) (v w : Sight) → get_elem? views i ≡ some v → get_elem? views j ≡ some w → v.leads ≡ true → w.leads ≡ true → i ≡ j

each_but : (P : Sight → Type 0) (views : List Sight) (seat : ℕ) (w : Sight) → P w → ((j : ℕ) (v : Sight) → j ≢ seat → get_elem? views j ≡ some v → P v) →
    Each P (set views seat w)
each_but P views seat w p others j v at =
    ⊎_elim (λ (h : (j ≡ seat) × (w ≡ v)). subst P h.1 p) (λ (h : (j ≢ seat) × (get_elem? views j ≡ some v)). others j v h.0 h.1) (at_set views seat j w v at)

each_set : (P : Sight → Type 0) (views : List Sight) (seat : ℕ) (w : Sight) → P w → Each P views → Each P (set views seat w)
each_set P views seat w p each j v at =
    ⊎_elim (λ (h : (j ≡ seat) × (w ≡ v)). subst P h.1 p) (λ (h : (j ≢ seat) × (get_elem? views j ≡ some v)). each j v h.1) (at_set views seat j w v at)

each_push : (P : Sight → Type 0) (views : List Sight) (w : Sight) → P w → Each P views → Each P (views ++ w ∷ [])
each_push P views w p each j v at = ⊎_elim (λ (h : get_elem? views j ≡ some v). each j v h) (λ (e : w ≡ v). subst P e p) (at_snoc views w v j at)

abbrev Leads : List Sight → ℕ → Type 0
Leads views i = (y : Sight) × (get_elem? views i ≡ some y) × (y.leads ≡ true)

leader_set : (views : List Sight) (seat : ℕ) (v w : Sight) → get_elem? views seat ≡ some v → (w.leads ≡ true → v.leads ≡ true) → (i : ℕ) (x : Sight) →
    get_elem? (set views seat w) i ≡ some x → x.leads ≡ true → Leads views i
leader_set views seat v w there same i x at leads = ⊎_elim
    (λ (h : (i ≡ seat) × (w ≡ x)). (v, ap (get_elem? views) h.0 ∙ there, same (ap (λ (y : Sight). y.leads) h.1 ∙ leads)))
    (λ (h : (i ≢ seat) × (get_elem? views i ≡ some x)). (x, h.1, leads))
    (at_set views seat i w x at)

one_set : (views : List Sight) (seat : ℕ) (v w : Sight) → get_elem? views seat ≡ some v → (w.leads ≡ true → v.leads ≡ true) → One views → One (set views seat w)
one_set views seat v w there same one i j x y ai aj li lj =
    let a = leader_set views seat v w there same i x ai li in
    let b = leader_set views seat v w there same j y aj lj in
    one i j a.0 b.0 a.1 b.1 a.2 b.2

leader_push : (views : List Sight) (w : Sight) → w.leads ≡ false → (i : ℕ) (x : Sight) → get_elem? (views ++ w ∷ []) i ≡ some x → x.leads ≡ true → Leads views i
leader_push views w f i x at leads = ⊎_elim
    (λ (h : get_elem? views i ≡ some x). (x, h, leads))
    (λ (e : w ≡ x). not_leading w f (ap (λ (y : Sight). y.leads) e ∙ leads))
    (at_snoc views w x i at)

one_push : (views : List Sight) (w : Sight) → w.leads ≡ false → One views → One (views ++ w ∷ [])
one_push views w f one i j x y ai aj li lj =
    let a = leader_push views w f i x ai li in
    let b = leader_push views w f j y aj lj in
    one i j a.0 b.0 a.1 b.1 a.2 b.2

-- a seat alone changes what it knows, and the word stays
noted : (s : State Vector Sight) (h : Keeps s) (seat : ℕ) (v w : Sight) (n : ℕ) (c : List (ℕ × Vector)) → n ≡ get_or s.words 0 0 →
    get_elem? s.views seat ≡ some v
    → Fits h.tried h.whole h.last w → (w.leads ≡ true → v.leads ≡ true) → Keeps (stepped s 0 n seat c w keeps)
noted s h seat v w n c same at fits leads = record {
  tried = h.tried;
  whole = h.whole;
  last = h.last;
  word = h.word;
  words = ap (λ (ws : List ℕ). set ws 0 n) h.words ∙ ap (λ (k : ℕ). k ∷ []) (same ∙ ap (λ (ws : List ℕ). get_or ws 0 0) h.words);
  rises = h.rises;
  old = h.old;
  ends = h.ends;
  each = each_set (Fits h.tried h.whole h.last) s.views seat w fits h.each;
  one = one_set s.views seat v w at leads h.one;
}

pub splits_note : (seat : ℕ) (v : Sight) → Splits Keeps seat v v (note v)
splits_note seat v s h at = let f = h.each seat v at in record {
  tried = h.tried;
  whole = h.whole;
  last = h.last;
  word = h.word;
  words = h.words;
  rises = h.rises;
  old = h.old;
  ends = h.ends;
  each = each_push (Fits h.tried h.whole h.last) (set s.views seat v) (note v) (record {
    seen = f.seen;
    told = prefix_none h.whole;
    stamp = omega arith;
    claim = λ x e. absurd (cc);
    leads = λ e. absurd (cc);
  }) (each_set (Fits h.tried h.whole h.last) s.views seat v f h.each);
  one = one_push (set s.views seat v) (note v) refl (one_set s.views seat v v at (λ e. e) h.one);
}

pub splits_gift : (seat : ℕ) (v : Sight) → Splits Keeps seat v v (gift v)
splits_gift seat v s h at = let f = h.each seat v at in record {
  tried = h.tried;
  whole = h.whole;
  last = h.last;
  word = h.word;
  words = h.words;
  rises = h.rises;
  old = h.old;
  ends = h.ends;
  each = each_push (Fits h.tried h.whole h.last) (set s.views seat v) (gift v) (record {
    seen = prefix_none h.whole;
    told = prefix_none h.whole;
    stamp =
        f.stamp;
    claim = f.claim;
    leads = λ e. absurd (cc);
  }) (each_set (Fits h.tried h.whole h.last) s.views seat v f h.each);
  one = one_push (set s.views seat v) (gift v) refl (one_set s.views seat v v at (λ e. e) h.one);
}

spent_fits : (tried : ℕ → Vector) (whole : List Vector) (last : ℕ) → Fits tried whole last spent
spent_fits tried whole last =
    record { seen = prefix_none whole; told = prefix_none whole; stamp = omega arith; claim = λ x e. absurd (cc); leads = λ e. absurd (cc) }

joins : (seat : ℕ) (v : Sight) (other : ℕ) (w both : Sight) → (both.leads ≡ true → v.leads ≡ true)
    → ((tried : ℕ → Vector) (whole : List Vector) (last : ℕ) → Fits tried whole last v → Fits tried whole last w → Fits tried whole last both)
    → Joins Keeps seat v other w both spent
joins seat v other w both leads fits s h at apart there =
    let was : get_elem? s.views other ≡ some w =
    ⊎_elim (λ (t : (other ≡ seat) × (both ≡ w)). absurd (apart t.0)) (λ (t : (other ≢ seat) × (get_elem? s.views other ≡ some w)). t.1)
    (at_set s.views seat other both w there) in
    let fit = fits h.tried h.whole h.last (h.each seat v at) (h.each other w was) in record {
      tried = h.tried;
      whole = h.whole;
      last = h.last;
      word = h.word;
      words = h.words;
      rises = h.rises;
      old = h.old;
      ends = h.ends;
      each = each_set (Fits h.tried h.whole h.last) (set s.views seat both) other spent (spent_fits h.tried h.whole h.last)
          (each_set (Fits h.tried h.whole h.last) s.views seat both fit h.each);
      one = one_set (set s.views seat both) other w spent there (λ e. absurd (cc)) (one_set s.views seat v both at leads h.one);
    }

pub joins_told : (seat : ℕ) (v : Sight) (other : ℕ) (w : Sight) → Joins Keeps seat v other w (told_by v w) spent
joins_told seat v other w =
    joins seat v other w (told_by v w) (λ e. e) (λ tried whole last f g. record {
      seen = f.seen;
      told = g.seen;
      stamp = f.stamp;
      claim = f.claim;
      leads =
          f.leads;
    })

pub joins_took : (seat : ℕ) (v : Sight) (other : ℕ) (w : Sight) → v.leads ≡ false → Joins Keeps seat v other w (took v w) spent
joins_took seat v other w off =
    joins seat v other w (took v w) (λ e. e) (λ tried whole last f g. record {
      seen = g.seen;
      told = f.told;
      stamp = f.stamp;
      claim = f.claim;
      leads =
          λ e. not_leading v off e;
    })

pub joins_heard : (seat : ℕ) (v : Sight) (other : ℕ) (w : Sight) → v.leads ≡ false → Joins Keeps seat v other w (heard v w) spent
joins_heard seat v other w off =
    joins seat v other w (heard v w) (λ e. e) (λ tried whole last f g. record {
      seen = f.seen;
      told = f.told;
      stamp = g.stamp;
      claim = g.claim;
      leads =
          λ e. not_leading v off e;
    })

pub settles : (slots seat : ℕ) (m : Sat) → m.0.leads ≡ true → Allows Keeps slots seat m 0 (λ n. n) (Settled (step slots 0 0 0 none) m)
settles slots seat m leads s h len at lt = let f = h.each seat m.0 at in (
  m.0,
  keeps,
  tt,
  noted s h seat m.0 m.0 (get_or s.words 0 0) m.1 refl at f (λ e. e),
  (refl, (f.told.0, (f.leads leads).0 ∙ f.told.1)),
)

-- the tries with one more
abbrev but : (ℕ → Vector) → ℕ → Vector → ℕ → Vector
but f n x k = cond (eqb k n) x (f k)

but_here : (f : ℕ → Vector) (n : ℕ) (x : Vector) (k : ℕ) → k ≡ n → but f n x k ≡ x
but_here f n x k e = ap (λ (b : Bool). cond b x (f k)) (eq-eqb k n e)

but_else : (f : ℕ → Vector) (n : ℕ) (x : Vector) (k : ℕ) → k ≢ n → but f n x k ≡ f k
but_else f n x k ne = ap (λ (b : Bool). cond b x (f k)) (ne_eqb k n ne)

fits_more : (tried : ℕ → Vector) (whole : List Vector) (last : ℕ) (x : Vector) (v : Sight) → (v.leads ≡ true → ⊥) → Fits tried whole last v →
    Fits (but tried (suc last) x) whole (suc last) v
fits_more tried whole last x v off f = record {
  seen = f.seen;
  told = f.told;
  stamp = let a = f.stamp in omega arith;
  claim = λ y e. but_else tried (suc last) x v.stamp (λ q. let a = f.stamp in omega arith) ∙ f.claim y e;
  leads = λ e. absurd (off e);
}

same_head : (x y : Vector) → x ∷ [] ≡ y ∷ [] → x ≡ y
same_head x y e = ap (λ (l : List Vector). head_or x l) e
  where
    head_or : Vector → List Vector → Vector
    head_or d [] = d
    head_or d (z ∷ zs) = z

prepares_at : (slots seat : ℕ) (m : Sat) (x : Vector) (s : State Vector Sight) (h : Keeps s) (n : ℕ) → m.0.leads ≡ true → n ≡ get_or s.words 0 0 →
    get_elem? s.views seat ≡ some m.0
    → Keeps (stepped s 0 n seat m.1 (record m.0 { stamp = suc m.0.stamp; claim = x ∷ [] }) keeps)
prepares_at slots seat m x s h n leads same at =
    let f = h.each seat m.0 at in
    let top = (f.leads leads).1 in
    let w : Sight = record m.0 { stamp = suc m.0.stamp; claim = x ∷ [] } in record {
      tried = but h.tried (suc h.last) x;
      whole = h.whole;
      last = suc h.last;
      word = h.word;
      words = ap (λ (ws : List ℕ). set ws 0 n) h.words ∙ ap (λ (k : ℕ). k ∷ []) (same ∙ ap (λ (ws : List ℕ). get_or ws 0 0) h.words);
      rises = h.rises;
      old = let o = h.old in omega arith;
      ends = subst (EndsIn h.whole) (sym (but_else h.tried (suc h.last) x h.word (λ q. let o = h.old in omega arith))) h.ends;
      each = each_but (Fits (but h.tried (suc h.last) x) h.whole (suc h.last)) s.views seat w
          (record {
            seen = f.seen;
            told = f.told;
            stamp = omega arith;
            claim = λ y e. but_here h.tried (suc h.last) x (suc m.0.stamp) (ap suc top) ∙
                same_head x y e;
            leads = λ _. ((f.leads leads).0, ap suc top);
          })
          (λ j v apart there. fits_more h.tried h.whole h.last x v (λ l. apart (h.one j seat v m.0 there at l leads)) (h.each j v there));
      one = one_set s.views seat m.0 w at (λ e. e) h.one;
    }

pub prepares : (slots seat : ℕ) (m : Sat) (x : Vector) → m.0.leads ≡ true →
    Allows Keeps slots seat m 0 (λ n. either (eqb n 0) 0 n) (Prepared (step slots 0 0 0 (some x)) m)
prepares slots seat m x leads s h len at lt =
    let k : ℕ = get_or s.words 0 0 in
    let same : either (eqb k 0) 0 k ≡ k = exchanged k 0 0 (λ y. y ≡ k) (λ e. sym e) (λ _. refl) in (
      record m.0 { stamp = suc m.0.stamp; claim = x ∷ [] },
      keeps,
      tt,
      prepares_at slots seat m x s h (either (eqb k 0) 0 k) leads same at,
      (λ y e. ap (λ (z : Vector). (record m.0 { stamp = suc m.0.stamp; claim = z ∷ [] }, m.1)) (some-injective x y e)),
    )

fits_shown : (tried : ℕ → Vector) (whole : List Vector) (last : ℕ) (x : Vector) (v : Sight) → (v.leads ≡ true → ⊥) → Fits tried whole last v →
    Fits tried (whole ++ x ∷ []) last v
fits_shown tried whole last x v off f = record {
  seen = prefix_push v.seen whole x f.seen;
  told = prefix_push v.told whole x f.told;
  stamp = f.stamp;
  claim = f.claim;
  leads = λ e. absurd (off e);
}

commits_at : (seat : ℕ) (m : Sat) (x : Vector) (s : State Vector Sight) (h : Keeps s) (n : ℕ) → m.0.leads ≡ true → n ≡ m.0.stamp → m.0.claim ≡ x ∷ [] →
    Rises (m.0.seen ++ x ∷ []) → get_elem? s.views seat ≡ some m.0
    → Keeps (stepped s 0 n seat m.1 (record m.0 { seen = m.0.seen ++ x ∷ [] }) keeps)
commits_at seat m x s h n leads same claim rises at =
    let f = h.each seat m.0 at in
    let whole = (f.leads leads).0 in
    let top = (f.leads leads).1 in
    let w : Sight = record m.0 { seen = m.0.seen ++ x ∷ [] } in
    let more : m.0.seen ++ x ∷ [] ≡ h.whole ++ x ∷ [] = ap (λ (l : List Vector). l ++ x ∷ []) whole in record {
      tried = h.tried;
      whole = h.whole ++ x ∷ [];
      last = h.last;
      word = n;
      words = ap (λ (ws : List ℕ). set ws 0 n) h.words;
      rises = subst Rises more rises;
      old = omega arith;
      ends = (h.whole, ap (λ (z : Vector). h.whole ++ z ∷ []) (sym (ap h.tried same ∙ f.claim x claim)));
      each = each_but (Fits h.tried (h.whole ++ x ∷ []) h.last) s.views seat w
          (record {
            seen = subst (IsPrefix (m.0.seen ++ x ∷ [])) more (prefix_self (m.0.seen ++ x ∷ []));
            told = prefix_push m.0.told h.whole x f.told;
            stamp = f.stamp;
            claim = f.claim;
            leads = λ _. (more, top);
          })
          (λ j v apart there. fits_shown h.tried h.whole h.last x v (λ l. apart (h.one j seat v m.0 there at l leads)) (h.each j v there));
      one = one_set s.views seat m.0 w at (λ e. e) h.one;
    }

pub commits : (slots seat : ℕ) (m : Sat) (x : Vector) (n : ℕ) → m.0.leads ≡ true → n ≡ m.0.stamp → m.0.claim ≡ x ∷ [] → Rises (m.0.seen ++ x ∷ []) →
    Allows Keeps slots seat m 0 (λ _. n) (λ _. Committed (step slots 0 n 0 none) m n)
commits slots seat m x n leads same claim rises s h len at lt = (
  record m.0 { seen = m.0.seen ++ x ∷ [] },
  keeps,
  tt,
  commits_at seat m x s h n leads same claim rises at,
  (λ y e. ap (λ (z : Vector). (record m.0 { seen = m.0.seen ++ z ∷ [] }, m.1)) (same_head x y (sym claim ∙ e))),
)

pub adopts : (slots seat : ℕ) (m : Sat) → m.0.leads ≡ false → Allows Keeps slots seat m 0 (λ n. n) (Adopted (step slots 0 0 0 none) m)
adopts slots seat m off s h len at lt =
    let f = h.each seat m.0 at in
    let k : ℕ = get_or s.words 0 0 in
    let word : h.word ≡ k = sym (ap (λ (ws : List ℕ). get_or ws 0 0) h.words) in
    dite (ℕ_discrete k m.0.stamp)
    (λ (e : k ≡ m.0.stamp). (
      record m.0 { seen = h.whole },
      keeps,
      tt,
      noted s h seat m.0 (record m.0 { seen = h.whole }) k m.1 refl at (record {
        seen = prefix_self h.whole;
        told = f.told;
        stamp = f.stamp;
        claim = f.claim;
        leads = λ l. not_leading m.0 off l;
      }) (λ l. l),
      (refl, f.seen, (λ _. h.rises), (λ x c r. subst (EndsIn h.whole) (ap h.tried (word ∙ e) ∙ f.claim x c) h.ends), (λ ne. absurd (ne e))),
    ))
    (λ ne. (
      m.0,
      keeps,
      tt,
      noted s h seat m.0 m.0 k m.1 refl at f (λ l. l),
      (refl, prefix_self m.0.seen, (λ r. r), (λ x c r. absurd (ne r)), (λ _. refl)),
    ))

pub opens : (x : Vector) → Keeps (opening (1 ∷ []) [] (first_sight x))
opens x = record {
  tried = λ _. x;
  whole = x ∷ [];
  last = 1;
  word = 1;
  words = refl;
  rises = tt;
  old = omega arith;
  ends = ([], refl);
  each = each;
  one = one;
}
  where
    fits : Fits (λ _. x) (x ∷ []) 1 (first_sight x)
    fits = record { seen = prefix_self (x ∷ []); told = prefix_none (x ∷ []); stamp = omega arith; claim = λ y e. same_head x y e; leads = λ _. (refl, refl) }

    each : Each (Fits (λ _. x) (x ∷ []) 1) (first_sight x ∷ [])
    each zero v e = subst (Fits (λ _. x) (x ∷ []) 1) (some-injective _ _ e) fits
    each (suc j) v e = absurd (some-ne-none v (sym e))

    one : One (first_sight x ∷ [])
    one zero zero v w a b la lb = refl
    one zero (suc j) v w a b la lb = absurd (some-ne-none w (sym b))
    one (suc i) j v w a b la lb = absurd (some-ne-none v (sym a))
