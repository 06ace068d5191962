-- Values that are told by numbers, some of which may be above their limits.
use Rattle.std.proofs.Common.{◌≡◌, ℕ, ◌≤◌, ◌<◌, ◌||◌, ap, sym, subst, ◌∙◌, arith, Bool, true, false}
use Rattle.std.specs.Prelude.{MatchBool}
use Rattle.bp_text.specs.Words.{IsCounted}
use Rattle.bp_text.specs.declared.words.Counted.{Counted}
use Rattle.bp_core.specs.declared.line.Act.{Act}
use Rattle.bp_core.specs.declared.line.Entry.{Entry}
use Rattle.bp_core.specs.declared.line.Reply.{Reply}
use Rattle.bp_journal.specs.declared.limits.TheConstants.{MOST_HALF}
use Rattle.bp_journal.specs.declared.told.ToldAct.{ToldAct}
use Rattle.bp_journal.specs.declared.told.ToldReply.{ToldReply}
use Rattle.bp_journal.specs.Limits.{IsActWithin, IsReplyWithin, IsEntryWithin}
use Rattle.bp_journal.specs.Told.{IsTold, IsEntryTold}

-- a number
pub number_told : (greatest n : ℕ) (s : Counted) → IsCounted greatest n s → IsTold (λ k. k ≤ greatest) n s.value s.great
number_told greatest n s counted = go s.great counted.1
  where
    go : (b : Bool) → MatchBool b (greatest < n) ((n ≤ greatest) × (s.value ≡ n)) → IsTold (λ k. k ≤ greatest) n s.value b
    go true above = λ within. omega (arith, above, within)
    go false is = is

-- two values
pub pair_told : {X Y : Type 0} (P : X → Type 0) (Q : Y → Type 0) (a x : X) (b y : Y) (g h : Bool) → IsTold P a x g → IsTold Q b y h
    → IsTold {X = X × Y} (λ p. P p.0 × Q p.1) (a, b) (x, y) (g || h)
pair_told P Q a x b y true h first second = λ within. first within.0
pair_told P Q a x b y false true first second = λ within. second within.1
pair_told {X} {Y} P Q a x b y false false first second = ((first.0, second.0), ap (λ (z : X). (z, y)) first.1 ∙ ap (λ (z : Y). (a, z)) second.1)

-- a value that is built of another
pub built_told : {X Y : Type 0} (P : X → Type 0) (Q : Y → Type 0) (F : X → Y) (a x : X) (g : Bool) → (P a → Q (F a)) → (Q (F a) → P a) → IsTold P a x g →
    IsTold Q (F a) (F x) g
built_told P Q F a x true within back is = λ q. is (back q)
built_told P Q F a x false within back is = (within is.0, ap F is.1)

pub told_by : {X : Type 0} (P : X → Type 0) (a x : X) (g h : Bool) → g ≡ h → IsTold P a x h → IsTold P a x g
told_by P a x g h e is = let Q : Bool → Type 0 = λ b. IsTold P a x b in subst Q (sym e) is

-- two numbers
pub two_told : {X : Type 0} (Q : X → Type 0) (F : ℕ → ℕ → X) (p q m n : ℕ) (s t : Counted) (g : Bool) → ((m ≤ p) × (n ≤ q) → Q (F m n)) →
    (Q (F m n) → (m ≤ p) × (n ≤ q))
    → IsCounted p m s → IsCounted q n t → g ≡ (s.great || t.great) → IsTold Q (F m n) (F s.value t.value) g
two_told Q F p q m n s t g within back first second either =
    told_by Q (F m n) (F s.value t.value) g (s.great || t.great) either
    (built_told (λ (z : ℕ × ℕ). (z.0 ≤ p) × (z.1 ≤ q)) Q (λ z. F z.0 z.1) (m, n) (s.value, t.value) (s.great || t.great) within back
    (pair_told (λ k. k ≤ p) (λ k. k ≤ q) m s.value n t.value s.great t.great (number_told p m s first) (number_told q n t second)))

-- three numbers
pub three_told : {X : Type 0} (Q : X → Type 0) (F : ℕ → ℕ → ℕ → X) (p q r m n k : ℕ) (s t u : Counted) (g h : Bool) →
    (((m ≤ p) × (n ≤ q)) × (k ≤ r) → Q (F m n k)) → (Q (F m n k) → ((m ≤ p) × (n ≤ q)) × (k ≤ r))
    → IsCounted p m s → IsCounted q n t → IsCounted r k u → h ≡ (s.great || t.great) → g ≡ (h || u.great) → IsTold Q (F m n k) (F s.value t.value u.value) g
three_told Q F p q r m n k s t u g h within back first second third two either =
    told_by Q (F m n k) (F s.value t.value u.value) g (h || u.great) either
    (built_told (λ (z : (ℕ × ℕ) × ℕ). ((z.0.0 ≤ p) × (z.0.1 ≤ q)) × (z.1 ≤ r)) Q (λ z. F z.0.0 z.0.1 z.1) ((m, n), k) (
      (s.value, t.value),
      u.value,
    ) (h || u.great) within back
    (pair_told (λ (z : ℕ × ℕ). (z.0 ≤ p) × (z.1 ≤ q)) (λ j. j ≤ r) (m, n) (s.value, t.value) k u.value h u.great
    (two_told (λ (z : ℕ × ℕ). (z.0 ≤ p) × (z.1 ≤ q)) (λ i j. (i, j)) p q m n s t h (λ w. w) (λ w. w) first second two) (number_told r k u third)))

-- four numbers
pub four_told : {X : Type 0} (Q : X → Type 0) (F : ℕ → ℕ → ℕ → ℕ → X) (p q r o m n k l : ℕ) (s t u v : Counted) (g a b : Bool)
    → (((m ≤ p) × (n ≤ q)) × ((k ≤ r) × (l ≤ o)) → Q (F m n k l)) → (Q (F m n k l) → ((m ≤ p) × (n ≤ q)) × ((k ≤ r) × (l ≤ o)))
    → IsCounted p m s → IsCounted q n t → IsCounted r k u → IsCounted o l v → a ≡ (s.great || t.great) → b ≡ (u.great || v.great) → g ≡ (a || b) →
    IsTold Q (F m n k l) (F s.value t.value u.value v.value) g
four_told Q F p q r o m n k l s t u v g a b within back first second third fourth two others either =
    told_by Q (F m n k l) (F s.value t.value u.value v.value) g (a || b) either
    (built_told (λ (z : (ℕ × ℕ) × (ℕ × ℕ)). ((z.0.0 ≤ p) × (z.0.1 ≤ q)) × ((z.1.0 ≤ r) × (z.1.1 ≤ o))) Q (λ z. F z.0.0 z.0.1 z.1.0 z.1.1) (
      (m, n),
      (k, l),
    ) ((s.value, t.value), (u.value, v.value)) (a || b) within back
    (pair_told (λ (z : ℕ × ℕ). (z.0 ≤ p) × (z.1 ≤ q)) (λ (z : ℕ × ℕ). (z.0 ≤ r) × (z.1 ≤ o)) (m, n) (s.value, t.value) (k, l) (u.value, v.value) a b
    (two_told (λ (z : ℕ × ℕ). (z.0 ≤ p) × (z.1 ≤ q)) (λ i j. (i, j)) p q m n s t a (λ w. w) (λ w. w) first second two)
    (two_told (λ (z : ℕ × ℕ). (z.0 ≤ r) × (z.1 ≤ o)) (λ i j. (i, j)) r o k l u v b (λ w. w) (λ w. w) third fourth others)))

-- an entry
abbrev entry_of : (ℕ × Act) × Reply → Entry
entry_of p = record { caller = p.0.0; act = p.0.1; reply = p.1 }

pub entry_told : (e : Entry) (caller : Counted) (act : ToldAct) (reply : ToldReply) → IsEntryTold e caller act reply
    → IsTold IsEntryWithin e (record { caller = caller.value; act = act.act; reply = reply.reply }) ((caller.great || act.great) || reply.great)
entry_told e caller act reply is =
    let IsCaller : ℕ → Type 0 = λ k. k ≤ MOST_HALF in
    let first = pair_told IsCaller IsActWithin e.caller caller.value e.act act.act caller.great act.great (number_told MOST_HALF e.caller caller is.caller_is)
    is.act_is.told in
    let both = pair_told (λ (p : ℕ × Act). IsCaller p.0 × IsActWithin p.1) IsReplyWithin (e.caller, e.act) (
      caller.value,
      act.act,
    ) e.reply reply.reply (caller.great || act.great) reply.great first is.reply_is in
    built_told (λ (p : (ℕ × Act) × Reply). (IsCaller p.0.0 × IsActWithin p.0.1) × IsReplyWithin p.1) IsEntryWithin entry_of (
      (e.caller, e.act),
      e.reply,
    ) ((caller.value, act.act), reply.reply) ((caller.great || act.great) || reply.great)
    (λ w. record { caller = w.0.0; act = w.0.1; reply = w.1 }) (λ w. ((w.caller, w.act), w.reply)) both
