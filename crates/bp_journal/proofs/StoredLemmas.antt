-- Lines of entries and certificates, with one entry more.
use Rattle.std.proofs.Common.{◌≡◌, ◌+◌, refl, ap, sym, ◌∙◌, arith, true, false, cond, Option, is_some, List, [], ◌∷◌, ◌++◌, length, Some, None, inl, inr}
use Rattle.std.proofs.lemmas.Bool.{cases_Bool}
use Rattle.std.proofs.lemmas.List.Sums.{sum_by-cons, sum_by-append}
use Rattle.bp_types.specs.Claim.{Claim}
use Rattle.bp_core.specs.declared.line.Entry.{Entry}
use Rattle.bp_core.specs.declared.line.Line.{Line}
use Rattle.bp_core.specs.Lines.{History, published_position}
use Rattle.bp_journal.specs.Stored.{publishes, line_with, certificates_after, lines_of, publications}

pub lines_of_length : (es : List Entry) (cs : List Claim) → length (lines_of es cs) ≡ length es
lines_of_length [] cs = refl
lines_of_length (e ∷ es) cs = omega (arith, lines_of_length es (certificates_after e cs))

pub publications-push : (es : List Entry) (e : Entry) → publications (es ++ e ∷ []) ≡ publications es + cond (publishes e) 1 0
publications-push es e = omega (arith, sum_by-append (λ x. cond (publishes x) 1 0) es (e ∷ []))

-- an entry that does not publish
pub lines_of-push_plain : (es : List Entry) (cs : List Claim) (e : Entry) → publishes e ≡ false →
    lines_of (es ++ e ∷ []) cs ≡ lines_of es cs ++ record { entry = e; certificate = None } ∷ []
lines_of-push_plain [] cs e plain = rw plain refl
lines_of-push_plain (y ∷ es) cs e plain = ap (λ H. line_with y cs ∷ H) (lines_of-push_plain es (certificates_after y cs) e plain)

-- an entry that publishes, with its certificate
pub lines_of-push_claim : (es : List Entry) (cs : List Claim) (e : Entry) (c : Claim) → publishes e ≡ true → length cs ≡ publications es →
    lines_of (es ++ e ∷ []) (cs ++ c ∷ []) ≡ lines_of es cs ++ record { entry = e; certificate = Some c } ∷ []
lines_of-push_claim [] [] e c here as_many = rw here refl
lines_of-push_claim [] (d ∷ cs) e c here as_many = absurd (omega arith)
lines_of-push_claim (y ∷ es) [] e c here as_many =
    let parts = as_many ∙ sum_by-cons (λ x. cond (publishes x) 1 0) y es in
    elim (cases_Bool (publishes y)) [
      | inl too ↦ absurd (let n : 0 ≡ 1 + publications es = parts ∙ ap (λ t. cond t 1 0 + publications es) too in omega arith)
      | inr plain ↦
          let rest : 0 ≡ publications es = omega (arith, parts, ap (λ t. cond t 1 0 + publications es) plain) in
          rw plain (ap (λ H. record { entry = y; certificate = None } ∷ H) (lines_of-push_claim es [] e c here rest))
    ]
lines_of-push_claim (y ∷ es) (d ∷ cs) e c here as_many =
    let parts = as_many ∙ sum_by-cons (λ x. cond (publishes x) 1 0) y es in
    elim (cases_Bool (publishes y)) [
      | inl too ↦
          let rest : length cs ≡ publications es = omega (arith, parts, ap (λ t. cond t 1 0 + publications es) too) in
          rw too (ap (λ H. record { entry = y; certificate = Some d } ∷ H) (lines_of-push_claim es cs e c here rest))
      | inr plain ↦
          let rest : length (d ∷ cs) ≡ publications es = omega (arith, parts, ap (λ t. cond t 1 0 + publications es) plain) in
          rw plain (ap (λ H. record { entry = y; certificate = None } ∷ H) (lines_of-push_claim es (d ∷ cs) e c here rest))
    ]

-- a line without a certificate, behind the others
pub push_plain : (es new : List Entry) (cs : List Claim) (now : History) (x : Line) → new ≡ es ++ x.entry ∷ [] → lines_of es cs ≡ now → x.certificate ≡ None →
    is_some x.certificate ≡ is_some (published_position x.entry.act) →
    lines_of new cs ≡ now ++ x ∷ []
push_plain es new cs now x entries before none fits =
    let plain : publishes x.entry ≡ false = sym fits ∙ ap (λ (o : Option Claim). is_some o) none in
    ap (λ ns. lines_of ns cs) entries ∙ lines_of-push_plain es cs x.entry plain
    ∙ ap (λ (o : Option Claim). lines_of es cs ++ record { entry = x.entry; certificate = o } ∷ []) (sym none) ∙ ap (λ H. H ++ x ∷ []) before

-- a line with one
pub push_certified : (es new : List Entry) (cs ds : List Claim) (now : History) (x : Line) (c : Claim) → new ≡ es ++ x.entry ∷ [] → ds ≡ cs ++ c ∷ [] →
    lines_of es cs ≡ now → length cs ≡ publications es → x.certificate ≡ Some c → is_some x.certificate ≡ is_some (published_position x.entry.act) →
    lines_of new ds ≡ now ++ x ∷ []
push_certified es new cs ds now x c entries certificates before as_many some fits =
    let here : publishes x.entry ≡ true = sym fits ∙ ap (λ (o : Option Claim). is_some o) some in
    ap (λ ns. lines_of ns ds) entries ∙ ap (lines_of (es ++ x.entry ∷ [])) certificates ∙ lines_of-push_claim es cs x.entry c here as_many
    ∙ ap (λ (o : Option Claim). lines_of es cs ++ record { entry = x.entry; certificate = o } ∷ []) (sym some) ∙ ap (λ H. H ++ x ∷ []) before
