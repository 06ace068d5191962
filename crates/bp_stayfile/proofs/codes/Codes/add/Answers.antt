use Rattle.std.proofs.Common.{◌≡◌, ◌∙◌, sym, ap, false, List, ℕ, [], ◌∷◌, ◌++◌, map, length, None, arith, string_bytes}
use Rattle.std.specs.List.{list_any}
use Rattle.std.specs.Result.{is_err}
use Rattle.std.specs.Str.{bytes_eq}
use Rattle.std.proofs.lemmas.List.{map-append}
use Rattle.csv.proofs.ReadFacts.{on-ok}
use Rattle.bp_stayfile.specs.Codes.{stay_with}
use Rattle.bp_stayfile.proofs.CodeLemmas.{not_there, IsCodes-more}
use Rattle.bp_stayfile.proofs.codes.Codes.add.Goals as goal

pub invariant_of-self-2 : goal.invariant_of-self-2
invariant_of-self-2 c =
    let keys = c.self.inside.codes.keys in
    let none : stay_with (map string_bytes keys) c.args.code.now ≡ None = ap (λ (codes : List (List ℕ)). stay_with codes c.args.code.now) c.self.view_is ∙
    c.requires.new in
    let absent : list_any (λ k. bytes_eq (string_bytes c.in-Ok.code) (string_bytes k)) keys ≡ false =
    rw c.in-Ok.ensures.ok (not_there c.args.code.now keys none) in
    let good : is_err c.insert.result ≡ false = sym c.is_err.ensures.value ∙ c.if-is_err.false in
    let added = rw absent at (on-ok c.insert.result good c.insert.ensures.keys) in
    rw (added, map-append string_bytes keys (c.in-Ok.code ∷ []), c.in-Ok.ensures.ok)
    (IsCodes-more (map string_bytes keys) c.args.code.now c.self.invariant (omega (arith, ap (λ (codes : List (List ℕ)). length codes) c.self.view_is)) none)

pub returns : goal.returns
returns c =
    let keys = c.self.inside.codes.keys in
    let none : stay_with (map string_bytes keys) c.args.code.now ≡ None = ap (λ (codes : List (List ℕ)). stay_with codes c.args.code.now) c.self.view_is ∙
    c.requires.new in
    let absent : list_any (λ k. bytes_eq (string_bytes c.in-Ok.code) (string_bytes k)) keys ≡ false =
    rw c.in-Ok.ensures.ok (not_there c.args.code.now keys none) in
    let good : is_err c.insert.result ≡ false = sym c.is_err.ensures.value ∙ c.if-is_err.false in
    let added = rw absent at (on-ok c.insert.result good c.insert.ensures.keys) in
    rw (added, map-append string_bytes keys (c.in-Ok.code ∷ []), c.in-Ok.ensures.ok)
    (ap (λ (codes : List (List ℕ)). codes ++ c.args.code.now ∷ []) c.self.view_is)
