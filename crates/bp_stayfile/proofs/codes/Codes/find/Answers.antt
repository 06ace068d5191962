use Rattle.std.proofs.Common.{◌∙◌, sym, ap, string_bytes, List, ℕ}
use Rattle.std.specs.Str.{bytes_eq}
use Rattle.bp_stayfile.specs.Codes.{stay_with}
use Rattle.bp_stayfile.proofs.CodeLemmas.{position-map}
use Rattle.bp_stayfile.proofs.codes.Codes.find.Goals as goal

pub returns-in-Some : goal.returns-in-Some
returns-in-Some c =
    c.in-Some.ensures.index ∙ sym (position-map (bytes_eq c.args.code.now) string_bytes c.self.inside.codes.keys)
    ∙ ap (λ (codes : List (List ℕ)). stay_with codes c.args.code.now) c.self.view_is

pub returns-in-None : goal.returns-in-None
returns-in-None c =
    c.in-None.ensures.index ∙ sym (position-map (bytes_eq c.args.code.now) string_bytes c.self.inside.codes.keys)
    ∙ ap (λ (codes : List (List ℕ)). stay_with codes c.args.code.now) c.self.view_is
