use Rattle.std.proofs.Common.{◌∙◌, sym, ap, option_and_then}
use Rattle.std.specs.Option.{option_map}
use Rattle.bp_board.specs.Posted.{Posted}
use Rattle.bp_core.specs.Acting.{Diary}
use Rattle.bp_core.specs.Lines.{certificate_at}
use Rattle.bp_core.specs.Log.{published_number}
use Rattle.bp_core.proofs.Certificates.{numbered, found}
use Rattle.bp_core.proofs.book.Book.certificate.Goals as goal

pub returns-in-Some : goal.returns-in-Some
returns-in-Some c =
    let H = c.self.inside.log.lines in
    let number = sym c.in-Some.is ∙ c.published_number.ensures ∙ ap (option_and_then published_number) c.entry-entry.ensures in
    c.certificate_of.ensures ∙ ap (option_map (λ (b : Posted). b.certificate)) c.board.ensures ∙ ap (numbered H) number ∙
    found c.self.inside.house H c.args.place c.self.invariant.legal ∙ ap (λ (b : Diary). certificate_at b.history c.args.place) c.self.view_is

pub returns-in-None : goal.returns-in-None
returns-in-None c =
    let H = c.self.inside.log.lines in
    let number = sym c.in-None.is ∙ c.published_number.ensures ∙ ap (option_and_then published_number) c.entry-entry.ensures in
    ap (numbered H) number ∙ found c.self.inside.house H c.args.place c.self.invariant.legal ∙
    ap (λ (b : Diary). certificate_at b.history c.args.place) c.self.view_is
