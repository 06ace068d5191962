use Rattle.std.proofs.Common.{◌≡◌, ◌<◌, ◌++◌, ◌∷◌, ◌∙◌, ℕ, List, [], length, get_or, ap, subst, arith, zero-add}
use Rattle.std.proofs.lemmas.List.FromFn.{length-map-range_with_len, get_or-map-range_with_len}
use Rattle.bp_edges.specs.Writing.{AppendedPrefix}
use Rattle.bp_types.specs.House.{Inn}
use Rattle.bp_core.specs.Lines.{History}
use Rattle.bp_core.specs.Instance.{forecast_of}
use Rattle.bp_text.specs.Drafts.{IsDrafted}
use Rattle.bp_text.specs.Lines.{Line}
use Rattle.bp_report.specs.declared.tally.Tally.{Tally}
use Rattle.bp_report.specs.Tallies.{no_tally, tally_of, tallies_of}
use Rattle.bp_report.specs.Tables.{stay_line}
use Rattle.bp_report.proofs.RowLemmas.{row_drafted, row_refused}
use Rattle.bp_report.proofs.stays.draft_lines.Goals as goal

-- the line of a stay by what was read for it
row_is : (codes : List (List ℕ)) (h : Inn) (H : History) (tallies : List Tally) (stay : ℕ) (code : List ℕ) (forecast : ℕ) → stay < length codes →
    tallies ≡ tallies_of H (length codes) (length H) → code ≡ get_or codes stay [] → forecast ≡ forecast_of h H stay
    → stay_line code (get_or tallies stay no_tally) forecast ≡ stay_line (get_or codes stay []) (tally_of H (length H) stay) (forecast_of h H stay)
row_is codes h H tallies stay code forecast within all named expected =
    let tally = ap (λ (l : List Tally). get_or l stay no_tally) all ∙
    get_or-map-range_with_len (tally_of H (length H)) 0 (length codes) stay stay no_tally within (zero-add stay) in
    ap (λ c. stay_line c (get_or tallies stay no_tally) forecast) named
    ∙ ap (λ t. stay_line (get_or codes stay []) t forecast) tally
    ∙ ap (stay_line (get_or codes stay []) (tally_of H (length H) stay)) expected

pub bounds-tallies-stay : goal.bounds-tallies-stay
bounds-tallies-stay g c =
    let H = c.args.book.now.history in
    omega (
      arith,
      c.count-stay-end.ensures.value,
      ap (λ (l : List Tally). length l) c.requires.tallies,
      length-map-range_with_len (tally_of H (length H)) 0 (length c.args.codes.now),
    )

pub returns-in_err-draft_stay-clause-writes : goal.returns-in_err-draft_stay-clause-writes
returns-in_err-draft_stay-clause-writes g c =
    let within : c.loop-stay.stay < length c.args.codes.now = omega (arith, c.count-stay-end.ensures.value) in
    let is = row_is c.args.codes.now c.args.book.now.house c.args.book.now.history c.args.tallies.now c.loop-stay.stay c.code.result.now c.forecast.result
    within c.requires.tallies c.code.ensures c.forecast.ensures in
    let P : Line → Type 0 = λ row. AppendedPrefix (g.K.Sink.written c.loop-stay.out) (g.K.Sink.written c.draft_stay.new.out)
    (c.loop-stay.draft ++ (row ++ 10 ∷ [])) in
    row_refused _ _ _ c.args.draft.now c.loop-stay.draft _
    (λ j. stay_line (get_or c.args.codes.now j []) (tally_of c.args.book.now.history (length c.args.book.now.history) j)
    (forecast_of c.args.book.now.house c.args.book.now.history j)) c.loop-stay.stay (length c.args.codes.now) _ within c.loop-stay.invariant.drafted
    (subst P is c.in_err-draft_stay.ensures.writes) c.from_residual.ensures.0

pub loop-stay-preserved : goal.loop-stay-preserved
loop-stay-preserved g c =
    let so_far = c.loop-stay.invariant in
    let within : c.loop-stay.stay < length c.args.codes.now = omega (arith, c.count-stay-end.ensures.value) in
    let is = row_is c.args.codes.now c.args.book.now.house c.args.book.now.history c.args.tallies.now c.loop-stay.stay c.code.result.now c.forecast.result
    within c.requires.tallies c.code.ensures c.forecast.ensures in
    let P : Line → Type 0 = λ row. IsDrafted (g.K.Sink.written c.loop-stay.out) (g.K.Sink.written c.draft_stay.new.out) c.draft_stay.new.draft
    (c.loop-stay.draft ++ (row ++ 10 ∷ [])) in
    record {
      drafted = row_drafted c.args.draft.now c.loop-stay.draft c.draft_stay.new.draft
          (λ j. stay_line (get_or c.args.codes.now j []) (tally_of c.args.book.now.history (length c.args.book.now.history) j)
          (forecast_of c.args.book.now.house c.args.book.now.history j)) c.loop-stay.stay so_far.drafted (subst P is c.in_ok-draft_stay.ensures.writes);
      steady = λ s. c.in_ok-draft_stay.ensures.steady (so_far.steady s);
      faults = omega (arith, so_far.faults, c.in_ok-draft_stay.ensures.faults);
    }
