use Rattle.std.proofs.Common.{◌∙◌, ◌++◌, ◌∷◌, [], ap}
use Rattle.bp_text.specs.Lines.{text_of}
use Rattle.bp_journal.specs.Journals.{entry_text}
use Rattle.bp_journal.proofs.WritingLemmas.{entry_of, certificate_of, place_stopped, place_plain, place_certified}
use Rattle.bp_journal.proofs.writing.draft_place.Goals as goal

-- what is handed to the draft is the line of the entry
pub returns-in_err-push-clause-writes : goal.returns-in_err-push-clause-writes
returns-in_err-push-clause-writes g c =
    let H = c.args.book.now.history in
    let entry = entry_of H c.args.place c.in-Some.entry c.requires.within c.in-Some.ensures in
    let spelt = c.deref.ensures.value ∙ c.in_ok-push_entry.ensures ∙ ap (λ t. t ++ text_of (entry_text c.args.place c.in-Some.entry ∷ [])) c.requires.empty in
    place_stopped _ _ c.args.draft.now _ c.deref.result.now H c.args.place c.in-Some.entry _ entry spelt c.from_residual-in_err-push.ensures.0
    c.in_err-push.ensures.writes

pub returns-in-None-clause-writes : goal.returns-in-None-clause-writes
returns-in-None-clause-writes g c =
    let H = c.args.book.now.history in
    let entry = entry_of H c.args.place c.in-Some.entry c.requires.within c.in-Some.ensures in
    let spelt = c.deref.ensures.value ∙ c.in_ok-push_entry.ensures ∙ ap (λ t. t ++ text_of (entry_text c.args.place c.in-Some.entry ∷ [])) c.requires.empty in
    place_plain _ _ c.args.draft.now _ c.deref.result.now H c.args.place c.in-Some.entry entry spelt (c.in-None.ensures ∙
    certificate_of H c.args.place c.requires.within) c.in_ok-push.ensures.writes

pub returns-in-Some-certificate-clause-writes : goal.returns-in-Some-certificate-clause-writes
returns-in-Some-certificate-clause-writes g c =
    let H = c.args.book.now.history in
    let entry = entry_of H c.args.place c.in-Some.entry c.requires.within c.in-Some.ensures in
    let spelt = c.deref.ensures.value ∙ c.in_ok-push_entry.ensures ∙ ap (λ t. t ++ text_of (entry_text c.args.place c.in-Some.entry ∷ [])) c.requires.empty in
    place_certified _ _ _ c.args.draft.now c.push.new.self _ c.deref.result.now H c.args.place c.in-Some.entry c.in-Some-certificate.certificate.now _ entry
    spelt
    (c.in-Some-certificate.ensures ∙ certificate_of H c.args.place c.requires.within) c.in_ok-push.ensures.writes c.draft_claim.ensures.writes
