-- What the parts of a summary come to.
use Rattle.std.proofs.Common.{◌≡◌, ℕ, ◌∙◌, ap, subst, arith, [], ◌∷◌, length}
use Rattle.std.proofs.lemmas.List.FromFn.{length-map-range_with_len}
use Rattle.bp_types.specs.Program.{price}
use Rattle.bp_types.specs.Optimum.{IsOptimum}
use Rattle.bp_types.specs.Claim.{Claim, IsCertificateOf, IsLeastCertificate}
use Rattle.bp_types.specs.House.{Inn, IsHouse, opening, units_left}
use Rattle.bp_board.specs.Posted.{Posted, HasPrices}
use Rattle.bp_core.specs.Lines.{History}
use Rattle.bp_core.specs.Instance.{instance_of}
use Rattle.bp_core.specs.Acting.{Diary, opening_line}
use Rattle.bp_demo.specs.declared.counts.Counts.{Counts}
use Rattle.bp_demo.specs.Bookings.{booked_behind, counts_of}
use Rattle.bp_demo.specs.Summaries.{IsSummary, all_nights, all_booked}

-- a certificate of the opening has one price for each night
one_each : (h : Inn) (first : Claim) → IsCertificateOf (opening h) first → length first.prices ≡ length h.rooms
one_each h first certifies = certifies.one_each ∙ length-map-range_with_len (units_left h) 0 (length h.rooms)

pub has_prices : (h : Inn) (first : Claim) → IsHouse h → IsLeastCertificate (opening h) first → HasPrices first
has_prices h first house solved =
    let size = one_each h first solved.certifies in
    record {
      some_night = omega (arith, size, house.instance.some_night);
      nights = omega (arith, size, house.instance.nights);
      within_limit = solved.certifies.within_limit;
    }

-- from a book that was opened to the book behind the last booking
pub summed : (h : Inn) (first : Claim) (board : Posted) (opened closed : Diary) (value prices closing : ℕ) (counts : Counts)
    → IsLeastCertificate (opening h) first → value ≡ first.value → board ≡ record { position = 0; certificate = first }
    → prices ≡ price board.certificate.prices (all_nights (length board.certificate.prices))
    → opened ≡ record { house = h; history = opening_line board ∷ [] }
    → closed.house ≡ opened.house → closed.history ≡ booked_behind opened.house opened.history (length opened.house.stays)
    → counts ≡ counts_of closed.history → IsOptimum (instance_of closed.house closed.history) closing
    → IsSummary h (record { value = value; prices = prices; counts = counts; closing = closing })
summed h first board opened closed value prices closing counts solved value_is board_is prices_are opened_is house_is history_is counts_are optimum =
    let history : closed.history ≡ all_booked h first =
    history_is ∙ ap (λ (d : Diary). booked_behind d.house d.history (length d.house.stays)) opened_is ∙
    ap (λ (b : Posted). booked_behind h (opening_line b ∷ []) (length h.stays)) board_is in
    let house : closed.house ≡ h = house_is ∙ ap (λ (d : Diary). d.house) opened_is in
    let P : Inn → Type 0 = λ k. IsOptimum (instance_of k closed.history) closing in
    let Q : History → Type 0 = λ G. IsOptimum (instance_of h G) closing in
    record {
      first = first;
      solved = solved;
      value = value_is;
      prices = prices_are ∙ ap (λ (b : Posted). price b.certificate.prices (all_nights (length b.certificate.prices))) board_is ∙
          ap (λ n. price first.prices (all_nights n)) (one_each h first solved.certifies);
      counts = counts_are ∙ ap counts_of history;
      closing = subst Q history (subst P house optimum);
    }
