-- The text of a certificate, line by line.
use Rattle.std.proofs.Common.{◌≡◌, ℕ, zero, suc, ◌<◌, ◌≤◌, refl, ap, sym, subst, ◌∙◌, arith, List, [], ◌∷◌, ◌++◌, length, All, append_assoc, length-append}
use Rattle.std.specs.Prelude.{codes, Err}
use Rattle.bp_types.specs.Claim.{Claim}
use Rattle.bp_types.specs.declared.limits.TheConstants.{MOST_NIGHTS, MOST_STAYS, MOST_VALUE}
use Rattle.bp_text.specs.declared.text_error.TextError.{TextError}
use Rattle.bp_text.specs.declared.text_error.TextError.TheVariants.{BadLine, Limit, TooShort, Trailing, Memory}
use Rattle.bp_text.specs.Lines.{Line, Given, line_of}
use Rattle.bp_text.specs.Forms.{AreWithin}
use Rattle.bp_text.specs.Reading.{Begins, GivesLines, IsReading}
use Rattle.bp_cert.specs.Texts.{claim_lines, all_certificate_lines, IsSpeakable}
use Rattle.bp_text.proofs.LineLemmas.{line_injective}
use Rattle.bp_text.proofs.NextLemmas.{only_number, word_alone, no_numbers}
use Rattle.bp_text.proofs.EndLemmas.{line_in_front}
use Rattle.bp_cert.proofs.EndsOfTexts.{claim_no_ends, certificate_no_ends, first_line_of_certificate}
use Rattle.bp_text.proofs.StageLemmas.{IsStage, more_lines}

heads : (a b : Line) (xs ys : List Line) → a ∷ xs ≡ b ∷ ys → a ≡ b
heads a b xs ys e = cc

tails : (a b : Line) (xs ys : List Line) → a ∷ xs ≡ b ∷ ys → xs ≡ ys
tails a b xs ys e = cc

abbrev pub value_line : ℕ → Line
value_line n = line_of (codes "value") (n ∷ [])

abbrev pub sell_line : List ℕ → Line
sell_line ns = line_of (codes "sell") ns

abbrev pub prices_line : List ℕ → Line
prices_line ns = line_of (codes "prices") ns

nothing_within : (P : ℕ → Type 0) → All P []
nothing_within P k d h = absurd (omega arith)

pub speakable : (value : ℕ) (sell prices : List ℕ) → value ≤ MOST_VALUE → AreWithin (record { most = MOST_STAYS; greatest = 18446744073709551615 }) sell →
    AreWithin (record { most = MOST_NIGHTS; greatest = 18446744073709551615 }) prices →
    IsSpeakable (record { value = value; sell = sell; prices = prices })
speakable value sell prices small sales nights = record { value = small; stays = sales.0; nights = nights.0; sell = sales.1; prices = nights.1 }

none_within : (most : ℕ) → AreWithin (record { most = most; greatest = 18446744073709551615 }) []
none_within most = (omega arith, nothing_within _)

pub stage_value : IsStage claim_lines IsSpeakable [] (codes "value") (λ ns. length ns ≡ 1) (λ ns. All (λ n. n ≤ MOST_VALUE) ns)
stage_value =
    let c : Claim = record { value = 0; sell = []; prices = [] } in
    record {
      no_ends = claim_no_ends;
      begins = (c, value_line 0, sell_line [] ∷ prices_line [] ∷ [], speakable 0 [] [] (omega arith) (none_within MOST_STAYS) (none_within MOST_NIGHTS), refl);
      form = λ v line more e. (v.value ∷ [], refl, sym (heads (value_line v.value) line (sell_line v.sell ∷ prices_line v.prices ∷ []) more e));
      some = λ ns one.
          let n = only_number ns one in (
            record { value = n.0; sell = []; prices = [] },
            sell_line [] ∷ prices_line [] ∷ [],
            ap (λ l. l ∷ sell_line [] ∷ prices_line [] ∷ []) (ap (line_of (codes "value")) (sym n.1)),
          );
      fine = λ v ns more within one e.
          let is = line_injective (codes "value") (v.value ∷ []) ns
          (heads (value_line v.value) (line_of (codes "value") ns) (sell_line v.sell ∷ prices_line v.prices ∷ []) more e) in
          let P : List ℕ → Type 0 = λ ns. All (λ n. n ≤ MOST_VALUE) ns in
          subst P is (one_small v.value within.value);
    }
  where
    one_small : (n : ℕ) → n ≤ MOST_VALUE → All (λ n. n ≤ MOST_VALUE) (n ∷ [])
    one_small n small zero d h = small
    one_small n small (suc k) d h = absurd (omega arith)

pub stage_sell : (value : ℕ) → value ≤ MOST_VALUE →
    IsStage claim_lines IsSpeakable (value_line value ∷ []) (codes "sell") (λ _. Unit {0})
    (AreWithin (record { most = MOST_STAYS; greatest = 18446744073709551615 }))
stage_sell value small =
    let c : Claim = record { value = value; sell = []; prices = [] } in
    let behind : (v : Claim) (rest : List Line) → claim_lines v ≡ value_line value ∷ rest →
    sell_line v.sell ∷ prices_line v.prices ∷ [] ≡ rest =
    λ v rest e. tails (value_line v.value) (value_line value) (sell_line v.sell ∷ prices_line v.prices ∷ []) rest e in
    record {
      no_ends = claim_no_ends;
      begins = (c, sell_line [], prices_line [] ∷ [], speakable value [] [] small (none_within MOST_STAYS) (none_within MOST_NIGHTS), refl);
      form = λ v line more e. (v.sell, tt, sym (heads (sell_line v.sell) line (prices_line v.prices ∷ []) more (behind v (line ∷ more) e)));
      some = λ ns any. (record { value = value; sell = ns; prices = [] }, prices_line [] ∷ [], refl);
      fine = λ v ns more within any e.
          let is = line_injective (codes "sell") v.sell ns
          (heads (sell_line v.sell) (sell_line ns) (prices_line v.prices ∷ []) more (behind v (sell_line ns ∷ more) e)) in
          let P : List ℕ → Type 0 = λ ns. AreWithin (record { most = MOST_STAYS; greatest = 18446744073709551615 }) ns in
          subst P is (within.stays, within.sell);
    }

pub stage_prices : (value : ℕ) (sell : List ℕ) → value ≤ MOST_VALUE → AreWithin (record { most = MOST_STAYS; greatest = 18446744073709551615 }) sell →
    IsStage claim_lines IsSpeakable (value_line value ∷ sell_line sell ∷ []) (codes "prices") (λ _. Unit {0})
    (AreWithin (record { most = MOST_NIGHTS; greatest = 18446744073709551615 }))
stage_prices value sell small sales =
    let c : Claim = record { value = value; sell = sell; prices = [] } in
    let behind : (v : Claim) (rest : List Line) → claim_lines v ≡ value_line value ∷ sell_line sell ∷ rest → prices_line v.prices ∷ [] ≡ rest =
    λ v rest e. tails (sell_line v.sell) (sell_line sell) (prices_line v.prices ∷ []) rest
    (tails (value_line v.value) (value_line value) (sell_line v.sell ∷ prices_line v.prices ∷ []) (sell_line sell ∷ rest) e) in
    record {
      no_ends = claim_no_ends;
      begins = (c, prices_line [], [], speakable value sell [] small sales (none_within MOST_NIGHTS), refl);
      form = λ v line more e. (v.prices, tt, sym (heads (prices_line v.prices) line [] more (behind v (line ∷ more) e)));
      some = λ ns any. (record { value = value; sell = sell; prices = ns }, [], refl);
      fine = λ v ns more within any e.
          let is = line_injective (codes "prices") v.prices ns (heads (prices_line v.prices) (prices_line ns) [] more (behind v (prices_line ns ∷ more) e)) in
          let P : List ℕ → Type 0 = λ ns. AreWithin (record { most = MOST_NIGHTS; greatest = 18446744073709551615 }) ns in
          subst P is (within.nights, within.prices);
    }

-- where the lines of a claim stand in those of a certificate
cut_front : (xs front : List Line) (t line : Line) (more : List Line) → xs ++ t ∷ [] ≡ front ++ line ∷ more → length front < length xs →
    (rest : List Line) × (xs ≡ front ++ line ∷ rest)
cut_front [] front t line more e short = absurd (omega arith)
cut_front (x ∷ xs) [] t line more e short = (xs, ap (λ l. l ∷ xs) (heads x line (xs ++ t ∷ []) more e))
cut_front (x ∷ xs) (f ∷ front) t line more e short =
    let rest = cut_front xs front t line more (tails x f (xs ++ t ∷ []) (front ++ line ∷ more) e) (omega arith) in
    (rest.0, ap (λ l. l ∷ xs) (heads x f (xs ++ t ∷ []) (front ++ line ∷ more) e) ∙ ap (λ ls. f ∷ ls) rest.1)

abbrev pub first_line : Line
first_line = codes "certificate 1"

abbrev last_line : Line
last_line = codes "end"

wrapped : (v : Claim) (front : List Line) (line : Line) (more : List Line) → claim_lines v ≡ front ++ line ∷ more →
    all_certificate_lines v ≡ (first_line ∷ front) ++ line ∷ (more ++ last_line ∷ [])
wrapped v front line more e = ap (λ ls. first_line ∷ (ls ++ last_line ∷ [])) e ∙ ap (λ ls. first_line ∷ ls) (append_assoc front (line ∷ more) (last_line ∷ []))

begins_short : (front : List Line) → Begins claim_lines IsSpeakable front → length front < 3
begins_short front b = omega (arith, ap length b.4, length-append front (b.1 ∷ b.2))

unwrapped : (v : Claim) (front : List Line) (line : Line) (more : List Line) → length front < 3 →
    all_certificate_lines v ≡ (first_line ∷ front) ++ line ∷ more → (rest : List Line) × (claim_lines v ≡ front ++ line ∷ rest)
unwrapped v front line more short e =
    cut_front (claim_lines v) front last_line line more (tails first_line first_line (claim_lines v ++ last_line ∷ []) (front ++ line ∷ more) e) (omega arith)

begins_wrapped : (front : List Line) → Begins claim_lines IsSpeakable front → Begins all_certificate_lines IsSpeakable (first_line ∷ front)
begins_wrapped front b = (b.0, b.1, b.2 ++ last_line ∷ [], b.3, wrapped b.0 front b.1 b.2 b.4)

-- what is refused of the claim is refused of the certificate
pub refused_claim : (start old new : Given) (e : TextError) → GivesLines start old (first_line ∷ []) old.rest →
    IsReading claim_lines IsSpeakable old new (Err e) → IsReading all_certificate_lines IsSpeakable start new (Err e)
refused_claim start old new (BadLine place) before r = record {
  front = first_line ∷ r.front;
  line = r.line;
  begins = begins_wrapped r.front r.begins;
  wrong = λ has. let rest = unwrapped has.0 r.front r.line has.1 (begins_short r.front r.begins) has.2 in r.wrong (has.0, rest.0, rest.1);
  no_end = r.no_end;
  gives = more_lines start old new (first_line ∷ []) (r.front ++ r.line ∷ []) before r.gives;
  counted = r.counted;
}
refused_claim start old new (Limit place) before r = record {
  front = first_line ∷ r.front;
  line = r.line;
  begins = begins_wrapped r.front r.begins;
  form = (r.form.0, r.form.1 ++ last_line ∷ [], wrapped r.form.0 r.front r.line r.form.1 r.form.2);
  outside = λ right. let rest = unwrapped right.0 r.front r.line right.1 (begins_short r.front r.begins) right.3 in
      r.outside (right.0, rest.0, right.2, rest.1);
  no_end = r.no_end;
  gives = more_lines start old new (first_line ∷ []) (r.front ++ r.line ∷ []) before r.gives;
  counted = r.counted;
}
refused_claim start old new TooShort before r = record {
  front = first_line ∷ r.front;
  begins = begins_wrapped r.front r.begins;
  gives = more_lines start old new (first_line ∷ []) r.front before r.gives;
  no_end = r.no_end;
}
refused_claim start old new (Trailing place) before r = absurd r
refused_claim start old new Memory before r =
    (first_line ∷ r.0, line_in_front first_line r.0 first_line_of_certificate r.1, more_lines start old new (first_line ∷ []) r.0 before r.2)

pub stage_first : IsStage all_certificate_lines IsSpeakable [] first_line (λ ns. length ns ≡ 0) (λ _. Unit {0})
stage_first =
    let c : Claim = record { value = 0; sell = []; prices = [] } in
    record {
      no_ends = certificate_no_ends;
      begins = (c, first_line, claim_lines c ++ last_line ∷ [], speakable 0 [] [] (omega arith) (none_within MOST_STAYS) (none_within MOST_NIGHTS), refl);
      form = λ v line more e. ([], refl, sym (heads first_line line (claim_lines v ++ last_line ∷ []) more e) ∙ sym (word_alone first_line));
      some = λ ns none. (
        c,
        claim_lines c ++ last_line ∷ [],
        ap (λ l. l ∷ (claim_lines c ++ last_line ∷ [])) (sym (ap (line_of first_line) (no_numbers ns none) ∙ word_alone first_line)),
      );
      fine = λ v ns more within none e. tt;
    }

pub stage_end : (c : Claim) → IsSpeakable c →
    IsStage all_certificate_lines IsSpeakable (first_line ∷ claim_lines c) last_line (λ ns. length ns ≡ 0) (λ _. Unit {0})
stage_end c within = record {
  no_ends = certificate_no_ends;
  begins = (c, last_line, [], within, refl);
  form = λ v line more e.
      let t = tails first_line first_line (claim_lines v ++ last_line ∷ []) (claim_lines c ++ line ∷ more) e in
      let t' = tails (value_line v.value) (value_line c.value) (sell_line v.sell ∷ prices_line v.prices ∷ last_line ∷ [])
      (sell_line c.sell ∷ prices_line c.prices ∷ line ∷ more) t in
      let t'' = tails (sell_line v.sell) (sell_line c.sell) (prices_line v.prices ∷ last_line ∷ []) (prices_line c.prices ∷ line ∷ more) t' in
      let t''' = tails (prices_line v.prices) (prices_line c.prices) (last_line ∷ []) (line ∷ more) t'' in
      ([], refl, sym (heads last_line line [] more t''') ∙ sym (word_alone last_line));
  some = λ ns none. (c, [], ap (λ l. (first_line ∷ claim_lines c) ++ l ∷ []) (sym (ap (line_of last_line) (no_numbers ns none) ∙ word_alone last_line)));
  fine = λ v ns more within' none e. tt;
}
