-- The lines of a sheet, one more at a time.
use Rattle.std.proofs.Common.{◌≡◌, ℕ, suc, ◌+◌, ◌<◌, refl, ap, sym, ◌∙◌, arith, List, [], ◌∷◌, ◌++◌, length, take, get_or, Option}
use Rattle.std.proofs.lemmas.List.{append_assoc, length-take}
use Rattle.std.proofs.Math.Seq.{take-suc}
use Rattle.bp_text.specs.Lines.{Line, text_of}
use Rattle.bp_sheets.specs.declared.band.Band.{Band}
use Rattle.bp_sheets.specs.Lengths.{hurdles}
use Rattle.bp_sheets.specs.Sheets.{night_line, night_lines, arrival_line, arrival_lines}

night_lines_more : (night : ℕ) (bands : List Band) (band : Band) (last : ℕ) → last ≡ night + length bands →
    text_of (night_lines night (bands ++ band ∷ [])) ≡ text_of (night_lines night bands) ++ text_of (night_line last band ∷ [])
night_lines_more night [] band last is = ap (λ n. text_of (night_line n band ∷ [])) (omega arith)
night_lines_more night (b ∷ bands) band last is =
    let line = night_line night b ++ 10 ∷ [] in
    ap (λ t. line ++ t) (night_lines_more (night + 1) bands band last (omega arith))
    ∙ sym (append_assoc line (text_of (night_lines (night + 1) bands)) (text_of (night_line last band ∷ [])))

arrival_lines_more : (prices : List ℕ) (night : ℕ) (lengths : List (Option ℕ)) (least : Option ℕ) (last : ℕ) → last ≡ night + length lengths →
    text_of (arrival_lines prices night (lengths ++ least ∷ [])) ≡
    text_of (arrival_lines prices night lengths) ++ text_of (arrival_line last least (hurdles prices last) ∷ [])
arrival_lines_more prices night [] least last is = ap (λ n. text_of (arrival_line n least (hurdles prices n) ∷ [])) (omega arith)
arrival_lines_more prices night (k ∷ lengths) least last is =
    let line = arrival_line night k (hurdles prices night) ++ 10 ∷ [] in
    ap (λ t. line ++ t) (arrival_lines_more prices (night + 1) lengths least last (omega arith))
    ∙ sym (append_assoc line (text_of (arrival_lines prices (night + 1) lengths)) (text_of (arrival_line last least (hurdles prices last) ∷ [])))

-- a text with the line of the next band behind it has the lines of one band more
pub with_night : (front old new : List ℕ) (bands : List Band) (n : ℕ) (d : Band) → n < length bands →
    old ≡ front ++ text_of (night_lines 0 (take n bands)) → new ≡ old ++ text_of (night_line n (get_or bands n d) ∷ []) →
    new ≡ front ++ text_of (night_lines 0 (take (n + 1) bands))
with_night front old new bands n d within was is =
    let line = text_of (night_line n (get_or bands n d) ∷ []) in
    let lines = text_of (night_lines 0 (take n bands)) in
    let one : n + 1 ≡ suc n = omega arith in
    let taken : take (n + 1) bands ≡ take n bands ++ get_or bands n d ∷ [] = ap (λ k. take k bands) one ∙ take-suc bands n d within in
    let here : n ≡ 0 + length (take n bands) = (let so_many = length-take n bands in omega arith) in
    is ∙ ap (λ t. t ++ line) was ∙ append_assoc front lines line
    ∙ ap (λ t. front ++ t) (sym (ap (λ l. text_of (night_lines 0 l)) taken ∙ night_lines_more 0 (take n bands) (get_or bands n d) n here))

-- a text with the line of the next arrival behind it has the lines of one arrival more
pub with_arrival : (front old new prices costs : List ℕ) (lengths : List (Option ℕ)) (n : ℕ) (d : Option ℕ) → n < length lengths → costs ≡ hurdles prices n →
    old ≡ front ++ text_of (arrival_lines prices 0 (take n lengths)) → new ≡ old ++ text_of (arrival_line n (get_or lengths n d) costs ∷ []) →
    new ≡ front ++ text_of (arrival_lines prices 0 (take (n + 1) lengths))
with_arrival front old new prices costs lengths n d within same was is =
    let line = text_of (arrival_line n (get_or lengths n d) (hurdles prices n) ∷ []) in
    let lines = text_of (arrival_lines prices 0 (take n lengths)) in
    let one : n + 1 ≡ suc n = omega arith in
    let taken : take (n + 1) lengths ≡ take n lengths ++ get_or lengths n d ∷ [] = ap (λ k. take k lengths) one ∙ take-suc lengths n d within in
    let here : n ≡ 0 + length (take n lengths) = (let so_many = length-take n lengths in omega arith) in
    is ∙ ap (λ h. old ++ text_of (arrival_line n (get_or lengths n d) h ∷ [])) same ∙ ap (λ t. t ++ line) was ∙ append_assoc front lines line
    ∙ ap (λ t. front ++ t) (sym (ap (λ l. text_of (arrival_lines prices 0 l)) taken ∙ arrival_lines_more prices 0 (take n lengths) (get_or lengths n d) n here))
