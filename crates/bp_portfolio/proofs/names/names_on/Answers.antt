use Rattle.std.proofs.Common.{◌≡◌, ◌∙◌, ap, sym, List, [], ◌∷◌}
use Rattle.bp_text.specs.Words.{Word, split}
use Rattle.bp_text.proofs.WordLemmas.{split_back}
use Rattle.bp_portfolio.specs.Lists.{FiveNames, other_names}
use Rattle.bp_portfolio.proofs.NameLemmas.{named_five, not_names}
use Rattle.bp_portfolio.proofs.names.names_on.Goals as goal

pub returns-in_err-hotel : goal.returns-in_err-hotel
returns-in_err-hotel c =
    rw c.from_residual.ensures (not_names c.args.line.now (c.new-words.result) (sym c.new-words.ensures) (λ n f e.
    let t : c.new-words.result ≡ n.hotel ∷ other_names n = cc in
    c.in_err-hotel.ensures n.hotel (other_names n) f.hotel t))

pub returns-in_err-stays : goal.returns-in_err-stays
returns-in_err-stays c =
    let s1 : split c.args.line.now ≡ c.in_ok-hotel.hotel.now ∷ c.file_name.new.words = sym c.new-words.ensures ∙ c.in_ok-hotel.ensures.1 in
    rw c.from_residual-in_err-stays.ensures (not_names c.args.line.now (c.in_ok-hotel.hotel.now ∷ c.file_name.new.words) (s1) (λ n f e.
    let t : c.file_name.new.words ≡ n.stays ∷ n.forecast ∷ n.bookings ∷ n.script ∷ [] = cc in
    c.in_err-stays.ensures n.stays (n.forecast ∷ n.bookings ∷ n.script ∷ []) f.stays t))

pub returns-in_err-forecast : goal.returns-in_err-forecast
returns-in_err-forecast c =
    let s1 : split c.args.line.now ≡ c.in_ok-hotel.hotel.now ∷ c.file_name.new.words = sym c.new-words.ensures ∙ c.in_ok-hotel.ensures.1 in
    let s2 : split c.args.line.now ≡ c.in_ok-hotel.hotel.now ∷ c.in_ok-stays.stays.now ∷ c.file_name-2.new.words = s1 ∙
    ap (λ ws. c.in_ok-hotel.hotel.now ∷ ws) c.in_ok-stays.ensures.1 in
    rw c.from_residual-in_err-forecast.ensures
    (not_names c.args.line.now (c.in_ok-hotel.hotel.now ∷ c.in_ok-stays.stays.now ∷ c.file_name-2.new.words) (s2) (λ n f e.
    let t : c.file_name-2.new.words ≡ n.forecast ∷ n.bookings ∷ n.script ∷ [] = cc in
    c.in_err-forecast.ensures n.forecast (n.bookings ∷ n.script ∷ []) f.forecast t))

pub returns-in_err-bookings : goal.returns-in_err-bookings
returns-in_err-bookings c =
    let s1 : split c.args.line.now ≡ c.in_ok-hotel.hotel.now ∷ c.file_name.new.words = sym c.new-words.ensures ∙ c.in_ok-hotel.ensures.1 in
    let s2 : split c.args.line.now ≡ c.in_ok-hotel.hotel.now ∷ c.in_ok-stays.stays.now ∷ c.file_name-2.new.words = s1 ∙
    ap (λ ws. c.in_ok-hotel.hotel.now ∷ ws) c.in_ok-stays.ensures.1 in
    let s3 : split c.args.line.now ≡ c.in_ok-hotel.hotel.now ∷ c.in_ok-stays.stays.now ∷ c.in_ok-forecast.forecast.now ∷ c.file_name-3.new.words = s2 ∙
    ap (λ ws. c.in_ok-hotel.hotel.now ∷ c.in_ok-stays.stays.now ∷ ws) c.in_ok-forecast.ensures.1 in
    rw c.from_residual-in_err-bookings.ensures
    (not_names c.args.line.now (c.in_ok-hotel.hotel.now ∷ c.in_ok-stays.stays.now ∷ c.in_ok-forecast.forecast.now ∷ c.file_name-3.new.words) (s3) (λ n f e.
    let t : c.file_name-3.new.words ≡ n.bookings ∷ n.script ∷ [] = cc in
    c.in_err-bookings.ensures n.bookings (n.script ∷ []) f.bookings t))

pub returns-in_err-script : goal.returns-in_err-script
returns-in_err-script c =
    let s1 : split c.args.line.now ≡ c.in_ok-hotel.hotel.now ∷ c.file_name.new.words = sym c.new-words.ensures ∙ c.in_ok-hotel.ensures.1 in
    let s2 : split c.args.line.now ≡ c.in_ok-hotel.hotel.now ∷ c.in_ok-stays.stays.now ∷ c.file_name-2.new.words = s1 ∙
    ap (λ ws. c.in_ok-hotel.hotel.now ∷ ws) c.in_ok-stays.ensures.1 in
    let s3 : split c.args.line.now ≡ c.in_ok-hotel.hotel.now ∷ c.in_ok-stays.stays.now ∷ c.in_ok-forecast.forecast.now ∷ c.file_name-3.new.words = s2 ∙
    ap (λ ws. c.in_ok-hotel.hotel.now ∷ c.in_ok-stays.stays.now ∷ ws) c.in_ok-forecast.ensures.1 in
    let s4 : split c.args.line.now ≡
    c.in_ok-hotel.hotel.now ∷ c.in_ok-stays.stays.now ∷ c.in_ok-forecast.forecast.now ∷ c.in_ok-bookings.bookings.now ∷ c.file_name-4.new.words = s3 ∙
    ap (λ ws. c.in_ok-hotel.hotel.now ∷ c.in_ok-stays.stays.now ∷ c.in_ok-forecast.forecast.now ∷ ws) c.in_ok-bookings.ensures.1 in
    rw c.from_residual-in_err-script.ensures
    (not_names c.args.line.now
    (c.in_ok-hotel.hotel.now ∷ c.in_ok-stays.stays.now ∷ c.in_ok-forecast.forecast.now ∷ c.in_ok-bookings.bookings.now ∷ c.file_name-4.new.words) (s4)
    (λ n f e.
    let t : c.file_name-4.new.words ≡ n.script ∷ [] = cc in
    c.in_err-script.ensures n.script ([]) f.script t))

pub returns-in-Some : goal.returns-in-Some
returns-in-Some c =
    let s1 : split c.args.line.now ≡ c.in_ok-hotel.hotel.now ∷ c.file_name.new.words = sym c.new-words.ensures ∙ c.in_ok-hotel.ensures.1 in
    let s2 : split c.args.line.now ≡ c.in_ok-hotel.hotel.now ∷ c.in_ok-stays.stays.now ∷ c.file_name-2.new.words = s1 ∙
    ap (λ ws. c.in_ok-hotel.hotel.now ∷ ws) c.in_ok-stays.ensures.1 in
    let s3 : split c.args.line.now ≡ c.in_ok-hotel.hotel.now ∷ c.in_ok-stays.stays.now ∷ c.in_ok-forecast.forecast.now ∷ c.file_name-3.new.words = s2 ∙
    ap (λ ws. c.in_ok-hotel.hotel.now ∷ c.in_ok-stays.stays.now ∷ ws) c.in_ok-forecast.ensures.1 in
    let s4 : split c.args.line.now ≡
    c.in_ok-hotel.hotel.now ∷ c.in_ok-stays.stays.now ∷ c.in_ok-forecast.forecast.now ∷ c.in_ok-bookings.bookings.now ∷ c.file_name-4.new.words = s3 ∙
    ap (λ ws. c.in_ok-hotel.hotel.now ∷ c.in_ok-stays.stays.now ∷ c.in_ok-forecast.forecast.now ∷ ws) c.in_ok-bookings.ensures.1 in
    let s5 : split c.args.line.now ≡
    c.in_ok-hotel.hotel.now ∷ c.in_ok-stays.stays.now ∷ c.in_ok-forecast.forecast.now ∷ c.in_ok-bookings.bookings.now ∷ c.in_ok-script.script.now ∷
    c.file_name-5.new.words = s4 ∙
    ap (λ ws. c.in_ok-hotel.hotel.now ∷ c.in_ok-stays.stays.now ∷ c.in_ok-forecast.forecast.now ∷ c.in_ok-bookings.bookings.now ∷ ws)
    c.in_ok-script.ensures.1 in
    not_names c.args.line.now
    (c.in_ok-hotel.hotel.now ∷ c.in_ok-stays.stays.now ∷ c.in_ok-forecast.forecast.now ∷ c.in_ok-bookings.bookings.now ∷ c.in_ok-script.script.now ∷
    c.file_name-5.new.words) s5 (λ n f e.
    let t : c.file_name-5.new.words ≡ [] = cc in
    let some = c.in-Some.ensures in
    cc)

pub returns-in-None : goal.returns-in-None
returns-in-None c =
    let s1 : split c.args.line.now ≡ c.in_ok-hotel.hotel.now ∷ c.file_name.new.words = sym c.new-words.ensures ∙ c.in_ok-hotel.ensures.1 in
    let s2 : split c.args.line.now ≡ c.in_ok-hotel.hotel.now ∷ c.in_ok-stays.stays.now ∷ c.file_name-2.new.words = s1 ∙
    ap (λ ws. c.in_ok-hotel.hotel.now ∷ ws) c.in_ok-stays.ensures.1 in
    let s3 : split c.args.line.now ≡ c.in_ok-hotel.hotel.now ∷ c.in_ok-stays.stays.now ∷ c.in_ok-forecast.forecast.now ∷ c.file_name-3.new.words = s2 ∙
    ap (λ ws. c.in_ok-hotel.hotel.now ∷ c.in_ok-stays.stays.now ∷ ws) c.in_ok-forecast.ensures.1 in
    let s4 : split c.args.line.now ≡
    c.in_ok-hotel.hotel.now ∷ c.in_ok-stays.stays.now ∷ c.in_ok-forecast.forecast.now ∷ c.in_ok-bookings.bookings.now ∷ c.file_name-4.new.words = s3 ∙
    ap (λ ws. c.in_ok-hotel.hotel.now ∷ c.in_ok-stays.stays.now ∷ c.in_ok-forecast.forecast.now ∷ ws) c.in_ok-bookings.ensures.1 in
    let s5 : split c.args.line.now ≡
    c.in_ok-hotel.hotel.now ∷ c.in_ok-stays.stays.now ∷ c.in_ok-forecast.forecast.now ∷ c.in_ok-bookings.bookings.now ∷ c.in_ok-script.script.now ∷
    c.file_name-5.new.words = s4 ∙
    ap (λ ws. c.in_ok-hotel.hotel.now ∷ c.in_ok-stays.stays.now ∷ c.in_ok-forecast.forecast.now ∷ c.in_ok-bookings.bookings.now ∷ ws)
    c.in_ok-script.ensures.1 in
    let names : FiveNames = record {
      hotel = c.in_ok-hotel.hotel.now;
      stays = c.in_ok-stays.stays.now;
      forecast = c.in_ok-forecast.forecast.now;
      bookings =
          c.in_ok-bookings.bookings.now;
      script = c.in_ok-script.script.now;
    } in (
      named_five names (record {
        hotel = c.in_ok-hotel.ensures.0;
        stays = c.in_ok-stays.ensures.0;
        forecast = c.in_ok-forecast.ensures.0;
        bookings =
            c.in_ok-bookings.ensures.0;
        script = c.in_ok-script.ensures.0;
      }),
      split_back c.args.line.now names.hotel (other_names names) (s5 ∙
          ap (λ ws. c.in_ok-hotel.hotel.now ∷ c.in_ok-stays.stays.now ∷ c.in_ok-forecast.forecast.now ∷ c.in_ok-bookings.bookings.now ∷
          c.in_ok-script.script.now ∷ ws) c.in-None.ensures.0),
    )
