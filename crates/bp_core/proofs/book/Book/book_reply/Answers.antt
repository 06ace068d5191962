use Rattle.std.proofs.Common.{◌∙◌, ◌<◌, ◌≤◌, ◌-◌, ap, sym, arith, length, List, ℕ}
use Rattle.std.proofs.lemmas.List.FromFn.{length-map-range_with_len}
use Rattle.bp_types.specs.declared.stay.Span.{Span}
use Rattle.bp_types.specs.declared.stay.Stay.{Stay}
use Rattle.bp_types.specs.Program.{price, no_stay}
use Rattle.bp_types.specs.House.{Inn}
use Rattle.bp_types.specs.Spans.{first_short}
use Rattle.bp_ledger.specs.Inventory.{Inventory, rooms_left_on}
use Rattle.bp_core.specs.Acting.{Diary}
use Rattle.bp_core.specs.Answer.{book_reply}
use Rattle.bp_core.specs.Lines.{History, last_prices}
use Rattle.bp_core.specs.Instance.{rate_of, rooms_left_at}
use Rattle.bp_core.proofs.Boards.{ends_with}
use Rattle.bp_core.proofs.Effects.{number_read}
use Rattle.bp_core.proofs.Replies.{too_low_reply, covered_is_reply}
use Rattle.bp_core.proofs.Resizing.{nights_of_stock}
use Rattle.bp_core.proofs.Stocking.{first_of_stock}
use Rattle.bp_core.proofs.book.Book.book_reply.Goals as goal

pub overflow_sub-vector : goal.overflow_sub-vector
overflow_sub-vector c = omega (arith, c.vectors-vector.ensures, (ends_with _ _ c.self.invariant.legal).some_vector c.self.invariant.legal.some_line)

pub index-rate-requires : goal.index-rate-requires
index-rate-requires c =
    omega (
      arith,
      ap (λ (b : Diary). length b.house.stays) c.self.view_is,
      c.requires,
      c.self.inside.rates.ok.0,
      ap (λ (l : List ℕ). length l) c.self.invariant.rates_are,
      length-map-range_with_len (rate_of c.self.inside.house c.self.inside.log.lines) 0 (length c.self.inside.house.stays),
    )

pub returns-then-rate-sum : goal.returns-then-rate-sum
returns-then-rate-sum c =
    let h : Inn = c.self.inside.house in
    let H : History = c.self.inside.log.lines in
    let within : c.args.stay < length c.self.inside.house.stays = omega (arith, ap (λ (b : Diary). length b.house.stays) c.self.view_is, c.requires) in
    let span = ap (λ (s : Stay). s.span) c.stay.ensures in
    let vector = ap (λ n. n - 1) c.vectors-vector.ensures in
    let prices = c.last_board.ensures.prices ∙ ap (λ (b : Diary). last_prices b.history) (sym c.self.view_is) in
    let sum = c.price-sum.ensures ∙ ap (λ l. price l c.stay.result.span) prices ∙ ap (price (last_prices c.self.inside.log.lines)) span in
    let rate = number_read (rate_of c.self.inside.house c.self.inside.log.lines) (length c.self.inside.house.stays)
    c.args.stay _ c.self.inside.rates.items c.self.invariant.rates_are within c.index-rate.ensures in
    too_low_reply h H c.args.stay _ _ _ vector sum rate c.if-rate-sum.true ∙ ap (λ (b : Diary). book_reply b.house b.history c.args.stay) c.self.view_is

pub first_full-requires : goal.first_full-requires
first_full-requires c =
    let within : c.args.stay < length c.self.inside.house.stays = omega (arith, ap (λ (b : Diary). length b.house.stays) c.self.view_is, c.requires) in
    let span = ap (λ (s : Stay). s.span) c.stay.ensures in
    let spans = c.self.invariant.house.instance.spans c.args.stay no_stay within in
    let ordered : c.stay.result.span.from < c.stay.result.span.to = omega (arith, spans.0, ap (λ (s : Span). s.from) span, ap (λ (s : Span). s.to) span) in
    let inside : c.stay.result.span.to ≤ length c.self.inside.house.rooms = omega (arith, spans.1, ap (λ (s : Span). s.to) span) in
    (ordered, omega (arith, inside, nights_of_stock c.self.inside.house c.self.inside.log.lines _ c.self.invariant.stock))

pub returns-in-Some : goal.returns-in-Some
returns-in-Some c =
    let h : Inn = c.self.inside.house in
    let H : History = c.self.inside.log.lines in
    let within : c.args.stay < length c.self.inside.house.stays = omega (arith, ap (λ (b : Diary). length b.house.stays) c.self.view_is, c.requires) in
    let span = ap (λ (s : Stay). s.span) c.stay.ensures in
    let vector = ap (λ n. n - 1) c.vectors-vector.ensures in
    let prices = c.last_board.ensures.prices ∙ ap (λ (b : Diary). last_prices b.history) (sym c.self.view_is) in
    let sum = c.price-sum.ensures ∙ ap (λ l. price l c.stay.result.span) prices ∙ ap (price (last_prices c.self.inside.log.lines)) span in
    let rate = number_read (rate_of c.self.inside.house c.self.inside.log.lines) (length c.self.inside.house.stays)
    c.args.stay _ c.self.inside.rates.items c.self.invariant.rates_are within c.index-rate.ensures in
    let spans = c.self.invariant.house.instance.spans c.args.stay no_stay within in
    let ordered : c.stay.result.span.from < c.stay.result.span.to = omega (arith, spans.0, ap (λ (s : Span). s.from) span, ap (λ (s : Span). s.to) span) in
    let inside : c.stay.result.span.to ≤ length c.self.inside.house.rooms = omega (arith, spans.1, ap (λ (s : Span). s.to) span) in
    let full = sym c.in-Some.is ∙ c.first_full.ensures ∙ ap (λ (v : Inventory). first_short (rooms_left_on v) c.stay.result.span 1) c.self.invariant.stock ∙
    first_of_stock c.self.inside.house c.self.inside.log.lines c.stay.result.span 1 ordered inside ∙
    ap (λ s. first_short (rooms_left_at c.self.inside.house c.self.inside.log.lines) s 1) span in
    covered_is_reply h H c.args.stay _ _ _ _ vector sum rate c.if-rate-sum.false full ∙
    ap (λ (b : Diary). book_reply b.house b.history c.args.stay) c.self.view_is

pub returns-in-None : goal.returns-in-None
returns-in-None c =
    let h : Inn = c.self.inside.house in
    let H : History = c.self.inside.log.lines in
    let within : c.args.stay < length c.self.inside.house.stays = omega (arith, ap (λ (b : Diary). length b.house.stays) c.self.view_is, c.requires) in
    let span = ap (λ (s : Stay). s.span) c.stay.ensures in
    let vector = ap (λ n. n - 1) c.vectors-vector.ensures in
    let prices = c.last_board.ensures.prices ∙ ap (λ (b : Diary). last_prices b.history) (sym c.self.view_is) in
    let sum = c.price-sum.ensures ∙ ap (λ l. price l c.stay.result.span) prices ∙ ap (price (last_prices c.self.inside.log.lines)) span in
    let rate = number_read (rate_of c.self.inside.house c.self.inside.log.lines) (length c.self.inside.house.stays)
    c.args.stay _ c.self.inside.rates.items c.self.invariant.rates_are within c.index-rate.ensures in
    let spans = c.self.invariant.house.instance.spans c.args.stay no_stay within in
    let ordered : c.stay.result.span.from < c.stay.result.span.to = omega (arith, spans.0, ap (λ (s : Span). s.from) span, ap (λ (s : Span). s.to) span) in
    let inside : c.stay.result.span.to ≤ length c.self.inside.house.rooms = omega (arith, spans.1, ap (λ (s : Span). s.to) span) in
    let full = sym c.in-None.is ∙ c.first_full.ensures ∙ ap (λ (v : Inventory). first_short (rooms_left_on v) c.stay.result.span 1) c.self.invariant.stock ∙
    first_of_stock c.self.inside.house c.self.inside.log.lines c.stay.result.span 1 ordered inside ∙
    ap (λ s. first_short (rooms_left_at c.self.inside.house c.self.inside.log.lines) s 1) span in
    covered_is_reply h H c.args.stay _ _ _ _ vector sum rate c.if-rate-sum.false full ∙
    ap (λ (b : Diary). book_reply b.house b.history c.args.stay) c.self.view_is
