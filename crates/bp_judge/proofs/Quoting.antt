-- Where the last displacement was found.
use Rattle.std.proofs.Common.{
  ◌≡◌,
  ℕ,
  zero,
  suc,
  ◌≤◌,
  ◌∙◌,
  refl,
  ap,
  arith,
  Bool,
  true,
  false,
  ◌==◌,
  if◌then◌else◌,
  [],
  ◌∷◌,
  ◌++◌,
  length,
  take,
  Option,
  Some,
  None,
  is_some,
  length-append,
}
use Rattle.std.specs.Option.{is_none}
use Rattle.std.proofs.lemmas.List.{take-append-le}
use Rattle.std.proofs.Math.ListN.{get_or-append}
use Rattle.std.proofs.Math.Seq.{take-append_seam, get_or-append_seam}
use Rattle.bp_types.specs.declared.stay.Span.{Span}
use Rattle.bp_types.specs.declared.command.Command.{Command}
use Rattle.bp_types.specs.declared.command.Command.TheVariants.{Book, Cancel, Reforecast, Reprice, Resize, Group}
use Rattle.bp_types.specs.House.{Inn}
use Rattle.bp_types.specs.Spans.{first_short}
use Rattle.bp_core.specs.declared.line.Act.{Act}
use Rattle.bp_core.specs.declared.line.Act.TheVariants.{Do as DoAct, Publish as PublishAct}
use Rattle.bp_core.specs.declared.line.Line.{Line}
use Rattle.bp_core.specs.declared.call.Answer.TheVariants.{HistoryFull, Unquoted}
use Rattle.bp_core.specs.declared.call.Call.TheVariants.{Do}
use Rattle.bp_core.specs.Acting.{Diary, refusal}
use Rattle.bp_core.specs.Instance.{rooms_left_at}
use Rattle.bp_core.specs.Lines.{History, line_at, no_line, commands}
use Rattle.bp_core.specs.Replying.{NeedsQuote}
use Rattle.bp_judge.specs.Searches.{wants_quote, quoted_below, last_quoted}

-- a longer history has the same places below
quoted_before : (h : Inn) (H : History) (x : Line) (n : ℕ) → n ≤ length H → quoted_below h (H ++ x ∷ []) n ≡ quoted_below h H n
quoted_before h H x zero within = refl
quoted_before h H x (suc n) within =
    let shorter = take-append-le n H (x ∷ []) (omega (arith, within)) in
    let line = get_or-append H (x ∷ []) no_line n (omega (arith, within)) in
    let wants : wants_quote h (take n (H ++ x ∷ [])) (line_at (H ++ x ∷ []) n).entry.act ≡ wants_quote h (take n H) (line_at H n).entry.act =
    ap (λ (K : History). wants_quote h K (line_at (H ++ x ∷ []) n).entry.act) shorter ∙ ap (λ (y : Line). wants_quote h (take n H) y.entry.act) line in
    ap (λ (b : Bool). if b then Some n else quoted_below h (H ++ x ∷ []) n) wants
    ∙ ap (λ (o : Option ℕ). if wants_quote h (take n H) (line_at H n).entry.act then Some n else o) (quoted_before h H x n (omega (arith, within)))

-- one line more
quoted_more : (h : Inn) (H : History) (x : Line) → last_quoted h (H ++ x ∷ []) ≡ if wants_quote h H x.entry.act then Some (length H) else last_quoted h H
quoted_more h H x =
    let n = length H in
    let size : length (H ++ x ∷ []) ≡ suc n = let e = length-append H (x ∷ []) in omega (arith, e) in
    let wants : wants_quote h (take n (H ++ x ∷ [])) (line_at (H ++ x ∷ []) n).entry.act ≡ wants_quote h H x.entry.act =
    ap (λ (K : History). wants_quote h K (line_at (H ++ x ∷ []) n).entry.act) (take-append_seam H (x ∷ [])) ∙
    ap (λ (y : Line). wants_quote h H y.entry.act) (get_or-append_seam H x [] no_line) in
    ap (quoted_below h (H ++ x ∷ [])) size
    ∙ ap (λ (b : Bool). if b then Some n else quoted_below h (H ++ x ∷ []) n) wants
    ∙ ap (λ (o : Option ℕ). if wants_quote h H x.entry.act then Some n else o) (quoted_before h H x n (omega arith))

-- a line that wants no quote leaves the last place, and one that wants one is it
pub quoted_stays : (h : Inn) (H : History) (x : Line) → wants_quote h H x.entry.act ≡ false → last_quoted h (H ++ x ∷ []) ≡ last_quoted h H
quoted_stays h H x skips = quoted_more h H x ∙ ap (λ (b : Bool). if b then Some (length H) else last_quoted h H) skips

pub quoted_moves : (h : Inn) (H : History) (x : Line) → wants_quote h H x.entry.act ≡ true → last_quoted h (H ++ x ∷ []) ≡ Some (length H)
quoted_moves h H x wants = quoted_more h H x ∙ ap (λ (b : Bool). if b then Some (length H) else last_quoted h H) wants

pub vector_skips : (h : Inn) (H : History) (act : Act) (position : ℕ) → act ≡ PublishAct position → wants_quote h H act ≡ false
vector_skips h H act position is = ap (wants_quote h H) is

pub command_skips : (h : Inn) (H : History) (c : Command) → ((s : Span) (r m : ℕ) → c ≡ Group s r m → ⊥) → wants_quote h H (DoAct c) ≡ false
command_skips h H (Group span rooms amount) none = absurd (none span rooms amount refl)
command_skips h H (Book stay) none = refl
command_skips h H (Cancel nth) none = refl
command_skips h H (Reforecast stay count) none = refl
command_skips h H (Reprice stay rate) none = refl
command_skips h H (Resize night rooms) none = refl

short_of : (full : Bool) (o : Option ℕ) → (if full then Some HistoryFull else (if is_some o then None else Some Unquoted)) ≡ None → is_none o ≡ false
short_of true o e = absurd (cc)
short_of false None e = absurd (cc)
short_of false (Some n) e = refl

-- a Group without a quote that is logged finds too few rooms
pub group_skips : (h : Inn) (H : History) (span : Span) (rooms amount : ℕ) → refusal h H (Do (Group span rooms amount) None) ≡ None →
    wants_quote h H (DoAct (Group span rooms amount)) ≡ false
group_skips h H span rooms amount e = short_of (commands H == h.limits.entries) (first_short (rooms_left_at h H) span rooms) e

-- and one that needs a quote wants it
pub group_wants : (b : Diary) (span : Span) (rooms amount : ℕ) → NeedsQuote b (Group span rooms amount) →
    wants_quote b.house b.history (DoAct (Group span rooms amount)) ≡ true
group_wants b span rooms amount needs = ap is_none needs
