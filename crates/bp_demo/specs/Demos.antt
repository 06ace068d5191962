-- The text of a demo.
use Rattle.std.specs.Prelude.{◌≡◌, ℕ, List, [], ◌∷◌, codes}
use Rattle.bp_text.specs.Lines.{Line, line_of, text_of}
use Rattle.bp_script.specs.Demo.{demo_of}
use Rattle.bp_problem_house.specs.Houses.{house_of_problem}
use Rattle.bp_demo.specs.declared.summary.Summary.{Summary}
use Rattle.bp_demo.specs.Summaries.{IsSummary}

-- the four numbers, and what the bookings come to
abbrev pub demo_lines : (seed nights rooms stays : ℕ) → Summary → List Line
demo_lines seed nights rooms stays s =
    line_of (codes "demo") (seed ∷ nights ∷ rooms ∷ stays ∷ [])
    ∷ line_of (codes "value") (s.value ∷ [])
    ∷ line_of (codes "prices") (s.prices ∷ [])
    ∷ line_of (codes "accepted") (s.counts.accepted ∷ [])
    ∷ line_of (codes "toolow") (s.counts.too_low ∷ [])
    ∷ line_of (codes "noroom") (s.counts.no_room ∷ [])
    ∷ line_of (codes "closing") (s.closing ∷ []) ∷ []

-- the demo of a seed, so many nights of so many rooms, and so many stays
pub record IsDemo (seed nights rooms stays : ℕ) (text : List ℕ) : Type 0 where
  pub summary : Summary
  pub sums_up : IsSummary (house_of_problem (demo_of seed nights rooms stays)) summary
  pub text_is : text ≡ text_of (demo_lines seed nights rooms stays summary)
