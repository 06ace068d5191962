-- The view of a seat, and how each step changes it.
use Rattle.std.specs.Prelude.{ℕ, true, false, List, [], ◌∷◌, ◌++◌, length, Some, None}
use Rattle.bp_types.specs.declared.limits.TheConstants.{CALLERS}
use Rattle.bp_turn.specs.declared.table.View.{View}
use Rattle.bp_turn.specs.Callers.{numbers_to_hand_out, without}
use Rattle.bp_turn.specs.Prefix.{longer, shorter}

module _ {F E : Type 0} where
  -- the view of the first seat
  abbrev pub first_view : F → List E → View F E
  first_view fixed story =
      record {
        fixed = Some fixed;
        number = 0;
        seen = story;
        told = [];
        told_fixed = None;
        own = story;
        free = numbers_to_hand_out;
        chosen = 0;
        ended = [];
        has_ticket = false;
        ticket = 0;
        has_turn = false;
        turns = [];
        looks = [];
      }

  -- the view with the ticket t
  abbrev pub view_with_ticket : View F E → ℕ → View F E
  view_with_ticket v t = record v { has_ticket = true; ticket = t }

  -- the view at its turn, where the value has the story
  abbrev pub view_at_turn : View F E → List E → View F E
  view_at_turn v story = record v { seen = story; has_turn = true; turns = v.turns ++ length story ∷ [] }

  -- the view with an entry more, which is its own
  abbrev pub view_with_entry : View F E → E → View F E
  view_with_entry v e = record v { seen = v.seen ++ e ∷ []; own = v.own ++ e ∷ [] }

  -- the view after its turn
  abbrev pub view_after_turn : View F E → View F E
  view_after_turn v = record v { has_ticket = false; has_turn = false }

  -- the view after a look that found the length n
  abbrev pub view_with_look : View F E → ℕ → View F E
  view_with_look v n = record v { looks = v.looks ++ n ∷ [] }

  -- the view that hands out n next
  abbrev pub view_with_choice : View F E → ℕ → View F E
  view_with_choice v n = record v { chosen = n }

  -- the view without the number that it handed out
  abbrev pub view_less_choice : View F E → View F E
  view_less_choice v = record v { free = without v.chosen v.free }

  -- the view of the new seat that got that number
  abbrev pub newcomer : View F E → View F E
  newcomer v = record {
    fixed = v.fixed;
    number = v.chosen;
    seen = v.seen;
    told = [];
    told_fixed = None;
    own = [];
    free = [];
    chosen = 0;
    ended = [];
    has_ticket = false;
    ticket = 0;
    has_turn = false;
    turns = [];
    looks = [];
  }

  -- a view without a number, which only tells what was seen
  abbrev pub note : View F E → View F E
  note v = record {
    fixed = v.fixed;
    number = CALLERS;
    seen = v.seen;
    told = [];
    told_fixed = None;
    own = [];
    free = [];
    chosen = 0;
    ended = [];
    has_ticket =
        false;
    ticket = 0;
    has_turn = false;
    turns = [];
    looks = [];
  }

  -- the view of a seat that was joined into another
  abbrev pub spent_view : View F E
  spent_view = record {
    fixed = None;
    number = CALLERS;
    seen = [];
    told = [];
    told_fixed = None;
    own = [];
    free = [];
    chosen = 0;
    ended = [];
    has_ticket =
        false;
    ticket = 0;
    has_turn = false;
    turns = [];
    looks = [];
  }

  -- the view v, told what w had seen
  abbrev pub view_told : View F E → View F E → View F E
  view_told v w = record v { seen = longer v.seen w.seen; told = shorter v.seen w.seen; told_fixed = w.fixed }

  -- the view v, with the numbers of w and the entries under them too
  abbrev pub view_joined : View F E → View F E → View F E
  view_joined v w = record v {
    seen = longer v.seen w.seen;
    told = shorter v.seen w.seen;
    told_fixed = w.fixed;
    free = v.free ++ w.free;
    ended =
        v.ended ++ (w.number, w.own) ∷ w.ended;
  }
