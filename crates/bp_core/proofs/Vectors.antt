-- Where the vectors of a history stand.
use Rattle.std.proofs.Common.{
  ◌≡◌,
  ℕ,
  suc,
  zero,
  ◌+◌,
  ◌-◌,
  ◌<◌,
  ◌≤◌,
  ◌==◌,
  Bool,
  true,
  false,
  ◌&&◌,
  ◌||◌,
  nat_lt,
  nat_le,
  IsTrue,
  List,
  [],
  ◌∷◌,
  ◌++◌,
  length,
  take,
  drop,
  count_by,
  slice_get,
  Option,
  Some,
  None,
  is_some,
  unwrap_or,
  refl,
  sym,
  ap,
  subst,
  ◌∙◌,
  arith,
  length-append,
  take-append-drop,
}
use Rattle.std.specs.List.{list_any, cons_option}
use Rattle.std.specs.Option.{option_map}
use Rattle.std.proofs.Math.Seq.{take-length, drop-cons}
use Rattle.std.proofs.lemmas.List.{drop-append-le}
use Rattle.std.proofs.lemmas.List.Elements.{filter_map-append}
use Rattle.std.proofs.lemmas.List.Folds.{list_any-append}
use Rattle.std.proofs.lemmas.Bool.Decides.{nat_tests}
use Rattle.std.proofs.lemmas.Option.{slice_get-get_or}
use Rattle.bp_types.specs.Claim.{Claim}
use Rattle.bp_types.specs.House.{Inn}
use Rattle.bp_board.specs.Posted.{Posted}
use Rattle.bp_core.specs.declared.line.Act.{Act}
use Rattle.bp_core.specs.declared.line.Act.TheVariants.{Do, Publish, Enrol, Leave}
use Rattle.bp_core.specs.declared.line.Line.{Line}
use Rattle.bp_core.specs.Lines.{History, line_at, no_line, is_by, is_publish, published_position, last_value, last_position, posted, boards, vectors}
use Rattle.bp_core.specs.Changes.{is_change, changes_after}
use Rattle.bp_core.specs.Legal.{IsLegal, IsLegalLine, is_newer, is_opening_act}
use Rattle.bp_core.specs.Counting.{VectorBetween, TurnsSettle, LastPositionWithin, LastBoardIsLast}
use Rattle.bp_core.proofs.Boards.{ends_with}
use Rattle.bp_core.proofs.Growing.{count_more}
use Rattle.bp_core.proofs.Prefixes.{at_each_position, prefixes_are_legal}
use Rattle.bp_core.proofs.Pushes.{last_value-push}

either_off : (a b : Bool) → (a || b) ≡ false → (a ≡ false) × (b ≡ false)
either_off true b e = absurd (cc)
either_off false b e = (refl, e)

no_value : (o : Option ℕ) (d : ℕ) → is_some o ≡ false → unwrap_or o d ≡ d
no_value None d e = refl
no_value (Some x) d e = absurd (cc)

-- lines without a vector leave the last position
kept_alone : (rest : History) (d : ℕ) → list_any is_publish rest ≡ false → last_value (λ (x : Line). published_position x.entry.act) d rest ≡ d
kept_alone [] d none = refl
kept_alone (x ∷ rest) d none =
    let both = either_off (is_publish x) (list_any is_publish rest) none in
    ap (λ e. last_value (λ (y : Line). published_position y.entry.act) e rest) (no_value (published_position x.entry.act) d both.0) ∙ kept_alone rest d both.1

kept_position : (part rest : History) (d : ℕ) → list_any is_publish rest ≡ false →
    last_value (λ (x : Line). published_position x.entry.act) d (part ++ rest) ≡ last_value (λ (x : Line). published_position x.entry.act) d part
kept_position [] rest d none = kept_alone rest d none
kept_position (x ∷ part) rest d none = kept_position part rest (unwrap_or (published_position x.entry.act) d) none

pub vector_between : VectorBetween
vector_between part rest lead many few = go (list_any is_publish rest) refl
  where
    go : (b : Bool) → list_any is_publish rest ≡ b → b ≡ true
    go true e = refl
    go false e =
        let same : last_position (part ++ rest) ≡ last_position part = kept_position part rest 0 e in
        let q = last_position part in
        let a = ap (λ l. count_by is_change (drop q l)) (take-length part) in
        let b = ap (λ l. count_by is_change (drop q l)) (take-length (part ++ rest)) in
        let f : changes_after (part ++ rest) q < lead = subst (λ p. changes_after (part ++ rest) p < lead) same few in
        let le = count_more part rest q in
        absurd (omega (arith, many, f, a, b, le))

or_first : (a b : Bool) → a ≡ true → (a || b) ≡ true
or_first true b e = refl
or_first false b e = absurd (cc)

or_second : (a b : Bool) → b ≡ true → (a || b) ≡ true
or_second true b e = refl
or_second false b e = e

any_behind : (H rest : History) (t : ℕ) → t ≤ length H → list_any is_publish (drop t (H ++ rest)) ≡ (list_any is_publish (drop t H) || list_any is_publish rest)
any_behind H rest t within = ap (list_any is_publish) (drop-append-le t H rest within) ∙ list_any-append is_publish (drop t H) rest

pub turns_settle : TurnsSettle
turns_settle = record {
  lasts = λ H rest t within followed. any_behind H rest t within ∙ or_first (list_any is_publish (drop t H)) (list_any is_publish rest) followed;
  unchanged = λ H lead t within few many.
      vector_between (take t H) (drop t H) lead many (subst (λ G. changes_after G (last_position G) < lead) (sym (take-append-drop t H)) few);
  published = λ H x t within is. any_behind H (x ∷ []) t within ∙
      or_second (list_any is_publish (drop t H)) (list_any is_publish (x ∷ [])) (or_first (is_publish x) false is);
}

-- a vector is for a position so far
so_far : (n position changes : ℕ) (by : Bool) → IsTrue (nat_lt 0 n || (by && (position == 0))) →
    IsTrue ((n == 0) || (nat_le position n && nat_le 1 changes)) → position ≤ n
so_far n position changes true opening newer = grind (arith, nat_tests)
so_far n position changes false opening newer = grind (arith, nat_tests)

pub position_so_far : (h : Inn) (G : History) (x : Line) (position : ℕ) → IsLegalLine h G x → x.entry.act ≡ Publish position → position ≤ length G
position_so_far h G x position legal is =
    let opening = subst (λ (a : Act). IsTrue (nat_lt 0 (length G) || (is_by 0 x && is_opening_act a))) is legal.opening in
    let newer = subst (λ (a : Act). IsTrue (is_newer G a)) is legal.position in
    so_far (length G) position _ (is_by 0 x) opening newer

next_within : (h : Inn) (G : History) (x : Line) → last_position G ≤ length G → IsLegalLine h G x → last_position (G ++ x ∷ []) ≤ length (G ++ x ∷ [])
next_within h G x le legal =
    let e = last_value-push (λ (y : Line). published_position y.entry.act) 0 G x in
    let go = by_act x.entry.act refl in
    let l = length-append G (x ∷ []) in
    omega (arith, e, go, l)
  where
    by_act : (a : Act) → x.entry.act ≡ a → unwrap_or (published_position x.entry.act) (last_position G) ≤ length G + 1
    by_act (Publish position) is =
        subst (λ (a : Act). unwrap_or (published_position a) (last_position G) ≤ length G + 1) (sym is) (omega (arith, position_so_far h G x position legal is))
    by_act (Do command) is = subst (λ (a : Act). unwrap_or (published_position a) (last_position G) ≤ length G + 1) (sym is) (omega (arith, le))
    by_act Enrol is = subst (λ (a : Act). unwrap_or (published_position a) (last_position G) ≤ length G + 1) (sym is) (omega (arith, le))
    by_act Leave is = subst (λ (a : Act). unwrap_or (published_position a) (last_position G) ≤ length G + 1) (sym is) (omega (arith, le))

pub last_position_within : LastPositionWithin
last_position_within h H legal =
    let at = at_each_position h (λ G. last_position G ≤ length G) (omega arith) (λ G x le line. next_within h G x le line) H legal (length H) (omega arith) in
    subst (λ (G : History). last_position G ≤ length G) (take-length H) at

pub last_board_is_last : LastBoardIsLast
last_board_is_last h H legal =
    let ends = ends_with h H legal in
    let some = ends.some_vector legal.some_line in
    let none : Posted = record { position = 0; certificate = record { value = 0; sell = []; prices = [] } } in
    let at = slice_get-get_or (boards H) (vectors H - 1) none (omega (arith, ends.as_many, some)) in
    let facts = ends.last _ at in
    record { board = _; last = at; position = facts.0; prices = facts.1 }

get_middle : (bs cs : List Posted) (b : Posted) → slice_get (bs ++ b ∷ cs) (length bs) ≡ Some b
get_middle [] cs b = refl
get_middle (c ∷ bs) cs b = get_middle bs cs b

-- as many boards as vectors, at every position
as_many : (h : Inn) (H : History) (n : ℕ) → IsLegal h H → n ≤ length H → length (boards (take n H)) ≡ vectors (take n H)
as_many h H zero legal within = refl
as_many h H (suc n) legal within = (ends_with h (take (suc n) H) (prefixes_are_legal h H (suc n) legal (omega arith) within)).as_many

splits : (H : History) (i : ℕ) → i < length H → H ≡ take i H ++ line_at H i ∷ drop (suc i) H
splits H i within = sym (take-append-drop i H) ∙ ap (λ G. take i H ++ G) (drop-cons H i no_line within)

-- the board of the vector at a place has the certificate of its line
pub vector_at : (h : Inn) (H : History) (i position : ℕ) (k : Claim) → IsLegal h H → i < length H → (line_at H i).entry.act ≡ Publish position →
    (line_at H i).certificate ≡ Some k →
    slice_get (boards H) (vectors (take i H)) ≡ Some (record { position = position; certificate = k })
vector_at h H i position k legal within publishes certified =
    let x : Line = line_at H i in
    let board : Posted = record { position = position; certificate = k } in
    let on : posted x ≡ Some board =
    ap (λ (o : Option Claim). option_map (λ (c : Claim). record { position = unwrap_or (published_position x.entry.act) 0; certificate = c }) o) certified
    ∙ ap (λ (a : Act). Some (record { position = unwrap_or (published_position a) 0; certificate = k })) publishes in
    let all : boards H ≡ boards (take i H) ++ board ∷ boards (drop (suc i) H) =
    ap boards (splits H i within) ∙ filter_map-append posted (take i H) (x ∷ drop (suc i) H) ∙
    ap (λ (o : Option Posted). boards (take i H) ++ cons_option o (boards (drop (suc i) H))) on in
    ap (λ bs. slice_get bs (vectors (take i H))) all ∙
    ap (slice_get (boards (take i H) ++ board ∷ boards (drop (suc i) H))) (sym (as_many h H i legal (omega arith))) ∙
    get_middle (boards (take i H)) (boards (drop (suc i) H)) board
