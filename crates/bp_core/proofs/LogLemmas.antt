-- Lines of entries and boards, with one entry more.
use Rattle.std.proofs.Common.{
  ◌≡◌,
  ℕ,
  zero,
  suc,
  ◌+◌,
  ◌≤◌,
  refl,
  ap,
  sym,
  ◌∙◌,
  subst,
  arith,
  Bool,
  true,
  false,
  cond,
  List,
  [],
  ◌∷◌,
  ◌++◌,
  length,
  map,
  take,
  drop,
  get_or,
  count_by,
  slice_get,
  Option,
  Some,
  None,
  is_some,
  unwrap_or,
  inl,
  inr,
  length-append,
  append-nil,
}
use Rattle.std.specs.List.{range_with_len, filter_map, cons_option}
use Rattle.std.specs.Option.{option_map, option_to_list}
use Rattle.std.proofs.Math.ListN.{get_or-append}
use Rattle.std.proofs.Math.Seq.{get_or-append_seam, take-length}
use Rattle.std.proofs.lemmas.Bool.{cases_Bool, cases_lt}
use Rattle.std.proofs.lemmas.List.{take-append-le, take-append-drop, length-take}
use Rattle.std.proofs.lemmas.List.Sums.{sum_by-cons, sum_by-append, count_by-le-length}
use Rattle.std.proofs.lemmas.List.Elements.{filter_map-append}
use Rattle.std.proofs.lemmas.List.FromFn.{length-map-range_with_len, get_or-map-range_with_len, fill_by_all}
use Rattle.bp_types.specs.declared.change.Change.{Change}
use Rattle.bp_types.specs.declared.command.Command.{Command}
use Rattle.bp_board.specs.Posted.{Posted}
use Rattle.bp_core.specs.declared.line.Entry.{Entry}
use Rattle.bp_core.specs.declared.line.Line.{Line}
use Rattle.bp_core.specs.Lines.{History, published_position, posted, boards, vectors, is_publish, is_command, command_of}
use Rattle.bp_core.specs.Changes.{is_change, act_changes, changes_between}
use Rattle.bp_core.specs.Log.{publishes, line_with, boards_after, lines_of, changes_in, IsLog}
use Rattle.bp_core.proofs.Pushes.{length-push, count-push}
use Rattle.bp_core.proofs.Prefixes.{take_take}

pub length-lines_of : (es : List Entry) (bs : List Posted) → length (lines_of es bs) ≡ length es
length-lines_of [] bs = refl
length-lines_of (e ∷ es) bs = omega (arith, length-lines_of es (boards_after e bs))

-- an entry that does not publish
pub lines_of-push_plain : (es : List Entry) (bs : List Posted) (e : Entry) → publishes e ≡ false →
    lines_of (es ++ e ∷ []) bs ≡ lines_of es bs ++ record { entry = e; certificate = None } ∷ []
lines_of-push_plain [] bs e plain = rw plain refl
lines_of-push_plain (y ∷ es) bs e plain = ap (λ H. line_with y bs ∷ H) (lines_of-push_plain es (boards_after y bs) e plain)

-- an entry that publishes, with its board
pub lines_of-push_board : (es : List Entry) (bs : List Posted) (e : Entry) (b : Posted) → publishes e ≡ true → length bs ≡ count_by publishes es →
    lines_of (es ++ e ∷ []) (bs ++ b ∷ []) ≡ lines_of es bs ++ record { entry = e; certificate = Some b.certificate } ∷ []
lines_of-push_board [] [] e b here as_many = rw here refl
lines_of-push_board [] (c ∷ bs) e b here as_many = absurd (omega arith)
lines_of-push_board (y ∷ es) [] e b here as_many =
    let parts = as_many ∙ sum_by-cons (λ x. cond (publishes x) 1 0) y es in
    elim (cases_Bool (publishes y)) [
      | inl too ↦ absurd (let n : 0 ≡ 1 + count_by publishes es = parts ∙ ap (λ t. cond t 1 0 + count_by publishes es) too in omega arith)
      | inr plain ↦
          let rest : 0 ≡ count_by publishes es = omega (arith, parts, ap (λ t. cond t 1 0 + count_by publishes es) plain) in
          rw plain (ap (λ H. record { entry = y; certificate = None } ∷ H) (lines_of-push_board es [] e b here rest))
    ]
lines_of-push_board (y ∷ es) (c ∷ cs) e b here as_many =
    let parts = as_many ∙ sum_by-cons (λ x. cond (publishes x) 1 0) y es in
    elim (cases_Bool (publishes y)) [
      | inl too ↦
          let rest : length cs ≡ count_by publishes es = omega (arith, parts, ap (λ t. cond t 1 0 + count_by publishes es) too) in
          rw too (ap (λ H. record { entry = y; certificate = Some c.certificate } ∷ H) (lines_of-push_board es cs e b here rest))
      | inr plain ↦
          let rest : length (c ∷ cs) ≡ count_by publishes es = omega (arith, parts, ap (λ t. cond t 1 0 + count_by publishes es) plain) in
          rw plain (ap (λ H. record { entry = y; certificate = None } ∷ H) (lines_of-push_board es (c ∷ cs) e b here rest))
    ]

pub vectors-lines_of : (es : List Entry) (bs : List Posted) → vectors (lines_of es bs) ≡ count_by publishes es
vectors-lines_of [] bs = refl
vectors-lines_of (e ∷ es) bs =
    sum_by-cons (λ x. cond (is_publish x) 1 0) (line_with e bs) (lines_of es (boards_after e bs)) ∙
    ap (λ n. cond (publishes e) 1 0 + n) (vectors-lines_of es (boards_after e bs)) ∙ sym (sum_by-cons (λ x. cond (publishes x) 1 0) e es)

pub entries-lines_of : (es : List Entry) (bs : List Posted) (k : ℕ) → option_map (λ (x : Line). x.entry) (slice_get (lines_of es bs) k) ≡ slice_get es k
entries-lines_of [] bs k = refl
entries-lines_of (e ∷ es) bs zero = refl
entries-lines_of (e ∷ es) bs (suc k) = entries-lines_of es (boards_after e bs) k

-- the changes of the places between two are those up to the later less those up to the earlier
pub changes_between-in : (H : History) (a b : ℕ) → a ≤ b → changes_in H a + changes_between H a b ≡ changes_in H b
changes_between-in H a b h =
    let whole : take a H ++ drop a (take b H) ≡ take b H = ap (λ G. G ++ drop a (take b H)) (sym (take_take H a b h)) ∙ take-append-drop a (take b H) in
    sym (sum_by-append (λ x. cond (is_change x) 1 0) (take a H) (drop a (take b H))) ∙ ap (count_by is_change) whole

-- the counts of changes, with one line more
pub counts_more : (H : History) (x : Line) (counts : List ℕ) (c : ℕ) → counts ≡ map (changes_in H) (range_with_len 0 (length H + 1)) →
    c ≡ changes_in H (length H) + cond (is_change x) 1 0 →
    counts ++ c ∷ [] ≡ map (changes_in (H ++ x ∷ [])) (range_with_len 0 (length (H ++ x ∷ []) + 1))
counts_more H x counts c counted is =
    let each : length counts ≡ length H + 1 = ap (λ (l : List ℕ). length l) counted ∙ length-map-range_with_len (changes_in H) 0 (length H + 1) in
    let all : length (counts ++ c ∷ []) ≡ length (H ++ x ∷ []) + 1 = omega (arith, each, length-append counts (c ∷ []), length-push H x) in
    let now : c ≡ changes_in (H ++ x ∷ []) (length H + 1) = is ∙ ap (λ G. count_by is_change G + cond (is_change x) 1 0) (take-length H) ∙
    sym (count-push is_change H x) ∙ ap (count_by is_change) (sym (ap (λ n. take n (H ++ x ∷ [])) (sym (length-push H x)) ∙ take-length (H ++ x ∷ []))) in
    fill_by_all (changes_in (H ++ x ∷ [])) (counts ++ c ∷ []) (length (H ++ x ∷ []) + 1) 0 all (λ k h.
    elim (cases_lt k (length H + 1)) [
      | inl old ↦
          let first : get_or (counts ++ c ∷ []) k 0 ≡ get_or counts k 0 = get_or-append counts (c ∷ []) 0 k (omega arith) in
          let was : get_or counts k 0 ≡ changes_in H k = ap (λ l. get_or l k 0) counted ∙
          get_or-map-range_with_len (changes_in H) 0 (length H + 1) k k 0 old (omega arith) in
          first ∙ was ∙ ap (count_by is_change) (sym (take-append-le k H (x ∷ []) (omega arith)))
      | inr new ↦
          let last : k ≡ length H + 1 = omega (arith, length-push H x) in
          let at : k ≡ length counts = omega arith in
          ap (λ i. get_or (counts ++ c ∷ []) i 0) at ∙ get_or-append_seam counts c [] 0 ∙ now ∙ ap (changes_in (H ++ x ∷ [])) (sym last)
    ])

pub log_more : (H : History) (x : Line) (bs bs' : List Posted) (feed : List (List Change)) (d : List Change) (counts : List ℕ) (c number number' : ℕ) →
    IsLog H bs feed counts number → bs' ≡ bs ++ option_to_list (posted x) → cond (is_publish x) 1 0 ≡ length (option_to_list (posted x)) →
    c ≡ changes_in H (length H) + cond (is_change x) 1 0 → number' ≡ number + cond (is_command x) 1 0 →
    IsLog (H ++ x ∷ []) bs' (feed ++ d ∷ []) (counts ++ c ∷ []) number'
log_more H x bs bs' feed d counts c number number' log boards_are shape changes number_is =
    let more : boards (H ++ x ∷ []) ≡ boards H ++ filter_map posted (x ∷ []) = filter_map-append posted H (x ∷ []) in
    record {
      each_posted = boards_are ∙ ap (λ l. l ++ option_to_list (posted x)) log.each_posted ∙ ap (λ l. boards H ++ l) (sym (one_posted (posted x))) ∙ sym more;
      as_many = omega (
        arith,
        ap (λ (l : List Posted). length l) boards_are,
        length-append bs (option_to_list (posted x)),
        log.as_many,
        shape,
        count-push is_publish H x,
      );
      fed = omega (arith, log.fed, length-append feed (d ∷ []), length-push H x);
      counted = counts_more H x counts c log.counted changes;
      numbered = number_is ∙ ap (λ n. n + cond (is_command x) 1 0) log.numbered ∙ sym (count-push is_command H x);
    }
  where
    one_posted : (o : Option Posted) → cons_option o [] ≡ option_to_list o
    one_posted None = refl
    one_posted (Some b) = refl

pub counts-length : (H : History) (bs : List Posted) (feed : List (List Change)) (counts : List ℕ) (number : ℕ) → IsLog H bs feed counts number →
    length counts ≡ length H + 1
counts-length H bs feed counts number log = ap (λ (l : List ℕ). length l) log.counted ∙ length-map-range_with_len (changes_in H) 0 (length H + 1)

-- a count that was read
pub count_read : (H : History) (bs : List Posted) (feed : List (List Change)) (counts : List ℕ) (number n read : ℕ) → IsLog H bs feed counts number →
    n ≤ length H → read ≡ get_or counts n read → read ≡ changes_in H n
count_read H bs feed counts number n read log within is =
    is ∙ ap (λ l. get_or l n read) log.counted ∙ get_or-map-range_with_len (changes_in H) 0 (length H + 1) n n read (omega arith) (omega arith)

pub changes_in-le : (H : History) (n : ℕ) → changes_in H n ≤ length H
changes_in-le H n = omega (arith, count_by-le-length is_change (take n H), length-take n H)

-- the parts of a log, with an entry more that does not publish
pub log_more_plain : (es : List Entry) (e : Entry) (bs : List Posted) (feed : List (List Change)) (d : List Change) (counts : List ℕ) (c number number' : ℕ) →
    published_position e.act ≡ None → IsLog (lines_of es bs) bs feed counts number →
    c ≡ changes_in (lines_of es bs) (length es) + cond (is_change (record { entry = e; certificate = None })) 1 0 →
    number' ≡ number + cond (is_command (record { entry = e; certificate = None })) 1 0 →
    IsLog (lines_of (es ++ e ∷ []) bs) bs (feed ++ d ∷ []) (counts ++ c ∷ []) number'
log_more_plain es e bs feed d counts c number number' plain log changes number_is =
    let x : Line = record { entry = e; certificate = None } in
    let P : History → Type 0 = λ H. IsLog H bs (feed ++ d ∷ []) (counts ++ c ∷ []) number' in
    let silent : publishes e ≡ false = ap (λ (o : Option ℕ). is_some o) plain in
    let as_lines : c ≡ changes_in (lines_of es bs) (length (lines_of es bs)) + cond (is_change x) 1 0 = changes ∙
    ap (λ n. changes_in (lines_of es bs) n + cond (is_change x) 1 0) (sym (length-lines_of es bs)) in
    subst P (sym (lines_of-push_plain es bs e silent))
    (log_more (lines_of es bs) x bs bs feed d counts c number number' log (sym (append-nil bs)) (ap (λ t. cond t 1 0) silent) as_lines number_is)

-- and with one that publishes a board
pub log_more_board : (es : List Entry) (e : Entry) (bs : List Posted) (b : Posted) (feed : List (List Change)) (d : List Change) (counts : List ℕ)
    (c number : ℕ) →
    published_position e.act ≡ Some b.position → act_changes e.act e.reply ≡ false → command_of e.act ≡ None → IsLog (lines_of es bs) bs feed counts number →
    c ≡ changes_in (lines_of es bs) (length es) →
    IsLog (lines_of (es ++ e ∷ []) (bs ++ b ∷ [])) (bs ++ b ∷ []) (feed ++ d ∷ []) (counts ++ c ∷ []) number
log_more_board es e bs b feed d counts c number at still silent log changes =
    let x : Line = record { entry = e; certificate = Some b.certificate } in
    let P : History → Type 0 = λ H. IsLog H (bs ++ b ∷ []) (feed ++ d ∷ []) (counts ++ c ∷ []) number in
    let here : publishes e ≡ true = ap (λ (o : Option ℕ). is_some o) at in
    let as_many = log.as_many ∙ vectors-lines_of es bs in
    let none : cond (is_change x) 1 0 ≡ 0 = ap (λ (t : Bool). cond {A = ℕ} t 1 0) still in
    let as_lines : c ≡ changes_in (lines_of es bs) (length (lines_of es bs)) + cond (is_change x) 1 0 =
    omega (arith, changes, none, ap (changes_in (lines_of es bs)) (length-lines_of es bs)) in
    let uncounted : cond (is_command x) 1 0 ≡ 0 = ap (λ (o : Option Command). cond {A = ℕ} (is_some o) 1 0) silent in
    let same : number ≡ number + cond (is_command x) 1 0 = omega (arith, uncounted) in
    let board : bs ++ b ∷ [] ≡ bs ++ option_to_list (posted x) =
    ap (λ (o : Option ℕ). bs ++ record { position = unwrap_or o 0; certificate = b.certificate } ∷ []) (sym at) in
    subst P (sym (lines_of-push_board es bs e b here as_many))
    (log_more (lines_of es bs) x bs (bs ++ b ∷ []) feed d counts c number number log board (ap (λ t. cond t 1 0) here) as_lines same)
