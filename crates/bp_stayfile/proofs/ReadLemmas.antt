-- Rows that are read one after the other.
use Rattle.std.proofs.Common.{
  ◌≡◌,
  ◌∙◌,
  sym,
  ap,
  refl,
  ℕ,
  zero,
  suc,
  ◌+◌,
  ◌≤◌,
  List,
  [],
  ◌∷◌,
  ◌++◌,
  length,
  get_or,
  Some,
  None,
  Result,
  Ok,
  Err,
  arith,
  add-one,
  inl,
  inr,
  append-nil,
  append_assoc,
  length-append,
}
use Rattle.std.proofs.Math.Seq.{get_or-append_seam}
use Rattle.std.proofs.lemmas.Bool.{cases_eq}
use Rattle.bp_stayfile.specs.declared.error.TableRefusal.{TableRefusal}
use Rattle.bp_stayfile.specs.declared.error.TableError.{TableError}
use Rattle.bp_stayfile.specs.declared.error.TableError.TheVariants.{Refused, Memory}
use Rattle.bp_stayfile.specs.Refusals.{IfRefused}
use Rattle.bp_stayfile.specs.Tables.{Record, Table, TableRow, IsNext, IsLast, IsBeforeStop}
use Rattle.bp_stayfile.specs.Reading.{rows_read, table_read, IsRefusedAfter, stops_at}

-- what follows from a refusal follows where the error is one
pub IfRefused-weaker : (e : TableError) (P Q : TableRefusal → Type 0) → ((r : TableRefusal) → P r → Q r) → IfRefused e P → IfRefused e Q
IfRefused-weaker (Refused r) P Q follows h = follows r h
IfRefused-weaker Memory P Q follows h = tt

-- one row more
pub rows_read-more : {A : Type 0} (rule : List A → Record → Result A TableRefusal) (rows : List Record) (n : ℕ) (before : List A) (answer : A) →
    rows_read rule rows n ≡ Ok before → rule before (get_or rows n []) ≡ Ok answer → rows_read rule rows (n + 1) ≡ Ok (before ++ answer ∷ [])
rows_read-more rule rows n before answer so_far here = rw (add-one, so_far, here)

-- the first refusal is the answer of the whole table
pub rows_read-stays : {A : Type 0} (rule : List A → Record → Result A TableRefusal) (rows : List Record) (e : TableRefusal) (n m : ℕ) →
    rows_read rule rows n ≡ Err e → n ≤ m → rows_read rule rows m ≡ Err e
rows_read-stays rule rows e n zero h le = let same : n ≡ 0 = omega arith in rw same at h
rows_read-stays rule rows e n (suc m) h le =
    elim (cases_eq n (suc m)) [
      | inl same ↦ rw same at h
      | inr other ↦ rw (rows_read-stays rule rows e n m h (omega arith))
    ]

pub rows_read-refused : {A : Type 0} (rule : List A → Record → Result A TableRefusal) (rows : List Record) (n : ℕ) (before : List A) (e : TableRefusal) →
    rows_read rule rows n ≡ Ok before → rule before (get_or rows n []) ≡ Err e → n + 1 ≤ length rows → rows_read rule rows (length rows) ≡ Err e
rows_read-refused rule rows n before e so_far here within =
    rows_read-stays rule rows e (n + 1) (length rows) (rw (add-one, so_far, here)) within

-- a table that is refused after some rows has that refusal
pub refused_after-table : {A : Type 0} (rule : List A → Record → Result A TableRefusal) (table : Table) (before : List A) (e : TableRefusal) →
    IsRefusedAfter rule table before e → table_read rule table ≡ Err e
refused_after-table rule table before e h = by_stop h.stops
  where
    by_stop : stops_at rule table h.read_rows before e → table_read rule table ≡ Err e
    by_stop (inl (within, wrong)) = rw (rows_read-refused rule table.rows h.read_rows before e h.read wrong (omega arith))
    by_stop (inr (all, stopped)) = let read : rows_read rule table.rows (length table.rows) ≡ Ok before = rw (← all) h.read in rw read stopped

-- what was read of a table up to some row, and the rows that are left
pub record IsReadUpTo {A : Type 0} (rule : List A → Record → Result A TableRefusal) (whole left : Table) (before : List A) : Type 0 where
  pub first : List Record
  pub rows : whole.rows ≡ first ++ left.rows
  pub stop : whole.stop ≡ left.stop
  pub read : rows_read rule whole.rows (length first) ≡ Ok before

module _ {A : Type 0} (rule : List A → Record → Result A TableRefusal) (whole : Table) where
  -- at the header nothing is read
  pub none_yet : IsReadUpTo rule whole whole []
  none_yet = record { first = []; rows = refl; stop = refl; read = refl }

  -- the row at which a reader stands
  row_is : (old new : TableRow) (before : List A) (h : IsReadUpTo rule whole old.behind before) → IsNext old new →
      get_or whole.rows (length h.first) [] ≡ new.fields
  row_is old new before h next =
      ap (λ rs. get_or rs (length h.first) []) (h.rows ∙ ap (λ rs. h.first ++ rs) next.rows) ∙ get_or-append_seam h.first new.fields new.behind.rows []

  -- a row more
  pub one_more : (old new : TableRow) (before : List A) (answer : A) → IsReadUpTo rule whole old.behind before → IsNext old new →
      rule before new.fields ≡ Ok answer →
      IsReadUpTo rule whole new.behind (before ++ answer ∷ [])
  one_more old new before answer h next here =
      let at : rule before (get_or whole.rows (length h.first) []) ≡ Ok answer = ap (rule before) (row_is old new before h next) ∙ here in
      let size : length (h.first ++ new.fields ∷ []) ≡ length h.first + 1 = omega (arith, length-append h.first (new.fields ∷ [])) in
      record {
        first = h.first ++ new.fields ∷ [];
        rows = h.rows ∙ ap (λ rs. h.first ++ rs) next.rows ∙ sym (append_assoc h.first (new.fields ∷ []) new.behind.rows);
        stop = h.stop ∙ next.stop;
        read = ap (rows_read rule whole.rows) size ∙ rows_read-more rule whole.rows (length h.first) before answer h.read at;
      }

  -- a row that is refused
  pub refused_at : (old new : TableRow) (before : List A) (e : TableRefusal) → IsReadUpTo rule whole old.behind before → IsNext old new →
      rule before new.fields ≡ Err e → IsRefusedAfter rule whole before e
  refused_at old new before e h next here =
      let size = ap length (h.rows ∙ ap (λ rs. h.first ++ rs) next.rows) ∙ length-append h.first (new.fields ∷ new.behind.rows) in
      record {
        read_rows = length h.first;
        read = h.read;
        stops = inl (omega (arith, size), ap (rule before) (row_is old new before h next) ∙ here);
      }

  all_read : (left : Table) (before : List A) (h : IsReadUpTo rule whole left before) → left.rows ≡ [] → length h.first ≡ length whole.rows
  all_read left before h none = sym (ap length (h.rows ∙ ap (λ rs. h.first ++ rs) none ∙ append-nil h.first))

  -- all rows are read
  pub read_whole : (old : TableRow) (before : List A) → IsReadUpTo rule whole old.behind before → IsLast old → table_read rule whole ≡ Ok before
  read_whole old before h last =
      let read : rows_read rule whole.rows (length whole.rows) ≡ Ok before = rw (← all_read old.behind before h last.rows) h.read in
      let stop : whole.stop ≡ None = h.stop ∙ last.stop in
      rw (read, stop) refl

  -- all rows are read, and the record behind them is not taken
  pub refused_behind : (old : TableRow) (before : List A) (e : TableRefusal) → IsReadUpTo rule whole old.behind before → IsBeforeStop old e →
      IsRefusedAfter rule whole before e
  refused_behind old before e h stops =
      let stop : whole.stop ≡ Some stops.line = h.stop ∙ stops.stop in
      record {
        read_rows = length h.first;
        read = h.read;
        stops = inr (all_read old.behind before h stops.rows, rw (stop, stops.refusal) refl);
      }
