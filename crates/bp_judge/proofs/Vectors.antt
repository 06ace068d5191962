-- A line that publishes a vector.
use Rattle.std.proofs.Common.{
  ◌≡◌,
  ◌≢◌,
  ℕ,
  ◌≤◌,
  ◌<◌,
  ◌∙◌,
  refl,
  sym,
  subst,
  ap,
  arith,
  true,
  false,
  ◌==◌,
  ◌&&◌,
  [],
  ◌∷◌,
  ◌++◌,
  length,
  Option,
  Some,
  None,
  MatchOption,
  IsTrue,
  nat_lt,
  nat_le,
  vec_capacity,
}
use Rattle.std.specs.Arc.{arc_value}
use Rattle.std.specs.declared.sync.Arc.{Arc}
use Rattle.std.specs.declared.alloc.Global.{Global}
use Rattle.std.proofs.lemmas.Bool.{
  and_parts,
  and_from,
  and_left,
  and_right,
  or_left,
  or_right,
  or_from,
  eqb-true,
  ne_eqb,
  lt-ltb,
  le-ltb,
  le-leb,
  lt-leb,
  leb-true,
  cond-false,
}
use Rattle.bp_types.specs.Claim.{Claim, IsCertificateOf}
use Rattle.bp_types.specs.Program.{Program}
use Rattle.bp_types.specs.House.{Inn, IsHouse, opening}
use Rattle.bp_board.specs.declared.board.Board.{Board}
use Rattle.bp_board.specs.Posted.{Posted}
use Rattle.bp_core.specs.declared.line.Act.{Act}
use Rattle.bp_core.specs.declared.line.Act.TheVariants.{Do, Publish, Enrol, Leave}
use Rattle.bp_core.specs.declared.line.Line.{Line}
use Rattle.bp_core.specs.declared.line.Reply.{Reply}
use Rattle.bp_core.specs.declared.line.Reply.TheVariants.{Vector}
use Rattle.bp_core.specs.declared.call.Answer.{Answer}
use Rattle.bp_core.specs.declared.call.Answer.TheVariants.{Superseded, PublicationsFull}
use Rattle.bp_core.specs.declared.call.Call.TheVariants.{Publish as PublishCall}
use Rattle.bp_core.specs.Acting.{Diary, IsAnswered, IsLogged, IsRefused, refusal, refuse_if, line_of, opening_line}
use Rattle.bp_core.specs.Answer.{IsReply}
use Rattle.bp_core.specs.Callers.{may_log}
use Rattle.bp_core.specs.Changes.{changes_between}
use Rattle.bp_core.specs.Instance.{instance_at}
use Rattle.bp_core.specs.Legal.{IsLegal, IsCertified, opens, is_in_range, is_allowed, is_fresh, is_newer, is_opening_act}
use Rattle.bp_core.specs.Lines.{History, is_by, vectors, last_position, published_position}
use Rattle.bp_core.specs.Staying.{InstanceAtStart}
use Rattle.bp_core.proofs.Counts.{vectors_fit}
use Rattle.bp_judge.specs.declared.course.Course.{Course}
use Rattle.bp_judge.specs.declared.trail.Trail.{Trail}
use Rattle.bp_judge.specs.declared.replay.Replay.{Replay}
use Rattle.bp_judge.specs.declared.judgement.Cause.TheVariants.{Position, Reply as OtherReply}
use Rattle.bp_judge.specs.Judging.{IsFirstCause, Keeps}
use Rattle.bp_judge.specs.Courses.{IsCourse}
use Rattle.bp_judge.specs.Trails.{GoesWith}
use Rattle.bp_judge.specs.Replays.{IsReplay}
use Rattle.bp_judge.proofs.Along.{goes_later, last_moves}
use Rattle.bp_judge.proofs.Quoting.{quoted_stays, vector_skips}
use Rattle.bp_judge.specs.Searches.{last_quoted}
use Rattle.bp_judge.proofs.Firsts.{Rules, first_position, opens_later}

-- no certificate that certifies the instance at the position goes with the line
pub not_certified : (h : Inn) (H : History) (x : Line) (position : ℕ) (p : Program) → x.entry.act ≡ Publish position → p ≡ instance_at h H position →
    ((c : Claim) → x.certificate ≡ Some c → IsCertificateOf p c → ⊥) → IsCertified h H x.entry.act x.certificate → ⊥
not_certified h H x position p act at none is =
    let P : Act → Type 0 = λ a. IsCertified h H a x.certificate in
    let there = subst P act is in
    let Q : Program → Type 0 = λ q. IsCertificateOf q there.0 in
    none there.0 there.1 (subst Q (sym at) there.2)

pub is_certified : (h : Inn) (H : History) (x : Line) (position : ℕ) (p : Program) (c : Claim) → x.entry.act ≡ Publish position →
    p ≡ instance_at h H position → x.certificate ≡ Some c → IsCertificateOf p c → IsCertified h H x.entry.act x.certificate
is_certified h H x position p c act at some certifies =
    let P : Act → Type 0 = λ a. IsCertified h H a x.certificate in
    let Q : Program → Type 0 = λ q. IsCertificateOf q c in
    subst P (sym act) (c, some, subst Q at certifies)

-- the reply is not the number of the vector
pub not_number : (h : Inn) (H : History) (x : Line) (position number : ℕ) → x.entry.act ≡ Publish position → number ≡ vectors H →
    x.entry.reply ≢ Vector number → Keeps h H x OtherReply → ⊥
not_number h H x position number act is other keeps =
    let P : Act → Type 0 = λ a. IsReply h H x.entry.caller a x.entry.reply in
    other (subst P act keeps ∙ ap Vector (sym is))

-- the first line of a history

opening_act : (act : Act) → is_opening_act act ≡ true → act ≡ Publish 0
opening_act (Publish position) is = ap Publish (eqb-true position 0 is)
opening_act (Do command) is = absurd (cc)
opening_act Enrol is = absurd (cc)
opening_act Leave is = absurd (cc)

pub opener : (x : Line) → opens [] x ≡ true → (x.entry.caller ≡ 0) × (x.entry.act ≡ Publish 0)
opener x is = let parts = and_parts (is_by 0 x) (is_opening_act x.entry.act) is in (eqb-true x.entry.caller 0 parts.0, opening_act x.entry.act parts.1)

pub opening_rules : (h : Inn) (x : Line) → IsHouse h → opens [] x ≡ true → Rules h [] x
opening_rules h x house is =
    let o = opener x is in
    let parts = and_parts (is_by 0 x) (is_opening_act x.entry.act) is in
    record {
      opening = is;
      caller = let P : Act → Type 0 = λ a. IsTrue (may_log [] x.entry.caller a) in subst P (sym o.1) (or_left (x.entry.caller == 0) _ parts.0);
      range = let P : Act → Type 0 = λ a. IsTrue (is_in_range h a) in subst P (sym o.1) refl;
      limit = let P : Act → Type 0 = λ a. IsTrue (is_allowed h [] a) in
          subst P (sym o.1) (let some : 1 ≤ h.limits.publications = leb-true _ _ (and_parts _ _ house.publications).0 in
          lt-ltb 0 h.limits.publications (omega arith));
      behind = let P : Act → Type 0 = λ a. IsTrue (is_fresh h [] a) in subst P (sym o.1) refl;
      position = let P : Act → Type 0 = λ a. IsTrue (is_newer [] a) in subst P (sym o.1) refl;
    }

pub start : InstanceAtStart → (h : Inn) (p : Program) → p ≡ opening h → p ≡ instance_at h [] 0
start at_start h p is = is ∙ sym (at_start h [])

-- the opening line is this one
pub same_opening : (x : Line) (b : Posted) → opens [] x ≡ true → b.position ≡ 0 → x.certificate ≡ Some b.certificate → x.entry.reply ≡ Vector 0 →
    opening_line b ≡ x
same_opening x b is at some reply =
    let o = opener x is in
    let build : ℕ → Act → Reply → Option Claim → Line = λ c a r k. record { entry = record { caller = c; act = a; reply = r }; certificate = k } in
    ap (λ p. build 0 (Publish p) (Vector 0) (Some b.certificate)) at
    ∙ ap (λ c. build c (Publish 0) (Vector 0) (Some b.certificate)) (sym o.0)
    ∙ ap (λ a. build x.entry.caller a (Vector 0) (Some b.certificate)) (sym o.1)
    ∙ ap (λ r. build x.entry.caller x.entry.act r (Some b.certificate)) (sym reply)
    ∙ ap (λ k. build x.entry.caller x.entry.act x.entry.reply k) (sym some)

-- a replay begins
pub opened_replay : InstanceAtStart → (h : Inn) (book : Diary) (x : Line) (course : Course) (p : Program) → book ≡ record { house = h; history = x ∷ [] } →
    IsLegal book.house book.history → opens [] x ≡ true → p ≡ opening h → course.instance ≡ p → course.position ≡ 0 →
    2 ≤ vec_capacity course.changes → IsReplay (record { book = book; trail = record { course = course; solved = None } })
opened_replay at_start h book x course p is legal opened at instance position room =
    let t : Trail = record { course = course; solved = None } in
    let c : IsCourse h (x ∷ []) course = record {
      within = omega (arith, position);
      program = instance ∙ at ∙ sym (at_start h (x ∷ [])) ∙ sym (ap (instance_at h (x ∷ [])) position);
      room = room;
    } in
    let P : Diary → Type 0 = λ d. GoesWith d.house d.history t in
    let o = opener x opened in
    record {
      legal = legal;
      goes = subst P (sym is) (record { course = c; solved = tt });
      at = position ∙ sym (ap (λ (d : Diary). last_position d.history) is ∙ last_moves [] x 0 (ap published_position o.1));
      last = sym (ap (λ (d : Diary). last_quoted d.house d.history) is ∙ quoted_stays h [] x (vector_skips h [] x.entry.act 0 o.1));
    }

-- a later line

-- the rules of a later vector before its certificate
pub vector_rules : (h : Inn) (H : History) (x : Line) (position : ℕ) → IsLegal h H → x.entry.act ≡ Publish position →
    IsTrue (may_log H x.entry.caller x.entry.act) → (vectors H ≡ h.limits.publications → ⊥) → position ≤ length H →
    (changes_between H (last_position H) position ≡ 0 → ⊥) → Rules h H x
vector_rules h H x position legal act caller room within some = record {
  opening = opens_later H x legal.some_line;
  caller = caller;
  range = let P : Act → Type 0 = λ a. IsTrue (is_in_range h a) in subst P (sym act) refl;
  limit = let P : Act → Type 0 = λ a. IsTrue (is_allowed h H a) in
      subst P (sym act) (let fit = vectors_fit h H legal in lt-ltb (vectors H) h.limits.publications (omega arith));
  behind = let P : Act → Type 0 = λ a. IsTrue (is_fresh h H a) in subst P (sym act) refl;
  position = let P : Act → Type 0 = λ a. IsTrue (is_newer H a) in
      subst P (sym act) (or_right (length H == 0) _
      (and_from _ _ (le-leb position (length H) within) (le-leb 1 (changes_between H (last_position H) position) (omega arith))));
}

not_newer : (h : Inn) (H : History) (x : Line) (position : ℕ) → IsLegal h H → x.entry.act ≡ Publish position → IsTrue (may_log H x.entry.caller x.entry.act) →
    (vectors H ≡ h.limits.publications → ⊥) → (nat_le position (length H) && nat_le 1 (changes_between H (last_position H) position)) ≡ false →
    IsFirstCause h H x Position
not_newer h H x position legal act caller room wrong =
    let some = legal.some_line in
    first_position h H x some caller (let P : Act → Type 0 = λ a. IsTrue (is_in_range h a) in subst P (sym act) refl)
    (let P : Act → Type 0 = λ a. IsTrue (is_allowed h H a) in
    subst P (sym act) (let fit = vectors_fit h H legal in lt-ltb (vectors H) h.limits.publications (omega arith)))
    (let P : Act → Type 0 = λ a. IsTrue (is_fresh h H a) in subst P (sym act) refl)
    (let P : Act → Type 0 = λ a. is_newer H a ≡ false in subst P (sym act) (or_from (length H == 0) _ (ne_eqb (length H) 0 (λ e. omega arith)) wrong))

pub late_vector : (h : Inn) (H : History) (x : Line) (position : ℕ) → IsLegal h H → x.entry.act ≡ Publish position →
    IsTrue (may_log H x.entry.caller x.entry.act) → (vectors H ≡ h.limits.publications → ⊥) → length H < position → IsFirstCause h H x Position
late_vector h H x position legal act caller room late = not_newer h H x position legal act caller room (and_left _ _ (lt-leb position (length H) late))

pub old_vector : (h : Inn) (H : History) (x : Line) (position : ℕ) → IsLegal h H → x.entry.act ≡ Publish position →
    IsTrue (may_log H x.entry.caller x.entry.act) → (vectors H ≡ h.limits.publications → ⊥) → changes_between H (last_position H) position ≡ 0 →
    IsFirstCause h H x Position
old_vector h H x position legal act caller room none =
    not_newer h H x position legal act caller room (and_right _ _ (lt-leb 1 (changes_between H (last_position H) position) (omega (arith, none))))

-- a vector with changes before it, where one more may be published, is logged
pub vector_logged : (old new : Diary) (caller : ℕ) (board : Arc Board Global) (answer : Answer) → IsAnswered old new caller (PublishCall board 1) answer →
    (changes_between old.history (last_position old.history) (arc_value board).position ≡ 0 → ⊥) →
    (vectors old.history ≡ old.house.limits.publications → ⊥) → IsLogged old new caller (PublishCall board 1) answer
vector_logged old new caller board answer is some room =
    let P : Option Answer → Type 0 = λ o. MatchOption o (IsLogged old new caller (PublishCall board 1) answer) (IsRefused old new answer) in
    let n = changes_between old.history (last_position old.history) (arc_value board).position in
    let first : refusal old.house old.history (PublishCall board 1) ≡ refuse_if (vectors old.history == old.house.limits.publications) PublicationsFull =
    cond-false (nat_lt n 1) (Some (Superseded (last_position old.history) n))
    (refuse_if (vectors old.history == old.house.limits.publications) PublicationsFull) (le-ltb n 1 (omega arith)) in
    let none : refuse_if (vectors old.history == old.house.limits.publications) PublicationsFull ≡ None =
    cond-false (vectors old.history == old.house.limits.publications) (Some PublicationsFull) None (ne_eqb _ _ room) in
    subst P (first ∙ none) is

same_vector : (H : History) (x : Line) (board : Arc Board Global) (position number : ℕ) (reply : Reply) → x.entry.act ≡ Publish position →
    (arc_value board).position ≡ position → x.certificate ≡ Some (arc_value board).certificate → number ≡ vectors H →
    x.entry.reply ≡ Vector number → reply ≡ Vector (vectors H) → line_of x.entry.caller (PublishCall board 1) reply ≡ x
same_vector H x board position number reply act at some is given made =
    let build : Act → Reply → Option Claim → Line = λ a r k. record { entry = record { caller = x.entry.caller; act = a; reply = r }; certificate = k } in
    ap (λ p. build (Publish p) reply (Some (arc_value board).certificate)) at
    ∙ ap (λ a. build a reply (Some (arc_value board).certificate)) (sym act)
    ∙ ap (λ r. build x.entry.act r (Some (arc_value board).certificate)) (made ∙ ap Vector (sym is) ∙ sym given)
    ∙ ap (λ k. build x.entry.act x.entry.reply k) (sym some)

-- the book has the line, and the trail stands at its position
pub published : (old : Replay) (new : Diary) (course : Course) (x : Line) (board : Arc Board Global) (position number : ℕ) (answer : Answer) → IsReplay old →
    IsCourse old.book.house old.book.history course → course.position ≡ position →
    IsLogged old.book new x.entry.caller (PublishCall board 1) answer → IsLegal new.house new.history → x.entry.act ≡ Publish position →
    (arc_value board).position ≡ position → x.certificate ≡ Some (arc_value board).certificate → number ≡ vectors old.book.history →
    x.entry.reply ≡ Vector number →
    IsReplay (record { book = new; trail = record { course = course; solved = old.trail.solved } }) ×
    (new ≡ record { house = old.book.house; history = old.book.history ++ x ∷ [] })
published old new course x board position number answer is along stands logged legal act at some counted given =
    let H : History = old.book.history in
    let same = same_vector H x board position number logged.reply act at some counted given logged.replies in
    let adds : new ≡ record { house = old.book.house; history = H ++ x ∷ [] } = logged.adds ∙
    ap (λ (y : Line). record { house = old.book.house; history = H ++ y ∷ [] }) same in
    let t : Trail = record { course = course; solved = old.trail.solved } in
    let P : Diary → Type 0 = λ d. GoesWith d.house d.history t in
    let goes = goes_later old.book.house H x t (record { course = along; solved = is.goes.solved }) in (
      record {
        legal = legal;
        goes = subst P (sym adds) goes;
        at = stands ∙ sym (ap (λ (d : Diary). last_position d.history) adds ∙ last_moves H x position (ap published_position act));
        last = is.last ∙ sym (ap (λ (d : Diary). last_quoted d.house d.history) adds ∙
            quoted_stays old.book.house H x (vector_skips old.book.house H x.entry.act position act));
      },
      adds,
    )
