-- Why a board is superseded.
use Rattle.std.proofs.Common.{
  ◌≡◌,
  ℕ,
  ◌<◌,
  ◌≤◌,
  Bool,
  true,
  false,
  ◌||◌,
  [],
  ◌∷◌,
  ◌++◌,
  length,
  drop,
  count_by,
  Option,
  Some,
  None,
  is_some,
  unwrap_or,
  refl,
  sym,
  ap,
  subst,
  ◌∙◌,
  arith,
}
use Rattle.std.specs.List.{list_any}
use Rattle.std.proofs.Math.Seq.{take-length, take-append_seam, drop-append_seam}
use Rattle.bp_turn.specs.Prefix.{IsPrefix}
use Rattle.bp_core.specs.declared.line.Line.{Line}
use Rattle.bp_core.specs.declared.call.Answer.TheVariants.{Superseded as LaterThere}
use Rattle.bp_core.specs.Lines.{History, is_publish, last_position, last_value, published_position}
use Rattle.bp_core.specs.Changes.{is_change, changes_after, changes_between}
use Rattle.bp_core.specs.Counting.{IsFollowed}
use Rattle.bp_optimise.specs.Laws.{SupersededIsFollowed}
use Rattle.bp_optimise.proofs.Leading.{prefix_on}
use Rattle.bp_optimise.proofs.Doing.{by_publication}

either_off : (a b : Bool) → (a || b) ≡ false → (a ≡ false) × (b ≡ false)
either_off false b e = (refl, e)
either_off true b e = absurd (cc)

no_value : (o : Option ℕ) (d : ℕ) → is_some o ≡ false → unwrap_or o d ≡ d
no_value None d e = refl
no_value (Some x) d e = absurd (cc)

-- lines without a vector leave the last position
kept_alone : (rest : History) (d : ℕ) → list_any is_publish rest ≡ false → last_value (λ (x : Line). published_position x.entry.act) d rest ≡ d
kept_alone [] d none = refl
kept_alone (x ∷ rest) d none =
    let both = either_off (is_publish x) (list_any is_publish rest) none in
    ap (λ e. last_value (λ (y : Line). published_position y.entry.act) e rest) (no_value (published_position x.entry.act) d both.0) ∙ kept_alone rest d both.1

kept_position : (part rest : History) (d : ℕ) → list_any is_publish rest ≡ false →
    last_value (λ (x : Line). published_position x.entry.act) d (part ++ rest) ≡ last_value (λ (x : Line). published_position x.entry.act) d part
kept_position [] rest d none = kept_alone rest d none
kept_position (x ∷ part) rest d none = kept_position part rest (unwrap_or (published_position x.entry.act) d) none

-- where fewer changes stand up to a position than stood there after the last vector, a vector came later
newer_there : (part rest : History) (least : ℕ) → least ≤ changes_after part (last_position part) →
    changes_between (part ++ rest) (last_position (part ++ rest)) (length part) < least → list_any is_publish rest ≡ true
newer_there part rest least many few = go (list_any is_publish rest) refl
  where
    go : (b : Bool) → list_any is_publish rest ≡ b → b ≡ true
    go true e = refl
    go false e =
        let same : last_position (part ++ rest) ≡ last_position part = kept_position part rest 0 e in
        let q = last_position part in
        let f : changes_between (part ++ rest) q (length part) < least = subst (λ p. changes_between (part ++ rest) p (length part) < least) same few in
        let there = ap (λ l. count_by is_change (drop q l)) (take-append_seam part rest) in
        let before = ap (λ l. count_by is_change (drop q l)) (take-length part) in
        absurd (omega (arith, many, f, there, before))

pub superseded_is_followed : SupersededIsFollowed
superseded_is_followed old new position least p changes o =
    let c = o.offered.called in
    let first = o.first.seen in
    by_publication (IsFollowed new.seen position) o.middle.house c.found new.seen o.middle.caller o.offered.call position least (LaterThere p changes)
    o.offered.publishes o.offered.least_is c.answered (
      (λ q n e few same.
          let begins : IsPrefix first c.found = prefix_on Line first o.middle.seen c.found o.between.begins c.begins in
          let rest = begins.0 in
          let at : position ≡ length first = o.caught_up in
          let less : changes_between (first ++ rest) (last_position (first ++ rest)) (length first) < least =
          subst (λ H. changes_between H (last_position H) (length first) < least) begins.1
          (subst (λ t. changes_between c.found (last_position c.found) t < least) at few) in
          let later : IsFollowed (first ++ rest) (length first) = ap (list_any is_publish) (drop-append_seam first rest) ∙
          newer_there first rest least o.enough less in
          subst (λ t. IsFollowed new.seen t) (sym at) (subst (λ H. IsFollowed H (length first)) (sym (same ∙ begins.1)) later)),
      (λ e full same. absurd (cc)),
      (λ r e many more. absurd (cc)),
    )
