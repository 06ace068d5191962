-- The numbers of a legal history keep to the reader's limits.
use Rattle.std.proofs.Common.{
  ◌≡◌,
  ℕ,
  zero,
  suc,
  ◌*◌,
  ◌-◌,
  ◌<◌,
  ◌≤◌,
  ◌==◌,
  ◌&&◌,
  refl,
  ap,
  sym,
  subst,
  arith,
  Bool,
  true,
  false,
  cond,
  List,
  [],
  ◌∷◌,
  ◌++◌,
  length,
  take,
  All,
  IsTrue,
  Option,
  Some,
  None,
  MatchOption,
  unwrap_or,
  nat_lt,
  nat_le,
  inl,
  inr,
}
use Rattle.std.specs.Prelude.{not}
use Rattle.std.specs.List.{list_any}
use Rattle.std.proofs.lemmas.Bool.{and_parts, or_cases, eqb-true}
use Rattle.std.proofs.lemmas.Bool.Decides.{nat_tests}
use Rattle.std.proofs.lemmas.List.{length-take-le, get_or_default}
use Rattle.std.proofs.lemmas.List.Elements.{All-nil}
use Rattle.bp_types.specs.declared.stay.Span.{Span}
use Rattle.bp_types.specs.declared.command.Command.{Command}
use Rattle.bp_types.specs.declared.command.Command.TheVariants.{Book, Cancel, Reforecast, Reprice, Resize, Group}
use Rattle.bp_types.specs.declared.limits.TheConstants.{
  MOST_PRICE,
  MOST_NIGHTS,
  MOST_ROOMS,
  MOST_ENTRIES,
  MOST_PUBLICATIONS,
  MOST_RATE,
  MOST_GROUP_ROOMS,
  MOST_AMOUNT,
  MOST_VALUE,
}
use Rattle.bp_types.specs.Claim.{Claim, IsCertificateOf}
use Rattle.bp_types.specs.Program.{no_stay}
use Rattle.bp_types.specs.House.{Inn, IsHouse, is_from_one}
use Rattle.bp_types.specs.Limits.{IsWithinLimits}
use Rattle.bp_types.specs.Spans.{first_short}
use Rattle.bp_types.proofs.Firsts.{first_passes}
use Rattle.bp_cert.specs.Texts.{IsSpeakable, IsWord}
use Rattle.bp_core.specs.declared.line.Act.{Act}
use Rattle.bp_core.specs.declared.line.Act.TheVariants.{Do, Publish, Enrol, Leave}
use Rattle.bp_core.specs.declared.line.Line.{Line}
use Rattle.bp_core.specs.declared.line.Reply.{Reply}
use Rattle.bp_core.specs.declared.line.Reply.TheVariants.{
  TooLow,
  Cancelled,
  NotBooked,
  AlreadyCancelled,
  Done,
  BelowSold,
  GroupAccepted,
  GroupTooLow,
  GroupNoRoom,
}
use Rattle.bp_core.specs.Lines.{History, line_at, no_line, is_accepted, is_cancellation, nth_book, vectors, last_number, last_prices, prices_of}
use Rattle.bp_core.specs.Callers.{greatest_caller, has_enrolled, has_left, may_act, may_log}
use Rattle.bp_core.specs.Instance.{span_of, rate_of, sold_at, instance_of, instance_at, rooms_left_at}
use Rattle.bp_core.specs.Answer.{IsReply, IsCommandReply, IsPricedReply, covered_reply, given_up_reply, sum_of}
use Rattle.bp_core.specs.Legal.{IsLegal, IsLegalLine, IsCertified, is_in_range, is_command_in_range}
use Rattle.bp_core.proofs.Counts.{counted_at, vectors_fit, has_room}
use Rattle.bp_core.proofs.Instances.{nights_now}
use Rattle.bp_core.proofs.Prefixes.{prefixes_are_legal, at_each_position, take_take}
use Rattle.bp_core.proofs.Pushes.{last_value-push}
use Rattle.bp_core.proofs.Sound.{IsSound, sound_at, keeps_limits}
use Rattle.bp_core.proofs.Vectors.{position_so_far}
use Rattle.bp_journal.specs.Limits.{IsHalfWord, IsCommandWithin, IsActWithin, IsReplyWithin, IsLineWithin}
use Rattle.bp_journal.proofs.SmallLemmas.{price_is_small, displacement_is_small, certificate_is_small}

-- what a line with a certificate publishes
certified_line : (h : Inn) (G : History) (x : Line) (c : Claim) → IsLegalLine h G x → x.certificate ≡ Some c →
    (position : ℕ) × (x.entry.act ≡ Publish position) × IsCertificateOf (instance_at h G position) c
certified_line h G x c legal some = go x.entry.act x.certificate legal.certificate some
  where
    go : (a : Act) (o : Option Claim) → IsCertified h G a o → o ≡ Some c →
        (position : ℕ) × (a ≡ Publish position) × IsCertificateOf (instance_at h G position) c
    go (Publish p) o is e = let same : is.0 ≡ c = cc in (p, refl, subst (IsCertificateOf (instance_at h G p)) same is.2)
    go (Do command) o is e = absurd (cc)
    go Enrol o is e = absurd (cc)
    go Leave o is e = absurd (cc)

-- small prices for few nights
abbrev AreSmallPrices : List ℕ → Type 0
AreSmallPrices prices = All (λ x. x ≤ MOST_PRICE) prices × (length prices ≤ MOST_NIGHTS)

prices_more : (h : Inn) (G : History) (x : Line) → IsHouse h → AreSmallPrices (last_prices G) → IsLegalLine h G x → AreSmallPrices (last_prices (G ++ x ∷ []))
prices_more h G x house before line = subst AreSmallPrices (sym (last_value-push prices_of [] G x)) (go x.certificate refl)
  where
    go : (o : Option Claim) → x.certificate ≡ o → AreSmallPrices (unwrap_or (prices_of x) (last_prices G))
    go None none = let e : last_prices G ≡ unwrap_or (prices_of x) (last_prices G) =
        ap (λ (c : Option Claim). unwrap_or (prices_of (record { entry = x.entry; certificate = c })) (last_prices G)) (sym none) in
        subst AreSmallPrices e before
    go (Some c) some =
        let e : c.prices ≡ unwrap_or (prices_of x) (last_prices G) =
        ap (λ (c : Option Claim). unwrap_or (prices_of (record { entry = x.entry; certificate = c })) (last_prices G)) (sym some) in
        let is = certified_line h G x c line some in
        subst AreSmallPrices e (is.2.within_limit, omega (arith, is.2.one_each, nights_now h (take is.0 G), house.instance.nights))

from_one : (most n : ℕ) → IsTrue (is_from_one most n) → n ≤ most
from_one most n is = grind (arith, nat_tests)

-- what holds at each position of a legal history
record IsTame (h : Inn) (G : History) : Type 0 where
  callers : (c : ℕ) → has_enrolled G c ≡ true → c ≤ greatest_caller
  few : length G ≤ 201130
  few_vectors : vectors G ≤ MOST_PUBLICATIONS
  prices : AreSmallPrices (last_prices G)
  sound : IsSound h G

tame_at : (h : Inn) (H : History) (n : ℕ) → IsHouse h → IsLegal h H → n ≤ length H → IsTame h (take n H)
tame_at h H n house legal within = record {
  callers = callers n within;
  few = omega (arith, length-take-le n H within, has_room h H legal, from_one MOST_ENTRIES h.limits.entries house.entries, publications, within);
  few_vectors = few n within;
  prices = at_each_position h (λ G. AreSmallPrices (last_prices G)) (
    All-nil _,
    omega arith,
  ) (λ G x before line. prices_more h G x house before line) H legal n within;
  sound = sound_at h H n house legal within;
}
  where
    publications : h.limits.publications ≤ MOST_PUBLICATIONS
    publications = from_one MOST_PUBLICATIONS h.limits.publications house.publications

    callers : (k : ℕ) → k ≤ length H → (c : ℕ) → has_enrolled (take k H) c ≡ true → c ≤ greatest_caller
    callers zero inside c did = absurd (cc)
    callers (suc k) inside c did = (counted_at h (take (suc k) H) (prefixes_are_legal h H (suc k) legal (omega arith) inside)).numbered c did

    few : (k : ℕ) → k ≤ length H → vectors (take k H) ≤ MOST_PUBLICATIONS
    few zero inside = omega arith
    few (suc k) inside = omega (arith, vectors_fit h (take (suc k) H) (prefixes_are_legal h H (suc k) legal (omega arith) inside), publications)

-- the caller
may_act_small : (G : History) (caller : ℕ) → ((c : ℕ) → has_enrolled G c ≡ true → c ≤ greatest_caller) → may_act G caller ≡ true → caller ≤ greatest_caller
may_act_small G caller callers may = elim (or_cases (caller == 0) (has_enrolled G caller && not (has_left G caller)) may) [
  | inl opener ↦ omega (arith, eqb-true caller 0 opener)
  | inr present ↦ callers caller (and_parts (has_enrolled G caller) (not (has_left G caller)) present).0
]

caller_small : (G : History) (caller : ℕ) (act : Act) → ((c : ℕ) → has_enrolled G c ≡ true → c ≤ greatest_caller) → IsTrue (may_log G caller act) →
    caller ≤ greatest_caller
caller_small G caller (Do command) callers may = may_act_small G caller callers may
caller_small G caller (Publish position) callers may = may_act_small G caller callers may
caller_small G caller Enrol callers may = from_one greatest_caller caller (and_parts _ _ may).0
caller_small G caller Leave callers may = may_act_small G caller callers (and_parts _ _ may).1

-- the act
below : (a b : ℕ) → nat_lt a b ≡ true → a < b
below a b e = grind (arith, nat_tests)

up_to : (a b : ℕ) → nat_le a b ≡ true → a ≤ b
up_to a b e = grind (arith, nat_tests)

command_within : (h : Inn) (c : Command) → IsHouse h → IsTrue (is_command_in_range h c) → IsCommandWithin c
command_within h (Book stay) house is = let few = house.instance.stays in let f : stay < length h.stays = below _ _ is in omega (arith, few, f)
command_within h (Cancel nth) house is = omega (arith, from_one MOST_ENTRIES nth is)
command_within h (Reforecast stay count) house is = let few = house.instance.stays in let p = and_parts _ _ is in
    let f : stay < length h.stays = below _ _ p.0 in let g : count ≤ 1000000 = up_to _ _ p.1 in (omega (arith, few, f), omega (arith, g))
command_within h (Reprice stay rate) house is = let few = house.instance.stays in let p = and_parts _ _ is in let f : stay < length h.stays = below _ _ p.0 in
    let g = from_one MOST_RATE rate p.1 in (omega (arith, few, f), omega (arith, g))
command_within h (Resize night rooms) house is = let few = house.instance.nights in let p = and_parts _ _ is in
    let f : night < length h.rooms = below _ _ p.0 in let g : rooms ≤ MOST_ROOMS = up_to _ _ p.1 in (omega (arith, few, f), omega (arith, g))
command_within h (Group span rooms amount) house is =
    let few = house.instance.nights in
    let p = and_parts _ _ is in
    let s = and_parts _ _ p.0 in
    let n = and_parts _ _ p.1 in
    let f : span.from < span.to = below _ _ s.0 in
    let t : span.to ≤ length h.rooms = up_to _ _ s.1 in
    let r = from_one MOST_GROUP_ROOMS rooms n.0 in
    let a : amount ≤ MOST_AMOUNT = up_to _ _ n.1 in
    (omega (arith, few, f, t), omega (arith, few, t), omega (arith, r), omega (arith, a))

publish_within : (h : Inn) (G : History) (x : Line) → IsHouse h → length G ≤ 201130 → IsLegalLine h G x → IsActWithin x.entry.act
publish_within h G x house few legal = go x.entry.act refl legal.range
  where
    go : (a : Act) → x.entry.act ≡ a → IsTrue (is_in_range h a) → IsActWithin a
    go (Do command) is range = command_within h command house range
    go (Publish position) is range = omega (arith, position_so_far h G x position legal is, few)
    go Enrol is range = tt
    go Leave is range = tt

-- the reply
night_within : (h : Inn) (G : History) (span : Span) (asked night : ℕ) → span.from ≤ span.to → span.to ≤ MOST_NIGHTS →
    first_short (rooms_left_at h G) span asked ≡ Some night → IsHalfWord night
night_within h G span asked night ordered within some =
    let first = first_passes (λ n. nat_lt (rooms_left_at h G n) asked) span.from (span.to - span.from) night some in
    omega (arith, first.below, ordered, within)

covered_within : (vector sum : ℕ) (full : Option ℕ) → IsWord vector → IsWord sum → ((night : ℕ) → full ≡ Some night → IsHalfWord night) →
    IsReplyWithin (covered_reply vector sum full)
covered_within vector sum None v s n = (v, s)
covered_within vector sum (Some night) v s n = (v, s, n night refl)

book_within : (b : Bool) (vector sum rate : ℕ) (full : Option ℕ) → IsWord vector → IsWord sum → IsWord rate →
    ((night : ℕ) → full ≡ Some night → IsHalfWord night) → IsReplyWithin (cond b (TooLow vector sum rate) (covered_reply vector sum full))
book_within true vector sum rate full v s r n = (v, s, r)
book_within false vector sum rate full v s r n = covered_within vector sum full v s n

given_up_within : (found : Option Line) (again : Bool) → IsReplyWithin (given_up_reply found again)
given_up_within None again = tt
given_up_within (Some x) again = go (is_accepted x.entry.reply) again
  where
    go : (a b : Bool) → IsReplyWithin (cond a (cond b AlreadyCancelled Cancelled) NotBooked)
    go true true = tt
    go true false = tt
    go false b = tt

resized_within : (b : Bool) (sold : ℕ) → IsWord sold → IsReplyWithin (cond b (BelowSold sold) Done)
resized_within true sold small = small
resized_within false sold small = tt

group_within : (b : Bool) (displacement : ℕ) → displacement ≤ MOST_VALUE → IsReplyWithin (cond b (GroupTooLow displacement) (GroupAccepted displacement))
group_within true displacement small = small
group_within false displacement small = small

group_span : (h : Inn) (span : Span) (rooms amount : ℕ) → is_command_in_range h (Group span rooms amount) ≡ true →
    (span.from < span.to) × (span.to ≤ length h.rooms)
group_span h span rooms amount range =
    let p = and_parts _ _ range in
    let s = and_parts _ _ p.0 in
    (below _ _ s.0, up_to _ _ s.1)

command_reply_within : (h : Inn) (G : History) (caller : ℕ) (c : Command) (r : Reply) → IsHouse h → IsTame h G → IsTrue (is_command_in_range h c) →
    IsCommandReply h G caller c r → IsReplyWithin r
command_reply_within h G caller (Book stay) r house tame range is =
    let inside : stay < length h.stays = below _ _ range in
    let span = house.instance.spans stay no_stay inside in
    let sum = price_is_small (last_prices G) (span_of h stay) tame.prices.0 in
    let rate : rate_of h G stay ≤ MOST_RATE = (tame.sound.rates stay inside).1 in
    subst IsReplyWithin (sym is)
    (book_within (nat_lt (rate_of h G stay) (sum_of h G stay)) (last_number G) (sum_of h G stay) (rate_of h G stay)
    (first_short (rooms_left_at h G) (span_of h stay) 1)
    (omega (arith, tame.few_vectors)) (omega (arith, sum, tame.prices.1)) (omega (arith, rate))
    (λ night some. night_within h G (span_of h stay) 1 night (omega (arith, span.0)) (omega (arith, span.1, house.instance.nights)) some))
command_reply_within h G caller (Cancel nth) r house tame range is =
    subst IsReplyWithin (sym is) (given_up_within (nth_book G caller nth) (list_any (is_cancellation caller nth) G))
command_reply_within h G caller (Reforecast stay count) r house tame range is = subst IsReplyWithin (sym is) tt
command_reply_within h G caller (Reprice stay rate) r house tame range is = subst IsReplyWithin (sym is) tt
command_reply_within h G caller (Resize night rooms) r house tame range is =
    let inside : night < length h.rooms = below _ _ (and_parts _ _ range).0 in
    subst IsReplyWithin (sym is)
    (resized_within (nat_lt rooms (sold_at h G night)) (sold_at h G night) (omega (arith, tame.sound.sold night inside, tame.sound.rooms night inside)))
command_reply_within h G caller (Group span rooms amount) r house tame range is = go (first_short (rooms_left_at h G) span rooms) refl is
  where
    go : (full : Option ℕ) → first_short (rooms_left_at h G) span rooms ≡ full →
        MatchOption full (IsPricedReply h G span rooms amount r) (λ night. r ≡ GroupNoRoom night) → IsReplyWithin r
    go None none priced =
        subst IsReplyWithin (sym priced.answers) (group_within (nat_lt (h.limits.unit * amount) priced.displacement) priced.displacement
        (displacement_is_small (instance_of h G) span (h.limits.unit * rooms) priced.displacement
        (keeps_limits h G house tame.sound).instance priced.displaces))
    go (Some night) some e =
        subst IsReplyWithin (sym e) (let span_is = group_span h span rooms amount range in
        night_within h G span rooms night (omega (arith, span_is.0)) (omega (arith, span_is.1, house.instance.nights)) some)

reply_within : (h : Inn) (G : History) (caller : ℕ) (a : Act) (r : Reply) → IsHouse h → IsTame h G → IsTrue (is_in_range h a) → IsReply h G caller a r →
    IsReplyWithin r
reply_within h G caller (Do command) r house tame range is = command_reply_within h G caller command r house tame range is
reply_within h G caller (Publish position) r house tame range is = subst IsReplyWithin (sym is) (let few = tame.few_vectors in omega (arith, few))
reply_within h G caller Enrol r house tame range is = subst IsReplyWithin (sym is) tt
reply_within h G caller Leave r house tame range is = subst IsReplyWithin (sym is) tt

-- the line
line_within : (h : Inn) (H : History) (i : ℕ) → IsHouse h → IsLegal h H → i < length H → IsLineWithin (line_at H i)
line_within h H i house legal within =
    let G = take i H in
    let x : Line = line_at H i in
    let line = legal.lines i within in
    let tame = tame_at h H i house legal (omega arith) in (
      record {
        caller = omega (arith, caller_small G x.entry.caller x.entry.act tame.callers line.caller);
        act = publish_within h G x house tame.few line;
        reply = reply_within h G x.entry.caller x.entry.act x.entry.reply house tame line.range line.reply;
      },
      go x.certificate refl,
    )
  where
    go : (o : Option Claim) → (line_at H i).certificate ≡ o → MatchOption (line_at H i).certificate (Unit {0}) IsSpeakable
    go None none = subst (λ (o : Option Claim). MatchOption o (Unit {0}) IsSpeakable) (sym none) tt
    go (Some c) some =
        let G = take i H in
        let line = legal.lines i within in
        let is = certified_line h G (line_at H i) c line some in
        let early = position_so_far h G (line_at H i) is.0 line is.1 in
        let short = length-take-le i H (omega arith) in
        let limits = (keeps_limits h (take is.0 H) house (sound_at h H is.0 house legal (omega (arith, early, short)))).instance in
        let P : History → Type 0 = λ K. IsWithinLimits (instance_of h K) in
        let there = subst P (sym (take_take H is.0 i (omega (arith, early, short)))) limits in
        subst (λ (o : Option Claim). MatchOption o (Unit {0}) IsSpeakable) (sym some) (certificate_is_small (instance_at h G is.0) c there is.2)

pub legal_is_within : (h : Inn) (H : History) → IsHouse h → IsLegal h H → All IsLineWithin H
legal_is_within h H house legal i d inside = subst IsLineWithin (get_or_default H i no_line d inside) (line_within h H i house legal inside)
