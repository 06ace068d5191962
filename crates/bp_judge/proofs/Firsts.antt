-- First causes, by the rules that come before.
use Rattle.std.proofs.Common.{◌≡◌, ◌≢◌, ℕ, ◌<◌, ◌≤◌, arith, Bool, false, length, Option, None, IsTrue, ◌&&◌, nat_lt}
use Rattle.std.proofs.lemmas.Bool.{or_left, lt-ltb, both_ways}
use Rattle.bp_types.specs.House.{Inn}
use Rattle.bp_core.specs.declared.line.Act.{Act}
use Rattle.bp_core.specs.declared.line.Act.TheVariants.{Do, Publish, Enrol, Leave}
use Rattle.bp_core.specs.declared.line.Line.{Line}
use Rattle.bp_core.specs.declared.line.Reply.{Reply}
use Rattle.bp_core.specs.Acting.{plain_line}
use Rattle.bp_core.specs.Callers.{may_log}
use Rattle.bp_core.specs.Legal.{IsLegalLine, IsCertified, opens, is_in_range, is_allowed, is_fresh, is_newer, is_opening_act}
use Rattle.bp_core.specs.Lines.{History, is_by}
use Rattle.bp_types.specs.Claim.{Claim}
use Rattle.bp_judge.specs.declared.judgement.Cause.{Cause}
use Rattle.bp_judge.specs.declared.judgement.Cause.TheVariants.{Opening, Caller, Range, Limit, Behind, Position, Certificate, Reply as OtherReply}
use Rattle.bp_judge.specs.Judging.{Keeps, rank, IsFirstCause}

-- what holds below a rank, rule by rule
pub all_before : (h : Inn) (H : History) (x : Line) (n : ℕ) → (0 < n → IsTrue (opens H x)) → (1 < n → IsTrue (may_log H x.entry.caller x.entry.act)) →
    (2 < n → IsTrue (is_in_range h x.entry.act)) →
    (3 < n → IsTrue (is_allowed h H x.entry.act)) → (4 < n → IsTrue (is_fresh h H x.entry.act)) → (5 < n → IsTrue (is_newer H x.entry.act)) →
    (6 < n → IsCertified h H x.entry.act x.certificate) →
    n ≤ 7 → (other : Cause) → rank other < n → Keeps h H x other
all_before h H x n a b c d e f g most Opening l = a l
all_before h H x n a b c d e f g most Caller l = b l
all_before h H x n a b c d e f g most Range l = c l
all_before h H x n a b c d e f g most Limit l = d l
all_before h H x n a b c d e f g most Behind l = e l
all_before h H x n a b c d e f g most Position l = f l
all_before h H x n a b c d e f g most Certificate l = g l
all_before h H x n a b c d e f g most OtherReply l = absurd (omega arith)

-- each rule by its cause, of a legal line
pub keeps_all : (h : Inn) (H : History) (x : Line) → IsLegalLine h H x → (cause : Cause) → Keeps h H x cause
keeps_all h H x legal Opening = legal.opening
keeps_all h H x legal Caller = legal.caller
keeps_all h H x legal Range = legal.range
keeps_all h H x legal Limit = legal.limit
keeps_all h H x legal Behind = legal.behind
keeps_all h H x legal Position = legal.position
keeps_all h H x legal Certificate = legal.certificate
keeps_all h H x legal OtherReply = legal.reply

pub opens_later : (H : History) (x : Line) → 1 ≤ length H → IsTrue (opens H x)
opens_later H x some = or_left (nat_lt 0 (length H)) (is_by 0 x && is_opening_act x.entry.act) (lt-ltb 0 (length H) (omega arith))

not_true : (b : Bool) → b ≡ false → IsTrue b → ⊥
not_true b f t = both_ways b f t

pub first_opening : (h : Inn) (H : History) (x : Line) → opens H x ≡ false → IsFirstCause h H x Opening
first_opening h H x wrong = record {
  breaks = λ k. both_ways (opens H x) wrong k;
  before = λ other l. absurd (omega arith);
}

pub first_caller : (h : Inn) (H : History) (x : Line) → 1 ≤ length H → may_log H x.entry.caller x.entry.act ≡ false → IsFirstCause h H x Caller
first_caller h H x some wrong = record {
  breaks = λ k. both_ways _ wrong k;
  before = all_before h H x 1 (λ l. opens_later H x some) (λ l. absurd (omega arith)) (λ l. absurd (omega arith)) (λ l. absurd (omega arith))
      (λ l. absurd (omega arith)) (λ l. absurd (omega arith)) (λ l. absurd (omega arith)) (omega arith);
}

pub first_range : (h : Inn) (H : History) (x : Line) → 1 ≤ length H → IsTrue (may_log H x.entry.caller x.entry.act) → is_in_range h x.entry.act ≡ false →
    IsFirstCause h H x Range
first_range h H x some caller wrong = record {
  breaks = λ k. both_ways _ wrong k;
  before = all_before h H x 2 (λ l. opens_later H x some) (λ l. caller) (λ l. absurd (omega arith)) (λ l. absurd (omega arith)) (λ l. absurd (omega arith))
      (λ l. absurd (omega arith)) (λ l. absurd (omega arith)) (omega arith);
}

pub first_limit : (h : Inn) (H : History) (x : Line) → 1 ≤ length H → IsTrue (may_log H x.entry.caller x.entry.act) → IsTrue (is_in_range h x.entry.act) →
    is_allowed h H x.entry.act ≡ false → IsFirstCause h H x Limit
first_limit h H x some caller range wrong = record {
  breaks = λ k. both_ways _ wrong k;
  before = all_before h H x 3 (λ l. opens_later H x some) (λ l. caller) (λ l. range) (λ l. absurd (omega arith)) (λ l. absurd (omega arith))
      (λ l. absurd (omega arith)) (λ l. absurd (omega arith)) (omega arith);
}

pub first_behind : (h : Inn) (H : History) (x : Line) → 1 ≤ length H → IsTrue (may_log H x.entry.caller x.entry.act) → IsTrue (is_in_range h x.entry.act) →
    IsTrue (is_allowed h H x.entry.act) → is_fresh h H x.entry.act ≡ false → IsFirstCause h H x Behind
first_behind h H x some caller range limit wrong = record {
  breaks = λ k. both_ways _ wrong k;
  before = all_before h H x 4 (λ l. opens_later H x some) (λ l. caller) (λ l. range) (λ l. limit) (λ l. absurd (omega arith)) (λ l. absurd (omega arith))
      (λ l. absurd (omega arith)) (omega arith);
}

pub first_position : (h : Inn) (H : History) (x : Line) → 1 ≤ length H → IsTrue (may_log H x.entry.caller x.entry.act) → IsTrue (is_in_range h x.entry.act) →
    IsTrue (is_allowed h H x.entry.act) → IsTrue (is_fresh h H x.entry.act) →
    is_newer H x.entry.act ≡ false → IsFirstCause h H x Position
first_position h H x some caller range limit fresh wrong = record {
  breaks = λ k. both_ways _ wrong k;
  before = all_before h H x 5 (λ l. opens_later H x some) (λ l. caller) (λ l. range) (λ l. limit) (λ l. fresh) (λ l. absurd (omega arith))
      (λ l. absurd (omega arith)) (omega arith);
}

pub first_certificate : (h : Inn) (H : History) (x : Line) → IsTrue (opens H x) → IsTrue (may_log H x.entry.caller x.entry.act) →
    IsTrue (is_in_range h x.entry.act) → IsTrue (is_allowed h H x.entry.act) → IsTrue (is_fresh h H x.entry.act) →
    IsTrue (is_newer H x.entry.act) → (IsCertified h H x.entry.act x.certificate → ⊥) → IsFirstCause h H x Certificate
first_certificate h H x opening caller range limit fresh newer wrong = record {
  breaks = wrong;
  before = all_before h H x 6 (λ l. opening) (λ l. caller) (λ l. range) (λ l. limit) (λ l. fresh) (λ l. newer) (λ l. absurd (omega arith)) (omega arith);
}

pub first_reply : (h : Inn) (H : History) (x : Line) → IsTrue (opens H x) → IsTrue (may_log H x.entry.caller x.entry.act) →
    IsTrue (is_in_range h x.entry.act) → IsTrue (is_allowed h H x.entry.act) → IsTrue (is_fresh h H x.entry.act) →
    IsTrue (is_newer H x.entry.act) → IsCertified h H x.entry.act x.certificate → (Keeps h H x OtherReply → ⊥) → IsFirstCause h H x OtherReply
first_reply h H x opening caller range limit fresh newer certified wrong = record {
  breaks = wrong;
  before = all_before h H x 7 (λ l. opening) (λ l. caller) (λ l. range) (λ l. limit) (λ l. fresh) (λ l. newer) (λ l. certified) (omega arith);
}

none_certified : (h : Inn) (H : History) (act : Act) (c : Option Claim) → IsCertified h H act None → IsCertified h H act c → c ≡ None
none_certified h H (Do command) c none is = is
none_certified h H Enrol c none is = is
none_certified h H Leave c none is = is
none_certified h H (Publish position) c none is = absurd (let e = none.1 in cc)

-- the plain line with another reply is legal: this one's certificate is too much
pub first_with : (h : Inn) (H : History) (x : Line) (reply : Reply) → IsLegalLine h H (plain_line x.entry.caller x.entry.act reply) → x.certificate ≢ None →
    IsFirstCause h H x Certificate
first_with h H x reply legal some =
    first_certificate h H x legal.opening legal.caller legal.range legal.limit legal.behind legal.position
    (λ is. some (none_certified h H x.entry.act x.certificate legal.certificate is))

-- the rules before those of the certificate
pub record Rules (h : Inn) (H : History) (x : Line) : Type 0 where
  pub opening : IsTrue (opens H x)
  pub caller : IsTrue (may_log H x.entry.caller x.entry.act)
  pub range : IsTrue (is_in_range h x.entry.act)
  pub limit : IsTrue (is_allowed h H x.entry.act)
  pub behind : IsTrue (is_fresh h H x.entry.act)
  pub position : IsTrue (is_newer H x.entry.act)

pub certificate_after : (h : Inn) (H : History) (x : Line) → Rules h H x → (IsCertified h H x.entry.act x.certificate → ⊥) → IsFirstCause h H x Certificate
certificate_after h H x r wrong = first_certificate h H x r.opening r.caller r.range r.limit r.behind r.position wrong

pub reply_after : (h : Inn) (H : History) (x : Line) → Rules h H x → IsCertified h H x.entry.act x.certificate → (Keeps h H x OtherReply → ⊥) →
    IsFirstCause h H x OtherReply
reply_after h H x r certified wrong = first_reply h H x r.opening r.caller r.range r.limit r.behind r.position certified wrong
