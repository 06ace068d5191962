-- What reading a line that is no vector owes.
use Rattle.std.proofs.Common.{◌≡◌, ◌≢◌, ◌∙◌, false, refl, sym, subst, ap, [], ◌∷◌, ◌++◌, Option, Some, None, MatchOption}
use Rattle.bp_types.specs.House.{Inn}
use Rattle.bp_core.specs.declared.line.Act.{Act}
use Rattle.bp_core.specs.declared.line.Line.{Line}
use Rattle.bp_core.specs.declared.line.Reply.{Reply}
use Rattle.bp_core.specs.declared.line.Act.TheVariants.{Enrol as EnrolAct, Leave as LeaveAct}
use Rattle.bp_core.specs.declared.call.Call.{Call}
use Rattle.bp_core.specs.declared.call.Call.TheVariants.{Do, Publish, Enrol, Leave}
use Rattle.bp_core.specs.declared.call.Answer.{Answer}
use Rattle.bp_core.specs.declared.call.Answer.TheVariants.{Logged}
use Rattle.bp_core.specs.Acting.{Diary, IsAnswered, act_of, plain_line}
use Rattle.bp_core.specs.Legal.{IsLegal, IsLegalLine, IsCertified}
use Rattle.bp_core.specs.Lines.{History, published_position}
use Rattle.bp_core.specs.Replying.{LastLineIsLegal, OneReply}
use Rattle.bp_judge.specs.declared.replay.Replay.{Replay}
use Rattle.bp_judge.specs.declared.judgement.Cause.{Cause}
use Rattle.bp_judge.specs.declared.judgement.Cause.TheVariants.{Opening, Caller, Range, Limit, Behind, Position, Certificate, Reply as OtherReply}
use Rattle.bp_judge.specs.Judging.{IsFirstCause}
use Rattle.bp_judge.specs.Searches.{wants_quote}
use Rattle.bp_judge.specs.Replays.{IsReplay, HasRead, IsOther, IsPlain}
use Rattle.bp_judge.proofs.Firsts.{first_reply, first_with}
use Rattle.bp_judge.proofs.Along.{replay_later}

-- the plain line with another reply is legal: so this one is not the reply
first_other : OneReply → (h : Inn) (H : History) (x : Line) (reply : Reply) → IsLegalLine h H (plain_line x.entry.caller x.entry.act reply) →
    x.certificate ≡ None → x.entry.reply ≢ reply → IsFirstCause h H x OtherReply
first_other once h H x reply legal none other =
    let P : Option _ → Type 0 = λ c. IsCertified h H x.entry.act c in
    first_reply h H x legal.opening legal.caller legal.range legal.limit legal.behind legal.position (subst P (sym none) legal.certificate)
    (λ is. other (once h H x.entry.caller x.entry.act x.entry.reply reply is legal.reply))

-- the plain line of the moment, and what the comparison found
pub read_plain : LastLineIsLegal → OneReply → (old new : Replay) (x : Line) (reply : Reply) (cause : Option Cause) → IsReplay new →
    new.book ≡ record { house = old.book.house; history = old.book.history ++ plain_line x.entry.caller x.entry.act reply ∷ [] } →
    MatchOption cause ((x.certificate ≡ None) × (x.entry.reply ≡ reply)) (IsOther x reply) → HasRead old new x cause
read_plain last once old new x reply cause is book compared = go cause compared
  where
    line : IsLegalLine old.book.house old.book.history (plain_line x.entry.caller x.entry.act reply)
    line = let P : Diary → Type 0 = λ d. IsLegal d.house d.history in
        last old.book.house old.book.history (plain_line x.entry.caller x.entry.act reply) (subst P book is.legal)

    go : (o : Option Cause) → MatchOption o ((x.certificate ≡ None) × (x.entry.reply ≡ reply)) (IsOther x reply) → HasRead old new x o
    go None c =
        let same : plain_line x.entry.caller x.entry.act reply ≡ x =
        ap (λ (r : Reply). record { entry = record { caller = x.entry.caller; act = x.entry.act; reply = r }; certificate = None }) (sym c.1)
        ∙ ap (λ o. record { entry = x.entry; certificate = o }) (sym c.0) in
        (is, book ∙ ap (λ (y : Line). record { house = old.book.house; history = old.book.history ++ y ∷ [] }) same)
    go (Some Opening) c = absurd c
    go (Some Caller) c = absurd c
    go (Some Range) c = absurd c
    go (Some Limit) c = absurd c
    go (Some Behind) c = absurd c
    go (Some Position) c = absurd c
    go (Some Certificate) c = first_with old.book.house old.book.history x reply line c
    go (Some OtherReply) c = first_other once old.book.house old.book.history x reply line c.0 c.1

same_reply : (a b : Reply) → Logged a ≡ Logged b → a ≡ b
same_reply a b e = cc

unrefused : LastLineIsLegal → OneReply → (old : Replay) (new : Diary) (x : Line) (act : Act) (reply made : Reply) (cause : Option Cause) → IsReplay old →
    x.entry.act ≡ act → published_position act ≡ None → wants_quote old.book.house old.book.history act ≡ false →
    new ≡ record { house = old.book.house; history = old.book.history ++ plain_line x.entry.caller act made ∷ [] } → IsLegal new.house new.history →
    reply ≡ made →
    MatchOption cause ((x.certificate ≡ None) × (x.entry.reply ≡ reply)) (IsOther x reply) → HasRead old (record { book = new; trail = old.trail }) x cause
unrefused last once old new x act reply made cause is same plain skips adds legal replies compared =
    let adds' : new ≡ record { house = old.book.house; history = old.book.history ++ plain_line x.entry.caller x.entry.act reply ∷ [] } =
    adds ∙ ap (λ a. record { house = old.book.house; history = old.book.history ++ plain_line x.entry.caller a made ∷ [] }) (sym same)
    ∙ ap (λ r. record { house = old.book.house; history = old.book.history ++ plain_line x.entry.caller x.entry.act r ∷ [] }) (sym replies) in
    let after : IsReplay (record { book = new; trail = old.trail }) =
    replay_later old (record { book = new; trail = old.trail }) (plain_line x.entry.caller x.entry.act reply) is refl adds' legal
    (ap published_position same ∙ plain) (ap (wants_quote old.book.house old.book.history) same ∙ skips) in
    read_plain last once old (record { book = new; trail = old.trail }) x reply cause after adds' compared

-- an Enrol or a Leave
pub read_unrefused : LastLineIsLegal → OneReply →
    (old : Replay) (new : Diary) (x : Line) (call : Call) (reply : Reply) (answer : Answer) (cause : Option Cause) → IsReplay old → IsPlain call →
    x.entry.act ≡ act_of call → IsAnswered old.book new x.entry.caller call answer →
    IsLegal new.house new.history → answer ≡ Logged reply → MatchOption cause ((x.certificate ≡ None) × (x.entry.reply ≡ reply)) (IsOther x reply) →
    HasRead old (record { book = new; trail = old.trail }) x cause
read_unrefused last once old new x Enrol reply answer cause is plain act l legal same compared =
    unrefused last once old new x EnrolAct reply l.reply cause is act refl refl (l.adds) legal (same_reply reply l.reply (sym same ∙ l.answer_is)) compared
read_unrefused last once old new x Leave reply answer cause is plain act l legal same compared =
    unrefused last once old new x LeaveAct reply l.reply cause is act refl refl (l.adds) legal (same_reply reply l.reply (sym same ∙ l.answer_is)) compared
read_unrefused last once old new x (Do command quoted) reply answer cause is plain act l legal same compared = absurd plain
read_unrefused last once old new x (Publish board least) reply answer cause is plain act l legal same compared = absurd plain
