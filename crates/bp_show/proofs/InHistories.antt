-- The vectors of a history, by their numbers.
use Rattle.std.proofs.Common.{
  ◌≡◌,
  ℕ,
  zero,
  suc,
  ◌<◌,
  List,
  [],
  ◌∷◌,
  ◌++◌,
  length,
  take,
  drop,
  take-append-drop,
  slice_get,
  Option,
  Some,
  None,
  unwrap_or,
  refl,
  sym,
  ap,
  subst,
  ◌∙◌,
  arith,
}
use Rattle.std.specs.List.{cons_option}
use Rattle.std.specs.Option.{option_map}
use Rattle.std.proofs.lemmas.List.{length-take-le}
use Rattle.std.proofs.lemmas.List.Elements.{All-push, All-weaker, filter_map-append}
use Rattle.bp_types.specs.Claim.{Claim, IsCertificateOf}
use Rattle.bp_types.specs.House.{Inn}
use Rattle.bp_types.specs.Laws.{CertificateIsOptimal}
use Rattle.bp_board.specs.Posted.{Posted}
use Rattle.bp_core.specs.declared.line.Act.{Act}
use Rattle.bp_core.specs.declared.line.Act.TheVariants.{Do, Publish, Enrol, Leave}
use Rattle.bp_core.specs.declared.line.Line.{Line}
use Rattle.bp_core.specs.Lines.{History, line_at, posted, boards, published_position, last_number, last_prices}
use Rattle.bp_core.specs.Instance.{instance_at}
use Rattle.bp_core.specs.Legal.{IsLegal, IsCertified}
use Rattle.bp_core.specs.Staying.{IsPrefix}
use Rattle.bp_core.proofs.Growing.{instance_stays}
use Rattle.bp_core.proofs.Vectors.{position_so_far, last_board_is_last}
use Rattle.bp_core.proofs.Boards.{ends_with}
use Rattle.bp_show.specs.Vectors.{Vector, vector_on, newest_of}
use Rattle.bp_show.specs.Histories.{IsVectorIn, AreVectorsIn, IsCertifiedIn, VectorsStay, VectorsCertify}

-- the last vector has a price for each night of the house
pub newest_nights : (h : Inn) (H : History) → IsLegal h H → length (last_prices H) ≡ length h.rooms
newest_nights h H legal =
    let board = last_board_is_last h H legal in
    let facts = (ends_with h H legal).last board.board board.last in
    ap (λ (p : List ℕ). length p) (sym facts.1) ∙ facts.2

-- the last vector is the one of its number
pub newest_is_there : (h : Inn) (H : History) → IsLegal h H → IsVectorIn H (newest_of H)
newest_is_there h H legal =
    let board = last_board_is_last h H legal in (
      board.board,
      board.last,
      ap (λ (p : ℕ). record { number = last_number H; position = p; prices = last_prices H }) (sym board.position)
          ∙ ap (λ (p : List ℕ). record { number = last_number H; position = board.board.position; prices = p }) (sym board.prices),
    )

-- a list of vectors of a history, and one more
pub vectors_more : (H : History) (old new : List Vector) (v : Vector) → IsVectorIn H v → new ≡ old ++ v ∷ [] → AreVectorsIn H old → AreVectorsIn H new
vectors_more H old new v there is are = subst (AreVectorsIn H) (sym is) (All-push (IsVectorIn H) old v are there)

get_before : (bs cs : List Posted) (k : ℕ) (b : Posted) → slice_get bs k ≡ Some b → slice_get (bs ++ cs) k ≡ Some b
get_before [] cs k b is = absurd (cc)
get_before (c ∷ bs) cs zero b is = is
get_before (c ∷ bs) cs (suc k) b is = get_before bs cs k b is

vector_stays : (G H : History) (v : Vector) → IsPrefix G H → IsVectorIn G v → IsVectorIn H v
vector_stays G H v (rest, grows) (board, there, is) =
    let all : boards H ≡ boards G ++ boards rest = ap boards grows ∙ filter_map-append posted G rest in
    (board, ap (λ (bs : List Posted). slice_get bs v.number) all ∙ get_before (boards G) (boards rest) v.number board there, is)

pub vectors_stay : VectorsStay
vectors_stay G H shown grows are = All-weaker (IsVectorIn G) (IsVectorIn H) (λ v there. vector_stays G H v grows there) shown are

-- each board stands in a line
abbrev StandsIn : History → Posted → Type 0
StandsIn H b = (i : ℕ) × (i < length H) × (posted (line_at H i) ≡ Some b)

-- a board of the lines behind one stands there, if each that is behind it does
stands_later : (x : Line) (H : History) (b : Posted) → StandsIn H b → StandsIn (x ∷ H) b
stands_later x H b (i, within, at) = (suc i, omega (arith, within), at)

stands_first : (x : Line) (H : History) (b : Posted) (o : Option Posted) → posted x ≡ o → ((n : ℕ) → slice_get (boards H) n ≡ Some b → StandsIn H b) →
    (k : ℕ) → slice_get (cons_option o (boards H)) k ≡ Some b → StandsIn (x ∷ H) b
stands_first x H b None none rest k is = stands_later x H b (rest k is)
stands_first x H b (Some c) some rest zero is = (0, omega arith, some ∙ is)
stands_first x H b (Some c) some rest (suc k) is = stands_later x H b (rest k is)

stands : (H : History) (k : ℕ) (b : Posted) → slice_get (boards H) k ≡ Some b → StandsIn H b
stands [] k b is = absurd (cc)
stands (x ∷ H) k b is = stands_first x H b (posted x) refl (λ n at. stands H n b at) k is

-- the board of a line that publishes
posted_is : (position : ℕ) (certificate : Option Claim) (c : Claim) (b : Posted) → certificate ≡ Some c →
    option_map (λ (k : Claim). record { position = position; certificate = k }) certificate ≡ Some b → b ≡ record { position = position; certificate = c }
posted_is position certificate c b some is =
    let e : Some (record { position = position; certificate = c }) ≡ Some b =
    ap (option_map (λ (k : Claim). record { position = position; certificate = k })) (sym some) ∙ is in cc

-- a board that stands in a legal history certifies
board_certifies : CertificateIsOptimal → (h : Inn) (H : History) (b : Posted) → IsLegal h H → StandsIn H b → IsCertifiedIn h H (vector_on 0 b)
board_certifies optimal h H b legal (i, within, at) = by_act (line_at H i).entry.act refl
  where
    none : (line_at H i).certificate ≡ None → IsCertifiedIn h H (vector_on 0 b)
    none off =
        let e : None ≡ Some b = ap
        (option_map (λ (k : Claim). record { position = unwrap_or (published_position (line_at H i).entry.act) 0; certificate = k })) (sym off) ∙ at in
        absurd (cc)

    by_act : (a : Act) → (line_at H i).entry.act ≡ a → IsCertifiedIn h H (vector_on 0 b)
    by_act (Publish position) is =
        let G : History = take i H in
        let line = legal.lines i within in
        let c = subst (λ (a : Act). IsCertified h G a (line_at H i).certificate) is line.certificate in
        let there : option_map (λ (k : Claim). record { position = position; certificate = k }) (line_at H i).certificate ≡ Some b =
        ap (λ (a : Act). option_map (λ (k : Claim). record { position = unwrap_or (published_position a) 0; certificate = k }) (line_at H i).certificate)
        (sym is) ∙ at in
        let board : b ≡ record { position = position; certificate = c.0 } = posted_is position (line_at H i).certificate c.0 b c.1 there in
        let le = position_so_far h G (line_at H i) position line is in
        let size = length-take-le i H (omega (arith, within)) in
        let same : instance_at h H position ≡ instance_at h G position = instance_stays h G H position (drop i H, sym (take-append-drop i H)) le in
        let certifies : IsCertificateOf (instance_at h H position) c.0 = subst (λ p. IsCertificateOf p c.0) (sym same) c.2 in
        subst (λ (d : Posted). IsCertifiedIn h H (vector_on 0 d)) (sym board) (record {
          claim = c.0;
          prices = refl;
          so_far = omega (arith, le, size, within);
          certifies = certifies;
          optimum = optimal _ _ _ _ certifies;
        })
    by_act (Do command) is = none (subst (λ (a : Act). IsCertified h (take i H) a (line_at H i).certificate) is (legal.lines i within).certificate)
    by_act Enrol is = none (subst (λ (a : Act). IsCertified h (take i H) a (line_at H i).certificate) is (legal.lines i within).certificate)
    by_act Leave is = none (subst (λ (a : Act). IsCertified h (take i H) a (line_at H i).certificate) is (legal.lines i within).certificate)

certifies_as : (h : Inn) (H : History) (v : Vector) (b : Posted) → v ≡ vector_on v.number b → IsCertifiedIn h H (vector_on 0 b) → IsCertifiedIn h H v
certifies_as h H v b is c =
    subst (IsCertifiedIn h H) (sym is) (record { claim = c.claim; prices = c.prices; so_far = c.so_far; certifies = c.certifies; optimum = c.optimum })

pub vectors_certify : CertificateIsOptimal → VectorsCertify
vectors_certify optimal h H shown legal are =
    All-weaker (IsVectorIn H) (IsCertifiedIn h H)
    (λ v there. certifies_as h H v there.0 there.2 (board_certifies optimal h H there.0 legal (stands H v.number there.0 there.1))) shown are
