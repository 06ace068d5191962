use Rattle.std.proofs.Common.{◌≡◌, true, false, refl, Option, None, Err, List, ℕ, cond}
use Rattle.std.specs.Str.{is_utf8, IsUtf8}
use Rattle.std.proofs.lemmas.Str.{IsUtf8-from_is_utf8, is_utf8-from_IsUtf8}
use Rattle.toml.specs.Data.{Members}
use Rattle.toml.specs.Parse.{parse_document}
use Rattle.bp_hotelfile.specs.Season.{tree_of}
use Rattle.bp_hotelfile.specs.declared.error.HotelRefusal.TheVariants.{NotToml}
use Rattle.bp_hotelfile.proofs.tree.tree_of.Goals as goal

no_text : (bytes : List ℕ) → (IsUtf8 bytes → ⊥) → tree_of bytes ≡ Err NotToml
no_text bytes broken =
    elim (is_utf8 bytes) as (λ b. is_utf8 bytes ≡ b → Rattle.std.specs.Option.ok_or (cond b (parse_document bytes) None) NotToml ≡ Err NotToml) [
      | true ↦ λ e. absurd (broken (IsUtf8-from_is_utf8 bytes e))
      | false ↦ λ e. refl
    ] refl

read_text : (bytes text : List ℕ) (found : Option Members) → text ≡ bytes → IsUtf8 bytes → parse_document text ≡ found →
    tree_of bytes ≡ Rattle.std.specs.Option.ok_or found NotToml
read_text bytes text found same utf8 parsed = rw (is_utf8-from_IsUtf8 bytes utf8, ← same, parsed)

pub returns-in_default-clause-err : goal.returns-in_default-clause-err
returns-in_default-clause-err c = no_text c.args.bytes.now c.in_default.ensures.cases.0

pub returns-in-Ok-table_from_str-clause-ok : goal.returns-in-Ok-table_from_str-clause-ok
returns-in-Ok-table_from_str-clause-ok c =
    read_text c.args.bytes.now c.in-Ok.text.now _ c.in-Ok.ensures.cases.0 c.in-Ok.ensures.cases.1 c.in-Ok-table_from_str.ensures.ok
