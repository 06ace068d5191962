-- Changes made one after the other, joined.
use Rattle.std.proofs.Common.{◌≡◌, ap, sym, subst, ◌∙◌, List, [], ◌∷◌, ◌++◌}
use Rattle.bp_types.specs.declared.change.Change.{Change}
use Rattle.bp_types.specs.Program.{Program}
use Rattle.bp_types.proofs.Appending.{changes_append, fits_append}
use Rattle.bp_types.specs.Changes.{changed, Fits, changed_by_all, FitInTurn, Leads}

pub leads-append : (p q r : Program) (xs ys : List Change) → Leads p xs q → Leads q ys r → Leads p (xs ++ ys) r
leads-append p q r xs ys start rest =
    let P : Program → Type 0 = λ s. FitInTurn s ys in
    record {
      fits = fits_append p xs ys start.fits (subst P (sym start.gives) rest.fits);
      gives = changes_append p xs ys ∙ ap (λ s. changed_by_all s ys) start.gives ∙ rest.gives;
    }

pub leads_none : (p q : Program) → p ≡ q → Leads p [] q
leads_none p q same = record { fits = tt; gives = same }

pub leads_one : (p q : Program) (c : Change) → Fits p c → changed p c ≡ q → Leads p (c ∷ []) q
leads_one p q c fits is = record { fits = (fits, tt); gives = is }
