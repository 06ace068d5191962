-- A look at files one by one, from the first on.
use Rattle.std.proofs.Common.{◌≡◌, ℕ, ◌+◌, ◌<◌, ◌≤◌, true, false, cond, nat_eq, List, ◌∷◌, length, drop, get_or, None, Some, sym, ap, ◌∙◌, add-one, suc}
use Rattle.std.proofs.Math.Seq.{drop-cons}
use Rattle.std.proofs.lemmas.List.{drop_all}
use Rattle.std.specs.Ordering.{nat_cmp}
use Rattle.std.specs.Cmp.Lexicographic.{slice_cmp, nat_list_cmp_total, texts_ties}
use Rattle.std.specs.FinMap.{get, get-insert, get-empty}
use Rattle.bp_edges.specs.Memory.{NamedBytes, files_of}
use lib.Pointwise.{pointwise}

-- the file in front has its bytes under its name, and under another name are those of the files behind
get-front : (file : NamedBytes) (files : List NamedBytes) (name : List ℕ)
    → get (files_of (file ∷ files)) name ≡ cond (pointwise nat_eq name file.name) (Some file.bytes) (get (files_of files) name)
get-front file files name =
    get-insert nat_list_cmp_total (files_of files) file.name file.bytes name
    ∙ ap (λ b. cond b (Some file.bytes) (get (files_of files) name)) (sym (texts_ties name file.name))

-- the same of the files from a place on
get-from : (files : List NamedBytes) (i : ℕ) (file : NamedBytes) (name : List ℕ)
    → i < length files → file ≡ get_or files i file
    → get (files_of (drop i files)) name ≡ cond (pointwise nat_eq name file.name) (Some file.bytes) (get (files_of (drop (i + 1) files)) name)
get-from files i file name here is =
    ap (λ rest. get (files_of rest) name) (drop-cons files i file here)
    ∙ ap (λ f. get (files_of (f ∷ drop (suc i) files)) name) (sym is)
    ∙ get-front file (drop (suc i) files) name
    ∙ ap (λ n. cond (pointwise nat_eq name file.name) (Some file.bytes) (get (files_of (drop n files)) name)) (sym (add-one i))

-- a file of this name, where none before it has the name, is the one that counts
pub get-found : (files : List NamedBytes) (i : ℕ) (file : NamedBytes) (name : List ℕ)
    → i < length files → file ≡ get_or files i file → pointwise nat_eq name file.name ≡ true
    → get (files_of (drop i files)) name ≡ Some file.bytes
get-found files i file name here is same =
    get-from files i file name here is ∙ ap (λ b. cond b (Some file.bytes) (get (files_of (drop (i + 1) files)) name)) same

-- a file of another name counts for nothing
pub get-passed : (files : List NamedBytes) (i : ℕ) (file : NamedBytes) (name : List ℕ)
    → i < length files → file ≡ get_or files i file → pointwise nat_eq name file.name ≡ false
    → get (files_of (drop i files)) name ≡ get (files_of (drop (i + 1) files)) name
get-passed files i file name here is other =
    get-from files i file name here is ∙ ap (λ b. cond b (Some file.bytes) (get (files_of (drop (i + 1) files)) name)) other

-- behind the last file there is none
pub get-passed_all : (files : List NamedBytes) (i : ℕ) (name : List ℕ) → length files ≤ i → get (files_of (drop i files)) name ≡ None
get-passed_all files i name past =
    ap (λ rest. get (files_of rest) name) (drop_all i files past) ∙ get-empty (slice_cmp nat_cmp) name
