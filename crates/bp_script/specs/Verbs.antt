-- The verbs of a script.
use Rattle.std.specs.Prelude.{codes, ℕ, if◌then◌else◌, List, Option, Some, None, Result}
use Rattle.std.specs.Option.{ok_or}
use Rattle.std.specs.Str.{bytes_eq}
use Rattle.bp_stayfile.specs.declared.error.TableRefusal.{TableRefusal}
use Rattle.bp_stayfile.specs.declared.error.TableRefusal.TheVariants.{Verb as NoVerb}
use Rattle.bp_script.specs.declared.verb.Verb.{Verb}
use Rattle.bp_script.specs.declared.verb.Verb.TheVariants.{Book, Cancel, Reforecast, Reprice, Resize, Group}

-- the verb that a text is
abbrev pub verb_of : List ℕ → Option Verb
verb_of t =
    if bytes_eq t (codes "book") then Some Book
    else (if bytes_eq t (codes "cancel") then Some Cancel
    else (if bytes_eq t (codes "reforecast") then Some Reforecast
    else (if bytes_eq t (codes "reprice") then Some Reprice
    else (if bytes_eq t (codes "resize") then Some Resize
    else (if bytes_eq t (codes "group") then Some Group else None)))))

-- a verb
abbrev pub verb_in : ℕ → List ℕ → Result Verb TableRefusal
verb_in line t = ok_or (verb_of t) (NoVerb line)
