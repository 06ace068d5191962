-- The files of lines: a problem, a certificate.
use Rattle.std.specs.Prelude.{◌≢◌, ℕ, List, Ok, Err}
use Rattle.bp_types.specs.declared.limits.TheConstants.{MOST_FILE_BYTES}
use Rattle.bp_types.specs.Program.{Program}
use Rattle.bp_types.specs.Claim.{Claim}
use Rattle.bp_text.specs.declared.text_error.TextError.TheVariants.{Memory}
use Rattle.bp_text.specs.Lines.{Line}
use Rattle.bp_text.specs.Reading.{IsText}
use Rattle.bp_cert.specs.Texts.{problem_lines, all_certificate_lines, IsProblem, IsSpeakable}
use Rattle.bp_text.specs.Words.{Word}
use Rattle.bp_inputs.specs.Stages.{Stage}
use Rattle.bp_inputs.specs.declared.cause.FileError.{FileError}
use Rattle.bp_inputs.specs.declared.cause.FileError.TheVariants.{Text, Hotel, Table}

-- the bytes are no text of the kind, and this is the first thing that is wrong with them
abbrev pub IsNoText : {V : Type 0} → (V → List Line) → (V → Type 0) → List ℕ → FileError → Type 0
IsNoText lines Within bytes (Text e) = (e ≢ Memory) × IsText lines Within bytes (Err e)
IsNoText lines Within bytes (Hotel e) = ⊥
IsNoText lines Within bytes (Table e) = ⊥

-- a problem
abbrev pub problem_file : Word → Stage
problem_file name = record {
  name = name;
  most = MOST_FILE_BYTES;
  Value = Program;
  Accepts = λ bytes p. IsText problem_lines IsProblem bytes (Ok p);
  Refuses = IsNoText problem_lines IsProblem;
}

-- a certificate
abbrev pub certificate_file : Word → Stage
certificate_file name = record {
  name = name;
  most = MOST_FILE_BYTES;
  Value = Claim;
  Accepts = λ bytes c. IsText all_certificate_lines IsSpeakable bytes (Ok c);
  Refuses = IsNoText all_certificate_lines IsSpeakable;
}
