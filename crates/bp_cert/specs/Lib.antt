-- What the checker finds, and the texts of problems and certificates.

-- what each verdict says
pub mod Verdicts
-- the load of a night, by who arrives and who departs
pub mod Loads
-- the texts of problems and certificates, line by line
pub mod Texts
-- the pages of `bp_text` on lines, their readers and their laws, under this crate's name too
pub use Rattle.bp_text.specs.Numbers
pub use Rattle.bp_text.specs.Lines
pub use Rattle.bp_text.specs.Forms
pub use Rattle.bp_text.specs.Reading
pub use Rattle.bp_text.specs.Laws
pub use Rattle.bp_text.specs.Drafts
