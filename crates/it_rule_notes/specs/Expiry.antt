-- What a note says about a layout's expiry (in-toto 1.0 section 4.3, `expires`).
use Rattle.std.specs.Prelude.{◌≡◌, ◌<ℤ◌, ℕ, ℤ, List, [], ◌++◌, codes}
use Rattle.it_base.specs.Document.{OfDocument}
use Rattle.it_base.specs.Parts.{IsPart}
use Rattle.it_base.specs.Text.{IsText}
use Rattle.it_docs.specs.Moment.{MomentOf}
use Rattle.it_rule_notes.specs.Line.{told_form}
use Rattle.it_rule_notes.specs.declared.expiry_note.ExpiryNote.{ExpiryNote}

-- two texts are moments, the first before the second
pub record IsBefore (first second : List ℕ) : Type 0 where
  pub earlier : ℤ
  pub later : ℤ
  pub is_earlier : MomentOf first earlier
  pub is_later : MomentOf second later
  pub is_before : earlier <ℤ later

-- the layout's `expires` is written like this and is before the moment, and the moment is the one
-- that was given
pub record TellsExpiry (body moment : List ℕ) (note : ExpiryNote) : Type 0 where
  pub is_written : OfDocument (IsPart IsText (codes "expires")) body note.expires
  pub moment_is : note.moment ≡ moment
  pub is_before : IsBefore note.expires note.moment

-- the line of a note (this project's words)
abbrev pub expiry_line : ExpiryNote → List ℕ
expiry_line note =
    told_form (codes "layout: it expired at ") note.expires []
    ++ told_form (codes ", and the verification is of ") note.moment (codes "\n")
