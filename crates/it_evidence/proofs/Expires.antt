-- A layout has a text under `expires`.
use Rattle.std.proofs.Common.{◌≡◌, ℕ, ℤ, List, Option, Some, None, MatchOption, codes, refl}
use Rattle.serde_json.specs.Data.{Data}
use Rattle.serde_json.specs.Find.{as_str}
use Rattle.it_base.specs.Document.{OfDocument, member_at}
use Rattle.it_base.specs.Parts.{IsPart}
use Rattle.it_base.specs.Text.{IsText}
use Rattle.it_docs.specs.Layout.{LayoutOf}
use Rattle.it_docs.specs.Moment.{IsMoment, MomentOf}
use Rattle.it_docs.specs.declared.layout.Layout.{Layout}

text_of : (found : Option (List ℕ)) (moment : ℤ)
    → MatchOption found ⊥ (λ text. MomentOf text moment) → (text : List ℕ) × found ≡ Some text
text_of None moment none = absurd none
text_of (Some text) moment is = (text, refl)

member_text : (member : Option Data) (moment : ℤ)
    → MatchOption member ⊥ (λ v. IsMoment v moment)
    → (text : List ℕ) × MatchOption member ⊥ (λ v. IsText v text)
member_text None moment none = absurd none
member_text (Some v) moment is = text_of (as_str v) moment is

pub expires_text : (body : List ℕ) (layout : Layout) → LayoutOf body layout
    → (text : List ℕ) × OfDocument (IsPart IsText (codes "expires")) body text
expires_text body layout (d, document, is) =
    let found = member_text (member_at (codes "expires") d) layout.expires is.expires in
    (found.0, (d, document, found.1))
