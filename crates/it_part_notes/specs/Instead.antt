-- What stands in place of an envelope (words of this project).
use Rattle.std.specs.Prelude.{IsSome, codes}
use Rattle.serde_json.specs.Data.{Data}
use Rattle.it_base.specs.Document.{member_at}
use Rattle.it_base.specs.Parts.{IsPart}
use Rattle.it_base.specs.Text.{IsText}
use Rattle.it_part_notes.specs.declared.instead.Instead.{Instead}
use Rattle.it_part_notes.specs.declared.instead.Instead.TheVariants as insteads

-- a bundle around an envelope, the wrapper that in-toto used before DSSE, or what is to be the
-- payload of an envelope: a layout (in-toto 1.0, section 4.3) or a link (section 4.4)
abbrev pub IsInstead : Data → Instead → Type 0
IsInstead d insteads.Bundle = IsSome (member_at (codes "dsseEnvelope") d)
IsInstead d insteads.Wrapper = IsSome (member_at (codes "signed") d)
IsInstead d insteads.Layout = IsPart IsText (codes "_type") d (codes "layout")
IsInstead d insteads.Link = IsPart IsText (codes "_type") d (codes "link")
