use Rattle.std.proofs.Common.{◌≡◌, Bool, Option, Some, None, IsSome, codes}
use Rattle.serde_json.specs.Data.{Data}
use Rattle.serde_json.specs.View.{view}
use Rattle.it_base.specs.Document.{member_at}
use Rattle.it_base.specs.Parts.{IsPart}
use Rattle.it_tables.specs.Part.{IsBoolean}
use Rattle.it_vectors.specs.Line.{Tries}
use Rattle.it_vectors.specs.declared.vector.Tried.{Tried}
use Rattle.it_vectors.specs.declared.vector.Tried.TheVariants.{KeyAlone, Signature}
use Rattle.it_vectors.proofs.line.key_trial.Goals as goal

there_not_none : {X : Type 0} (found : Option X) → IsSome found → found ≡ None → ⊥
there_not_none None there none = cc
there_not_none (Some x) there none = cc

-- where the member is there and is no truth value, nothing is tried
no_trial : (d : Data) → ((wanted : Bool) → ¬ IsPart IsBoolean (codes "is_key") d wanted)
    → IsSome (member_at (codes "is_key") d) → (tried : Tried) (wanted : Bool)
    → ¬ Tries d tried wanted
no_trial d unread there KeyAlone wanted is = unread wanted is
no_trial d unread there (Signature signed) wanted is =
    there_not_none (member_at (codes "is_key") d) there is.0

pub returns-in-None : goal.returns-in-None
returns-in-None c = λ found is. no_trial (view c.args.document.now)
    (rw c.in-None.is at c.boolean_part.ensures) c.requires found.0 found.1 is
