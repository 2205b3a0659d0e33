-- What inputs read as is one, and so is the evidence.
use Rattle.std.proofs.Common.{◌≡◌, List, [], ◌∷◌, refl, sym, subst, ◌∙◌}
use Rattle.std.proofs.lemmas.Option.{same_Some}
use Rattle.std.specs.List.{AllZip}
use Rattle.it_digest.proofs.ListedLemmas.{AreListed_same}
use Rattle.it_dsse.specs.Panel.{Panel}
use Rattle.it_docs.specs.Layout.{LayoutOf}
use Rattle.it_docs.specs.Link.{LinkOf}
use Rattle.it_docs.specs.declared.step.Inspection.{Inspection}
use Rattle.it_docs.specs.declared.link.Link.{Link}
use Rattle.it_docs.proofs.Moments.{same_moment}
use Rattle.it_docs.proofs.Same.{layout_same, link_same, policy_same}
use Rattle.it_chain.proofs.Documents.{envelope_same}
use Rattle.it_chain.proofs.Excludes.{chain_one}
use Rattle.it_verify.specs.Documents.{Documents, ReadAs, setting_of}
use Rattle.it_verify.specs.Evidence.{Evidence, IsEvidence}
use Rattle.it_verify.specs.Inspections.{HasRecorded}
use Rattle.it_verify.specs.declared.inputs.Inputs.{Inputs}

pub read_one : (inputs : Inputs) (a b : Documents) → ReadAs inputs a → ReadAs inputs b → a ≡ b
read_one inputs a b h k =
    let policy = policy_same inputs.policy a.policy b.policy h.policy k.policy in
    let delivered = sym (AreListed_same inputs.sums inputs.sums512 a.delivered b.delivered h.delivered k.delivered) in
    let moment = same_moment inputs.moment a.moment b.moment h.moment k.moment in
    let envelope = envelope_same inputs.layout a.envelope b.envelope h.envelope k.envelope in
    let layout = layout_same a.envelope.payload a.layout b.layout h.layout
    (subst (λ e. LayoutOf e.payload b.layout) (sym envelope) k.layout) in
    λ i. record {
      policy = policy i;
      delivered = delivered i;
      moment = moment i;
      envelope = envelope i;
      layout = layout i;
    }

recorded_one : (inputs : Inputs) (inspection : Inspection) (a b : Link)
    → HasRecorded inputs inspection a → HasRecorded inputs inspection b → a ≡ b
recorded_one inputs inspection a b h k =
    link_same h.bytes a b h.reads
    (subst (λ bytes. LinkOf bytes b) (same_Some k.bytes h.bytes (sym k.is_first ∙ h.is_first))
    k.reads)

records_one : (inputs : Inputs) (inspections : List Inspection) (a b : List Link)
    → AllZip (HasRecorded inputs) inspections a → AllZip (HasRecorded inputs) inspections b → a ≡ b
records_one inputs [] [] [] h k = refl
records_one inputs [] [] (y ∷ b) h k = absurd k
records_one inputs [] (x ∷ a) b h k = absurd h
records_one inputs (i ∷ is) [] b h k = absurd h
records_one inputs (i ∷ is) (x ∷ a) [] h k = absurd k
records_one inputs (i ∷ is) (x ∷ a) (y ∷ b) h k =
    let first = recorded_one inputs i x y h.0 k.0 in
    let rest = records_one inputs is a b h.1 k.1 in
    λ j. first j ∷ rest j

pub evidence_one : (panel : Panel) (inputs : Inputs) (documents : Documents) (a b : Evidence)
    → IsEvidence panel inputs documents a → IsEvidence panel inputs documents b → a ≡ b
evidence_one panel inputs documents a b h k =
    let steps = chain_one (setting_of panel documents) inputs.depth documents.layout inputs.links
    a.steps b.steps h.steps k.steps in
    let inspections = records_one inputs documents.layout.inspections a.inspections b.inspections
    h.inspections k.inspections in
    λ i. record { steps = steps i; inspections = inspections i }

-- ---- what is so of some documents and evidence is so of others
pub read_alike : (inputs : Inputs) (F : Documents → Type 0) (a b : Documents) → ReadAs inputs a
    → ReadAs inputs b → F a → F b
read_alike inputs F a b h k = subst F (read_one inputs a b h k)

pub evident_alike : (panel : Panel) (inputs : Inputs) (F : Documents → Evidence → Type 0)
    (a b : Documents) (x y : Evidence) → ReadAs inputs a → ReadAs inputs b
    → IsEvidence panel inputs a x → IsEvidence panel inputs b y
    → F a x → F b y
evident_alike panel inputs F a b x y h k is are f =
    let given = read_alike inputs (λ d. IsEvidence panel inputs d x) a b h k is in
    subst (F b) (evidence_one panel inputs b x y given are)
    (read_alike inputs (λ d. F d x) a b h k f)
