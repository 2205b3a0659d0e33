use Rattle.std.proofs.Common.{◌≡◌, ◌∙◌, ◌<◌, ℕ, List, None, Some, Bor, length, slice_index_or}
use Rattle.std.proofs.Common.{ap, arith, option_map, refl, rules, sym}
use Rattle.std.proofs.lemmas.Option.{same_Some, slice_get-get_or, slice_get_within}
use Rattle.it_digest.specs.declared.compare.DigestSet.{DigestSet}
use Rattle.it_prov.specs.Finding.{IsFound}
use Rattle.it_prov.specs.Held.{HoldsOrNone}
use Rattle.it_prov.proofs.Holding.{zip_length}
use Rattle.it_file_evidence.proofs.Proven.{builder_read, found_proven, greatest_read, is_evidence}
use Rattle.it_file_evidence.proofs.Proven.{provenance_of, signer_read, some_built, unproven_none}
use Rattle.it_file_evidence.proofs.evidence_of.evidence_of.Goals as goal

pub returns-in_default : goal.returns-in_default
returns-in_default g c =
    let a = c.args.attestations.now in
    let panel = g.C.Checks.panel a.checks.now in
    λ lines read. unproven_none panel a.expectations.now a.envelopes.now
    (c.args.path.now, c.args.digests) (rw c.in_default.is at c.fitting.ensures)

pub returns-in_default-2 : goal.returns-in_default-2
returns-in_default-2 g c = λ lines read. rw c.in_default-2.is at c.in_ok-index.ensures

pub index-held-requires : goal.index-held-requires
index-held-requires g c =
    let a = c.args.attestations.now in
    let panel = g.C.Checks.panel a.checks.now in
    let i = c.in-Some-2.index in
    let found : IsFound panel a.expectations.now c.args.path.now c.args.digests a.envelopes.now i =
    rw c.in-Some-2.is at c.in_ok-index.ensures in
    let below = slice_get_within a.envelopes.now i found.first.envelope found.first.stands in
    let long = zip_length (HoldsOrNone panel a.expectations.now) a.envelopes.now a.held.items
    c.requires.held in
    omega (arith, below, long)

pub returns-in_default-builder_in : goal.returns-in_default-builder_in
returns-in_default-builder_in g c =
    let a = c.args.attestations.now in
    let panel = g.C.Checks.panel a.checks.now in
    let file : List ℕ × DigestSet = (c.args.path.now, c.args.digests) in
    let i = c.in-Some-2.index in
    let found : IsFound panel a.expectations.now c.args.path.now c.args.digests a.envelopes.now i =
    rw c.in-Some-2.is at c.in_ok-index.ensures in
    let named = builder_read panel a.expectations.now a.envelopes.now file i found a.held.items
    c.index-held.result.now (option_map (λ (id : Bor (List ℕ)). id.now) c.builder_in.result)
    c.requires.held c.index-held.ensures c.builder_in.ensures in
    let none : None ≡ Some (provenance_of panel a.expectations.now a.envelopes.now file i
    found).builder = ap (option_map (λ (id : Bor (List ℕ)). id.now)) (sym c.in_default-builder_in.is)
    ∙ named in
    λ lines read. absurd (cc none)

pub bounds-attestations-index : goal.bounds-attestations-index
bounds-attestations-index g c =
    let a = c.args.attestations.now in
    let panel = g.C.Checks.panel a.checks.now in
    let i = c.in-Some-2.index in
    let found : IsFound panel a.expectations.now c.args.path.now c.args.digests a.envelopes.now i =
    rw c.in-Some-2.is at c.in_ok-index.ensures in
    slice_get_within a.envelopes.now i found.first.envelope found.first.stands

pub offset_bounds-attestations-index : goal.offset_bounds-attestations-index
offset_bounds-attestations-index g c =
    let a = c.args.attestations.now in
    let panel = g.C.Checks.panel a.checks.now in
    let i = c.in-Some-2.index in
    let found : IsFound panel a.expectations.now c.args.path.now c.args.digests a.envelopes.now i =
    rw c.in-Some-2.is at c.in_ok-index.ensures in
    let below : i < length a.envelopes.now =
    slice_get_within a.envelopes.now i found.first.envelope found.first.stands in
    search rules

pub returns-in_default-3 : goal.returns-in_default-3
returns-in_default-3 g c =
    let a = c.args.attestations.now in
    let panel = g.C.Checks.panel a.checks.now in
    let file : List ℕ × DigestSet = (c.args.path.now, c.args.digests) in
    let i = c.in-Some-2.index in
    let found : IsFound panel a.expectations.now c.args.path.now c.args.digests a.envelopes.now i =
    rw c.in-Some-2.is at c.in_ok-index.ensures in
    let provenance = provenance_of panel a.expectations.now a.envelopes.now file i found in
    let named = builder_read panel a.expectations.now a.envelopes.now file i found a.held.items
    c.index-held.result.now (option_map (λ (id : Bor (List ℕ)). id.now) c.builder_in.result)
    c.requires.held c.index-held.ensures c.builder_in.ensures in
    let id_is : c.in-Some-builder_in.builder.now ≡ provenance.builder =
    same_Some c.in-Some-builder_in.builder.now provenance.builder
    (ap (option_map (λ (id : Bor (List ℕ)). id.now)) (sym c.in-Some-builder_in.is) ∙ named) in
    let none = greatest_read panel a.expectations.now a.envelopes.now file i found c.in-Some.place
    c.index-attestations-place.result c.index-attestations-index.result
    c.as_slice-builders.result.now c.in-Some-builder_in.builder.now None c.in-Some.ensures
    c.as_slice-builders.ensures id_is
    (rw c.in_default-3.is at c.in_ok-level.ensures) in
    λ lines read. absurd (some_built panel a.expectations.now a.envelopes.now file i found none)

pub bounds-lines-index : goal.bounds-lines-index
bounds-lines-index g c =
    let a = c.args.attestations.now in
    let panel = g.C.Checks.panel a.checks.now in
    let i = c.in-Some-2.index in
    let found : IsFound panel a.expectations.now c.args.path.now c.args.digests a.envelopes.now i =
    rw c.in-Some-2.is at c.in_ok-index.ensures in
    let below = slice_get_within a.envelopes.now i found.first.envelope found.first.stands in
    omega (arith, below, c.requires.places)

pub offset_bounds-lines-index : goal.offset_bounds-lines-index
offset_bounds-lines-index g c =
    let a = c.args.attestations.now in
    let panel = g.C.Checks.panel a.checks.now in
    let i = c.in-Some-2.index in
    let found : IsFound panel a.expectations.now c.args.path.now c.args.digests a.envelopes.now i =
    rw c.in-Some-2.is at c.in_ok-index.ensures in
    let within = slice_get_within a.envelopes.now i found.first.envelope found.first.stands in
    let below : i < length c.args.lines.now.places.now = omega (arith, within, c.requires.places) in
    search rules

pub returns : goal.returns
returns g c =
    let a = c.args.attestations.now in
    let panel = g.C.Checks.panel a.checks.now in
    let file : List ℕ × DigestSet = (c.args.path.now, c.args.digests) in
    let i = c.in-Some-2.index in
    let found : IsFound panel a.expectations.now c.args.path.now c.args.digests a.envelopes.now i =
    rw c.in-Some-2.is at c.in_ok-index.ensures in
    let within = slice_get_within a.envelopes.now i found.first.envelope found.first.stands in
    let below : i < length c.args.lines.now.places.now = omega (arith, within, c.requires.places) in
    let place : ℕ = slice_index_or c.args.lines.now.places.now i 0 in
    let provenance = provenance_of panel a.expectations.now a.envelopes.now file i found in
    let named = builder_read panel a.expectations.now a.envelopes.now file i found a.held.items
    c.index-held.result.now (option_map (λ (id : Bor (List ℕ)). id.now) c.builder_in.result)
    c.requires.held c.index-held.ensures c.builder_in.ensures in
    let id_is : c.in-Some-builder_in.builder.now ≡ provenance.builder =
    same_Some c.in-Some-builder_in.builder.now provenance.builder
    (ap (option_map (λ (id : Bor (List ℕ)). id.now)) (sym c.in-Some-builder_in.is) ∙ named) in
    let greatest = greatest_read panel a.expectations.now a.envelopes.now file i found
    c.in-Some.place c.index-attestations-place.result c.index-attestations-index.result
    c.as_slice-builders.result.now c.in-Some-builder_in.builder.now (Some c.in-Some-3.level)
    c.in-Some.ensures c.as_slice-builders.ensures id_is (rw c.in-Some-3.is at c.in_ok-level.ensures) in
    let vouched = c.args.lines.now.vouched.now in
    let signer = signer_read panel a.expectations.now a.envelopes.now file i found vouched
    c.in-Some.place c.index-attestations-place.result c.index-attestations-index.result
    c.as_slice-builders.result.now c.in-Some-builder_in.builder.now c.in_ok-signer.signer
    c.in-Some.ensures c.as_slice-builders.ensures id_is c.in_ok-signer.ensures in
    λ lines read. (
      found_proven panel a.expectations.now a.envelopes.now file i found,
      is_evidence panel a.expectations.now a.envelopes.now file i found lines c.args.lines.now.places.now
          read place (slice_get-get_or c.args.lines.now.places.now i 0 below) vouched _
          c.in_ok-copy.ensures refl refl (c.in_ok-copy-2.ensures ∙ id_is) greatest signer,
    )
