use Rattle.std.proofs.Common.{◌≡◌, ◌∙◌, ◌+◌, ◌*◌, ◌≤◌, arith, ap, drop, get_or}
use Rattle.std.proofs.Common.{refl, slice_get, sym}
use Rattle.std.specs.List.{sum_by}
use Rattle.std.proofs.lemmas.List.Elements.{Contains-get_or}
use Rattle.std.proofs.lemmas.Option.{slice_get-get_or, slice_get_read}
use Rattle.std.proofs.lemmas.Option.{slice_get_within}
use Rattle.it_dsse.specs.Meter.{RaisedBy}
use Rattle.it_prov.specs.Asked.{AtLeast, IsAskedAt, IsAskedFor}
use Rattle.it_prov.specs.Best.{MeetsAtLevel}
use Rattle.it_prov.specs.Cost.{key_count}
use Rattle.it_prov.specs.Held.{HoldsOrNone}
use Rattle.it_prov.specs.inside.Judged.{IsShort}
use Rattle.it_prov.proofs.Answering.{has_answers}
use Rattle.it_prov.proofs.Asking.{leaves_all, leaves_at_most, raised_as, raised_still}
use Rattle.it_prov.proofs.Candidates.{Reaches, best_of_all, listed_has, none_at_all}
use Rattle.it_prov.proofs.Candidates.{leaves_candidate, none_earlier, raised_in_all}
use Rattle.it_prov.proofs.Candidates.{reaches_greatest, read_there, signatures_at}
use Rattle.it_prov.proofs.Greatest.{Step, greatest_of_short, so_far_more, so_far_none}
use Rattle.it_prov.proofs.Holding.{zip_found, zip_length}
use Rattle.it_prov.proofs.Meeting.{meets_at}
use Rattle.it_prov.proofs.NameSets.{set_at, sets_as_many}
use Rattle.it_prov.proofs.Searching.{stands_in}
use Rattle.it_prov.proofs.meets.first_to_meet.Goals as goal
use Rattle.it_prov.proofs.meets.first_to_meet.Goals.{
  in_default-via-in-Some+else-reached-expectation,
}
use Rattle.it_prov.proofs.meets.first_to_meet.Goals.{in_default-via-in_default}

pub loop-candidate-init : goal.loop-candidate-init
loop-candidate-init g c = λ digests test tells listed.
    let panel = g.C.Checks.panel c.args.attestations.now.checks.now in
    let expectation = c.args.expectation.now in
    let envelopes = c.args.attestations.now.envelopes.now in
    record {
      so_far = so_far_none expectation.level (Reaches panel expectation digests envelopes);
      asked = leaves_all _ (key_count expectation.builders * sum_by (signatures_at envelopes)
          c.args.candidates.now) c.args.meter.now refl;
    }

pub index-ignored-requires : goal.index-ignored-requires
index-ignored-requires g c =
    let attestations = c.args.attestations.now in
    let as_many = sets_as_many attestations.expectations.now attestations.ignored.items
    attestations.ignored_are in
    let below = slice_get_within attestations.expectations.now c.args.place c.args.expectation.now
    c.requires.stands in
    omega (arith, as_many, below)

pub index-held-requires : goal.index-held-requires
index-held-requires g c =
    let within = c.requires.within
    (get_or c.args.candidates.now c.loop-candidate.candidate-index 0)
    (Contains-get_or c.args.candidates.now c.loop-candidate.candidate-index 0
    c.loop-candidate-test.true) in
    omega (arith, within)

pub level_reached-level-requires-clause-names : goal.level_reached-level-requires-clause-names
level_reached-level-requires-clause-names g c =
    let attestations = c.args.attestations.now in
    set_at attestations.expectations.now attestations.ignored.items c.args.place
    c.args.expectation.now c.index-ignored.result.now attestations.ignored_are c.requires.stands
    c.index-ignored.ensures

pub level_reached-level-requires-clause-answers : goal.level_reached-level-requires-clause-answers
level_reached-level-requires-clause-answers g c =
    let panel = g.C.Checks.panel c.args.attestations.now.checks.now in
    let expectation = c.args.expectation.now in
    let expectations = c.args.attestations.now.expectations.now in
    let envelopes = c.args.attestations.now.envelopes.now in
    let held = c.args.attestations.now.held.items in
    let places = c.args.candidates.now in
    let j = c.loop-candidate.candidate-index in
    let p = get_or places j 0 in
    let at = zip_found (HoldsOrNone panel expectations) envelopes held p c.index-held.result.now
    c.requires.held (c.requires.within p (Contains-get_or places j 0 c.loop-candidate-test.true))
    c.index-held.ensures in
    has_answers panel at.0 expectations c.args.place expectation c.index-held.result.now at.3
    c.requires.stands

pub returns-in-Some : goal.returns-in-Some
returns-in-Some g c = λ digests test tells listed.
    let panel = g.C.Checks.panel c.args.attestations.now.checks.now in
    let expectation = c.args.expectation.now in
    let expectations = c.args.attestations.now.expectations.now in
    let envelopes = c.args.attestations.now.envelopes.now in
    let held = c.args.attestations.now.held.items in
    let places = c.args.candidates.now in
    let j = c.loop-candidate.candidate-index in
    let p = get_or places j 0 in
    let at = zip_found (HoldsOrNone panel expectations) envelopes held p c.index-held.result.now
    c.requires.held (c.requires.within p (Contains-get_or places j 0 c.loop-candidate-test.true))
    c.index-held.ensures in
    let envelope = at.0 in
    let stands = slice_get_read envelopes _ p envelope refl at.1 at.2 in
    let told = c.level_reached-level.ensures panel expectations envelope c.requires.stands at.3
    digests (listed_has digests test tells held places j listed c.loop-candidate-test.true
    c.index-held.result.now c.index-held.ensures) in
    let k = key_count expectation.builders in
    let next = ap (λ ps. slice_get ps j) (sym listed)
    ∙ slice_get-get_or places j 0 c.loop-candidate-test.true in
    let met : MeetsAtLevel panel expectation digests envelope c.in-Some.reached =
    (rw c.in-Some.is at told.answer).0 in
    let here = IsAskedFor panel expectation digests envelope in
    let there = IsAskedAt panel expectation digests envelopes p in
    let asked : expectation.level ≤ c.in-Some.reached
    → RaisedBy (AtLeast here) c.loop-candidate.meter c.level_reached-level.new.meter =
    rw c.in-Some.is at told.at_least in
    record {
      found = record {
        envelope = envelope;
        stands = stands;
        meets = meets_at panel expectation digests envelope c.in-Some.reached met
            c.if-reached-expectation.true;
        none_before = none_earlier panel expectations expectation
            (stands_in expectations c.args.place expectation c.requires.stands) digests test tells envelopes
            held c.requires.held j c.loop-candidate.best
            (rw listed at (c.loop-candidate.invariant digests test tells listed).so_far) p next;
      };
      missing = tt;
      at_most = raised_in_all envelopes held test k c.args.meter.now
          c.level_reached-level.new.meter
          (zip_length (HoldsOrNone panel expectations) envelopes held c.requires.held)
          (rw listed at (leaves_at_most (k * sum_by (signatures_at envelopes) (drop (j + 1) places))
          (k * sum_by (signatures_at envelopes) places) c.args.meter.now
          c.level_reached-level.new.meter
          (leaves_candidate c.args.meter.now c.loop-candidate.meter
          c.level_reached-level.new.meter k envelopes places j envelope c.loop-candidate-test.true
          stands (c.loop-candidate.invariant digests test tells listed).asked told.at_most)));
      at_least = raised_still _ there c.args.meter.now c.loop-candidate.meter
          c.level_reached-level.new.meter (c.loop-candidate.invariant digests test tells listed).asked
          (raised_as here there
          (λ n a. record { envelope = envelope; stands = stands; asked = a })
          c.loop-candidate.meter c.level_reached-level.new.meter
          (asked c.if-reached-expectation.true));
    }

pub loop-candidate-preserved : goal.loop-candidate-preserved
loop-candidate-preserved g c = λ digests test tells listed.
    let panel = g.C.Checks.panel c.args.attestations.now.checks.now in
    let expectation = c.args.expectation.now in
    let expectations = c.args.attestations.now.expectations.now in
    let envelopes = c.args.attestations.now.envelopes.now in
    let held = c.args.attestations.now.held.items in
    let places = c.args.candidates.now in
    let j = c.loop-candidate.candidate-index in
    let p = get_or places j 0 in
    let at = zip_found (HoldsOrNone panel expectations) envelopes held p c.index-held.result.now
    c.requires.held (c.requires.within p (Contains-get_or places j 0 c.loop-candidate-test.true))
    c.index-held.ensures in
    let envelope = at.0 in
    let stands = slice_get_read envelopes _ p envelope refl at.1 at.2 in
    let told = c.level_reached-level.ensures panel expectations envelope c.requires.stands at.3
    digests (listed_has digests test tells held places j listed c.loop-candidate-test.true
    c.index-held.result.now c.index-held.ensures) in
    let level = c.level_reached-level.result in
    let short : IsShort expectation.level level =
    elim c.in_default.branch [
      | in_default-via-in-Some+else-reached-expectation w ↦ rw w.in-Some.is
          w.if-reached-expectation.false
      | in_default-via-in_default w ↦ rw w.in_default.is tt
    ] in
    let same : c.in_default.level ≡ level =
    elim c.in_default.branch [
      | in_default-via-in-Some+else-reached-expectation w ↦ w.level-is
          ∙ sym w.in-Some.is
      | in_default-via-in_default w ↦ w.level-is
    ] in
    let reaches = Reaches panel expectation digests envelopes in
    let greatest = reaches_greatest panel expectation digests envelopes p envelope stands level
    (greatest_of_short expectation.level (MeetsAtLevel panel expectation digests
    envelope) level told.answer short) in
    let step : Step expectation.level (reaches p) c.loop-candidate.best c.greater-best.result =
    record {
      more = level;
      greatest = greatest;
      short = short;
      both = rw (← same) c.greater-best.ensures;
    } in
    let k = key_count expectation.builders in
    record {
      so_far = so_far_more expectation.level reaches places j p c.loop-candidate-test.true
          (read_there places j c.loop-candidate-test.true) c.loop-candidate.best
          c.greater-best.result (c.loop-candidate.invariant digests test tells listed).so_far step;
      asked = leaves_candidate c.args.meter.now c.loop-candidate.meter
          c.level_reached-level.new.meter k envelopes places j envelope
          c.loop-candidate-test.true stands (c.loop-candidate.invariant digests test tells listed).asked told.at_most;
    }

pub returns : goal.returns
returns g c = λ digests test tells listed.
    let panel = g.C.Checks.panel c.args.attestations.now.checks.now in
    let expectation = c.args.expectation.now in
    let expectations = c.args.attestations.now.expectations.now in
    let envelopes = c.args.attestations.now.envelopes.now in
    let held = c.args.attestations.now.held.items in
    let places = c.args.candidates.now in
    let j = c.loop-candidate.candidate-index in
    let k = key_count expectation.builders in
    let is_expectation = stands_in expectations c.args.place expectation c.requires.stands in
    let so_far = rw listed at (c.loop-candidate.invariant digests test tells listed).so_far in
    let past = rw listed at c.loop-candidate-test.false in
    record {
      found = tt;
      missing = (
        none_at_all panel expectations expectation is_expectation digests test tells envelopes held
            c.requires.held j c.loop-candidate.best so_far past,
        best_of_all panel expectations expectation is_expectation digests test tells envelopes held
            c.requires.held j c.loop-candidate.best so_far past,
      );
      at_most = raised_in_all envelopes held test k c.args.meter.now c.loop-candidate.meter
          (zip_length (HoldsOrNone panel expectations) envelopes held c.requires.held)
          (rw listed at (leaves_at_most (k * sum_by (signatures_at envelopes) (drop j places))
          (k * sum_by (signatures_at envelopes) places) c.args.meter.now c.loop-candidate.meter
          (c.loop-candidate.invariant digests test tells listed).asked));
      at_least = tt;
    }
