use Rattle.std.proofs.Common.{◌+◌, [], arith, refl}
use Rattle.std.proofs.lemmas.List.Elements.{All-nil, All-push}
use Rattle.it_digest.specs.Sums.{lines_of}
use Rattle.it_prov_notes.specs.ProvenanceNotes.{Holds}
use Rattle.it_prov_notes.specs.declared.note.ProvenanceNote.{ProvenanceNote}
use Rattle.it_prov_notes.proofs.Following.{next_follows, next_line}
use Rattle.it_prov_notes.proofs.NextLine.{later_left}
use Rattle.it_prov_notes.proofs.notes.missing_notes.Goals as goal

pub loop-rest-init : goal.loop-rest-init
loop-rest-init g c =
    let panel = g.C.Checks.panel c.args.checks.now in
    let delivery = c.args.delivery.now in
    record {
      are_true = rw c.new-notes.ensures.items
          (All-nil (Holds panel delivery.expectation.now delivery.digests delivery.provenance.now));
      left = rw (c.of-left.ensures.envelopes, c.of-left.ensures.places) c.requires;
      so_far = record { before = []; lines_are = refl; number_is = refl };
      in_range = omega arith;
    }

pub line_misses-requires : goal.line_misses-requires
line_misses-requires g c =
    let line = c.split_line.result.0.now in
    let after = lines_of c.split_line.result.1.now in
    (c.next_at.ensures line after (rw c.split_line.ensures.lines at c.loop-rest.invariant.left)).0

pub loop-rest-preserved-in_ok-push : goal.loop-rest-preserved-in_ok-push
loop-rest-preserved-in_ok-push g c =
    let panel = g.C.Checks.panel c.args.checks.now in
    let delivery = c.args.delivery.now in
    let provenance = delivery.provenance.now in
    let l = c.loop-rest.invariant in
    let lines = c.split_line.ensures.lines in
    let shorter = c.split_line.ensures.shorter in
    let line = c.split_line.result.0.now in
    let after = c.split_line.result.1.now in
    let true_of = Holds panel delivery.expectation.now delivery.digests provenance in
    let note : ProvenanceNote =
    record { line = c.loop-rest.number + 1; shortfall = c.in-Some.shortfall } in
    let holds : true_of note = record {
      line = line;
      is_line = next_line provenance c.loop-rest.rest.now line after c.loop-rest.number l.so_far
          lines;
      misses = rw c.in-Some.is at c.in_ok-shortfall.ensures;
    } in
    record {
      are_true = rw c.in_ok-push.ensures.items
          (All-push true_of c.loop-rest.notes.items note l.are_true holds);
      left = later_left c.loop-rest.number (lines_of after) c.next_at.new.self
          (c.next_at.ensures line (lines_of after) (rw lines at l.left)).1;
      so_far = next_follows provenance c.loop-rest.rest.now line after c.loop-rest.number l.so_far
          lines;
      in_range = omega arith;
    }

pub loop-rest-preserved : goal.loop-rest-preserved
loop-rest-preserved g c =
    let l = c.loop-rest.invariant in
    let lines = c.split_line.ensures.lines in
    let shorter = c.split_line.ensures.shorter in
    let line = c.split_line.result.0.now in
    let after = c.split_line.result.1.now in
    record {
      are_true = l.are_true;
      left = later_left c.loop-rest.number (lines_of after) c.next_at.new.self
          (c.next_at.ensures line (lines_of after) (rw lines at l.left)).1;
      so_far = next_follows c.args.delivery.now.provenance.now c.loop-rest.rest.now line after
          c.loop-rest.number l.so_far lines;
      in_range = omega arith;
    }
