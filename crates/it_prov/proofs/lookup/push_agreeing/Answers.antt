use Rattle.std.proofs.Common.{get_or, refl, sym, true≢false}
use Rattle.it_prov.proofs.Subjects.{more_found, no_entry, one_pushed, one_skipped}
use Rattle.it_prov.proofs.lookup.push_agreeing.Goals as goal
use Rattle.it_prov.proofs.lookup.push_agreeing.Goals.{else-agrees, then-agrees+in_ok-push}

pub loop-entry-preserved : goal.loop-entry-preserved
loop-entry-preserved c = λ test tells place.
    let digests = c.args.digests.now in
    let entries = c.args.entries.now in
    let i = c.loop-entry.entry-index in
    let now = c.loop-entry.places.items in
    more_found digests test tells c.args.places.now.items now c.if-agrees.places.items entries i
    c.loop-entry-test.true place (c.loop-entry.invariant test tells place)
    (elim c.if-agrees.branch [
      | then-agrees+in_ok-push w ↦ rw (w.places-is, w.in_ok-push.ensures.items) (one_pushed digests
          test tells (get_or entries i no_entry) (w.if-agrees.ensures.0 refl) now place)
      | else-agrees w ↦ rw w.places-is (one_skipped digests test tells (get_or entries i no_entry)
          (λ agree. true≢false (sym (w.if-agrees.ensures.1 agree))) now place)
    ])
