use Rattle.std.proofs.Common.{◌≡◌, ◌∙◌, ap, Some, None}
use Rattle.std.specs.List.{position, slice_get}
use Rattle.it_dsse.specs.Ring.{has_id}
use Rattle.it_dsse.proofs.Places.{find-position}
use Rattle.it_dsse.proofs.ring.HmacRing.entry.Goals as goal

pub returns-in-Some : goal.returns-in-Some
returns-in-Some c =
    let ring : c.self.inside.entries ≡ c.args.self.now = c.self.view_is in
    let place : Some c.in-Some.place.now ≡ position (has_id c.args.id.now) c.args.self.now =
    c.in-Some.ensures.value ∙ c.self.invariant.1 c.args.id.now
    ∙ ap (position (has_id c.args.id.now)) ring in
    rw (find-position, ← place) (c.entry_at.ensures ∙ ap (λ l. slice_get l c.in-Some.place.now)
    (c.as_slice-entries.ensures ∙ ring))

pub returns-in-None : goal.returns-in-None
returns-in-None c =
    let ring : c.self.inside.entries ≡ c.args.self.now = c.self.view_is in
    let none : None ≡ position (has_id c.args.id.now) c.args.self.now =
    c.in-None.ensures.value ∙ c.self.invariant.1 c.args.id.now
    ∙ ap (position (has_id c.args.id.now)) ring in
    rw (find-position, ← none)
