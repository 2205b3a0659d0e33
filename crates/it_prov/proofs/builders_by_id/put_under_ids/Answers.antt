use Rattle.std.proofs.Common.{◌∙◌, List, ap, string_bytes, ℕ}
use Rattle.it_base.specs.Table.{named_entries}
use Rattle.it_dsse.specs.declared.key_object.KeyObject.{KeyObject}
use Rattle.it_prov.proofs.Possible.{all_under, none_under, under_more}
use Rattle.it_prov.proofs.builders_by_id.put_under_ids.Goals as goal

pub loop-id-init : goal.loop-id-init
loop-id-init c = none_under c.args.ids.now c.args.keys.now c.args.place _
    (ap named_entries c.into_iter-id-iterator.ensures.into_iter_gives ∙ c.iter-id-items.ensures)

pub loop-id-preserved : goal.loop-id-preserved
loop-id-preserved c =
    let e : List ℕ × KeyObject = (string_bytes c.in-Some.id.now, c.in-Some.field-0-1.now) in
    under_more c.args.ids.now c.args.keys.now c.args.place c.loop-id.ids c.put.new.self e
    (named_entries c.next.new.self) (rw c.as_bytes.ensures.value at c.in_ok-put.ensures)
    (rw c.in-Some.ensures.steps at c.loop-id.invariant)

pub returns-clause-under : goal.returns-clause-under
returns-clause-under c = all_under c.args.ids.now c.args.keys.now c.args.place c.loop-id.ids
    (rw c.in-None.ensures.steps.0 at c.loop-id.invariant)
