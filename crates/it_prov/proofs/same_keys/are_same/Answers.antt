use Rattle.std.proofs.Common.{◌≡◌, ℕ, List, Option, Some, None, MatchOption, false, is_some}
use Rattle.std.proofs.Common.{string_bytes, rules}
use Rattle.it_dsse.specs.declared.key_object.KeyObject.{KeyObject}
use Rattle.it_base.specs.Table.{named_entries}
use Rattle.it_prov.proofs.SameKeys.{walked_all, walked_more}
use Rattle.it_prov.proofs.same_keys.are_same.Goals as goal

pub loop-id-preserved : goal.loop-id-preserved
loop-id-preserved c =
    let e : List ℕ × KeyObject = (string_bytes c.in-Some.id.now, c.in-Some.object.now) in
    let f : List ℕ × KeyObject =
    (string_bytes c.in-Some-next.other_id.now, c.in-Some-next.other_object.now) in
    let ids : e.0 ≡ f.0 = search rules in
    let objects : e.1 ≡ f.1 = c.is_same.ensures c.if-not-is_same.false in
    walked_more c.args.one.now c.args.other.now e f (named_entries c.next.new.self)
    (named_entries c.next-in-loop-id.new.self)
    (rw (c.in-Some.ensures.steps, c.in-Some-next.ensures.steps) at c.loop-id.invariant)
    (λ i. (ids i, objects i))

no_more : {X P : Type 0} (Q : X → Type 0) (found : Option X) → MatchOption found P Q
    → is_some found ≡ false → P
no_more Q None h none = h
no_more Q (Some x) h none = absurd cc

pub returns : goal.returns
returns c = λ ended.
    let others = no_more _ c.next-2.result c.next-2.ensures.steps (rw ended at c.is_none.ensures) in
    walked_all c.args.one.now c.args.other.now
    (rw (c.in-None.ensures.steps.0, others.0) at c.loop-id.invariant)
