use Rattle.std.proofs.Common.{◌∙◌, map, nat_cmp, sym}
use Rattle.std.specs.Cmp.{both_tied, nat_cmp_total, on_total, then_total, unsigned_ties}
use Rattle.std.specs.Set.{distinct_count}
use Rattle.std.proofs.lemmas.Map.Views.{btree_set_len-from_list}
use Rattle.it_dsse.specs.Panel.{KeyNumber}
use Rattle.it_chain.specs.declared.record.IdRecord.{IdRecord}
use Rattle.it_chain.proofs.threshold.key_count.Goals as goal

pub returns : goal.returns
returns c =
    let keys = map (λ (r : IdRecord). r.key) c.args.records.now in
    c.len.ensures.len ∙ btree_set_len-from_list
    (then_total (on_total (λ (k : KeyNumber). k.0) nat_cmp_total)
    (on_total (λ (k : KeyNumber). k.1) nat_cmp_total)) keys c.in_ok-keys.keys
    c.in_ok-keys.ensures
    ∙ (λ i. distinct_count
    (λ x y. sym (both_tied _ _ (nat_cmp x.0 y.0) (nat_cmp x.1 y.1) (unsigned_ties x.0 y.0)
    (unsigned_ties x.1 y.1)) i) keys)
