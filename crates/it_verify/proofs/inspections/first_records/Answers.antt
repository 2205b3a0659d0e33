use Rattle.std.proofs.Common.{◌≡◌, ◌∙◌, ℕ, List, Option, Some, None, Bor, bytes_eq, cond}
use Rattle.std.proofs.Common.{option_map, sym, ap}
use Rattle.std.specs.BTreeMap.{BTreeMap, get_by}
use Rattle.std.specs.Cmp.Lexicographic.{slice_cmp}
use Rattle.std.specs.Ordering.{nat_cmp}
use Rattle.std.proofs.lemmas.Map.Text.{btree_map_updates_str}
use Rattle.it_chain.proofs.Lookups.{none_of_is_some}
use Rattle.it_verify.proofs.FirstRecords.{first_kept, first_more, first_new, shown_if, some_there}
use Rattle.it_verify.proofs.inspections.first_records.Goals as goal
use Rattle.it_verify.proofs.inspections.first_records.Goals.{then-not-contains_key+in_ok-insert}
use Rattle.it_verify.proofs.inspections.first_records.Goals.{else-not-contains_key}

abbrev Firsts : Type 0
Firsts = BTreeMap (Bor (List ℕ)) (Bor (List ℕ))

abbrev at_name : Firsts → List ℕ → Option (Bor (List ℕ))
at_name firsts name = get_by (λ k. slice_cmp nat_cmp name k.now) firsts

abbrev bytes_at : Firsts → List ℕ → Option (List ℕ)
bytes_at firsts name = option_map (λ b. b.now) (at_name firsts name)

pub loop-name-preserved : goal.loop-name-preserved
loop-name-preserved c =
    let i = c.loop-name.name-index in
    let r = c.loop-name-item.result in
    let name = c.as_str-name.result.now in
    let old = bytes_at c.loop-name.firsts in
    elim c.if-not-contains_key.branch [
      | then-not-contains_key+in_ok-insert w ↦
          let none : old r.0 ≡ None = ap (option_map (λ (b : Bor (List ℕ)). b.now))
          (none_of_is_some (at_name c.loop-name.firsts r.0)
          (rw c.as_str-name.ensures at (sym c.contains_key.ensures
          ∙ w.if-not-contains_key.true))) in
          first_more c.args.records.now i r old (bytes_at c.if-not-contains_key.firsts)
          c.loop-name-test.true c.loop-name-item.is c.loop-name.invariant
          (λ q. rw w.firsts-is
          (rw c.as_str-name.ensures at (ap (option_map (λ (b : Bor (List ℕ)). b.now))
          (btree_map_updates_str name c.loop-name.firsts w.insert.new.self
          (Some w.as_slice.result) w.in_ok-insert.ensures.updates q))
          ∙ shown_if (λ (b : Bor (List ℕ)). b.now) (bytes_eq r.0 q) w.as_slice.result
          (at_name c.loop-name.firsts q)
          ∙ ap (λ bytes. cond (bytes_eq r.0 q) (Some bytes) (old q)) w.as_slice.ensures
          ∙ first_new r.0 r.1 old none q))
      | else-not-contains_key w ↦
          let there = some_there (at_name c.loop-name.firsts r.0)
          (rw c.as_str-name.ensures at (sym c.contains_key.ensures
          ∙ w.if-not-contains_key.false)) in
          first_more c.args.records.now i r old (bytes_at c.if-not-contains_key.firsts)
          c.loop-name-test.true c.loop-name-item.is c.loop-name.invariant
          (λ q. rw w.firsts-is
          (first_kept r.0 r.1 there.0.now old
          (ap (option_map (λ (b : Bor (List ℕ)). b.now)) there.1) q))
    ]
