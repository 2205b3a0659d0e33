use Rattle.std.proofs.Common.{◌≡◌, take, refl, sym, ◌∙◌, subst, string_bytes, take_all}
use Rattle.std.specs.FinMap.{empty, insert}
use Rattle.json.specs.Value.{members_view, value_view}
use Rattle.serde_json.specs.Data.{no_members}
use Rattle.it_base.specs.Table.{AreMembers}
use Rattle.it_base.proofs.TableMade.{Holds, holds_more, holds_none, map-of_entries}
use Rattle.it_borrowed.specs.Tree.{data_of_members}
use Rattle.it_borrowed.proofs.Tabled.{members_next, members_none}
use Rattle.it_borrowed.proofs.Trees.{present-other}
use Rattle.it_borrowed.proofs.table.read_each.Goals as goal

pub loop-member-init : goal.loop-member-init
loop-member-init g c = record {
  read = empty;
  holds = subst (Holds empty) (sym c.in_ok-named.ensures.items) holds_none;
  are = members_none g.V.FromBorrowed.is_of;
}

pub loop-member-preserved : goal.loop-member-preserved
loop-member-preserved g c =
    let so_far = c.loop-member.invariant in
    let value = rw c.in-Some.is at c.in_ok-value.ensures in
    let name = c.in_ok-from_str.field-0 in
    record {
      read = insert so_far.read (string_bytes name) c.in-Some.value;
      holds = subst (Holds (insert so_far.read (string_bytes name) c.in-Some.value))
          (sym c.in_ok-push.ensures.items)
          (holds_more so_far.read c.loop-member.named.items name (string_bytes name)
          c.in-Some.value refl so_far.holds);
      are = members_next g.V.FromBorrowed.is_of c.deref-member-items.result.now
          c.loop-member.member-index c.member-item.result (string_bytes name) c.in-Some.value
          so_far.read c.loop-member-test.true c.member-item.is c.in_ok-from_str.ensures.ok
          (present-other (value_view c.member-item.result.1)
          (sym c.is_null.ensures ∙ c.if-is_null.false)) value so_far.are;
    }

pub returns : goal.returns
returns g c =
    let P = g.V.FromBorrowed.is_of in
    let so_far = c.loop-member.invariant in
    let all : take c.loop-member.member-index c.deref-member-items.result.now
    ≡ c.args.members.now.items =
    take_all _ _ c.loop-member-test.false ∙ c.deref-member-items.ensures.value in
    let table : c.from.result ≡ so_far.read = c.from.ensures
    ∙ map-of_entries so_far.read c.loop-member.named.items c.in_ok-map_of.field-0.entries
    so_far.holds c.in_ok-map_of.ensures.0 in
    subst
    (λ m. AreMembers P (data_of_members (members_view c.args.members.now.items) no_members) m)
    (sym table)
    (subst (λ es. AreMembers P (data_of_members (members_view es) no_members) so_far.read) all
    so_far.are)
