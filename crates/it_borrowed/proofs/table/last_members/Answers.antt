use Rattle.std.proofs.Common.{◌≡◌, take, refl, sym, ◌∙◌, subst, string_bytes, take_all}
use Rattle.std.proofs.lemmas.Result.{IfOk-weaker}
use Rattle.std.specs.FinMap.{empty, insert}
use Rattle.json.specs.Value.{members_view}
use Rattle.serde_json.specs.Data.{no_members}
use Rattle.it_base.proofs.TableMade.{Holds, holds_more, holds_none}
use Rattle.it_borrowed.specs.Tree.{data_of_members}
use Rattle.it_borrowed.specs.inside.Last.{AreLast}
use Rattle.it_borrowed.proofs.Gathered.{Gathers, gathered_last, gathered_next, gathered_none}
use Rattle.it_borrowed.proofs.table.last_members.Goals as goal

pub loop-member-init : goal.loop-member-init
loop-member-init c = record {
  read = empty;
  holds = subst (Holds empty) (sym c.in_ok-named.ensures.items) holds_none;
  are = gathered_none;
}

pub loop-member-preserved : goal.loop-member-preserved
loop-member-preserved c =
    let so_far = c.loop-member.invariant in
    let e = c.in_ok-entry_of.field-0 in
    record {
      read = insert so_far.read (string_bytes e.0) e.1;
      holds = subst (Holds (insert so_far.read (string_bytes e.0) e.1))
          (sym c.in_ok-push.ensures.items)
          (holds_more so_far.read c.loop-member.named.items e.0 (string_bytes e.0) e.1 refl
          so_far.holds);
      are = gathered_next c.deref-member-items.result.now c.loop-member.member-index
          c.member-item.result e so_far.read c.loop-member-test.true c.member-item.is
          c.in_ok-entry_of.ensures.0 c.in_ok-entry_of.ensures.1 so_far.are;
    }

pub returns : goal.returns
returns c =
    let so_far = c.loop-member.invariant in
    let xs = c.args.members.now.items in
    let ms = data_of_members (members_view xs) no_members in
    let all : take c.loop-member.member-index c.deref-member-items.result.now ≡ xs =
    take_all _ _ c.loop-member-test.false ∙ c.deref-member-items.ensures.value in
    IfOk-weaker c.map_of.result _ (AreLast ms) (λ last made. gathered_last ms so_far.read
    c.loop-member.named.items last so_far.holds
    (subst (λ es. Gathers (data_of_members (members_view es) no_members) so_far.read) all
    so_far.are) made) c.map_of.ensures
