use Rattle.std.proofs.Common.{◌≡◌, [], ◌∷◌, ◌++◌, refl, sym, ap, ◌∙◌, subst, string_bytes}
use Rattle.std.proofs.Common.{append-nil, append_assoc}
use Rattle.std.specs.FinMap.{empty, insert}
use Rattle.std.specs.List.Sorted.{IsStrictlySortedBy}
use Rattle.std.specs.Map.{keys_of}
use Rattle.std.specs.String.{string_cmp}
use Rattle.json.specs.Value.{value_view}
use Rattle.it_base.proofs.TableMade.{Holds, holds_more, holds_none, map-of_entries}
use Rattle.it_borrowed.specs.inside.Last.{Entry}
use Rattle.it_borrowed.proofs.Looked.{StandAt, stand_more, stand_no, stand_none, stand_skip}
use Rattle.it_borrowed.proofs.Trees.{present-null, present-other}
use Rattle.it_borrowed.proofs.table.read_last.Goals as goal

pub loop-name-init : goal.loop-name-init
loop-name-init g c = record {
  done = [];
  read = empty;
  all = sym c.into_iter-name-iterator.ensures.into_iter_gives.0;
  are = stand_none g.V.FromBorrowed.is_of;
  holds = subst (Holds empty) (sym c.in_ok-named.ensures.items) holds_none;
}

pub loop-name-preserved-then-is_null : goal.loop-name-preserved-then-is_null
loop-name-preserved-then-is_null g c =
    let so_far = c.loop-name.invariant in
    let e : Entry = (c.in-Some.name, c.in-Some.member) in
    let left = c.next.new.self in
    let all : c.args.members.entries ≡ so_far.done ++ e ∷ left = so_far.all
    ∙ ap (λ es. so_far.done ++ es) c.in-Some.ensures.steps in
    let sorted = subst (λ es. IsStrictlySortedBy string_cmp (keys_of es)) all
    c.into_iter-name-iterator.ensures.into_iter_gives.5 in
    record {
      done = so_far.done ++ e ∷ [];
      read = so_far.read;
      all = all ∙ sym (append_assoc so_far.done (e ∷ []) left);
      are = stand_skip g.V.FromBorrowed.is_of so_far.done e left so_far.read sorted
          (present-null (value_view c.in-Some.member.now)
          (sym c.is_null.ensures ∙ c.if-is_null.true)) so_far.are;
      holds = so_far.holds;
    }

pub returns-in_default : goal.returns-in_default
returns-in_default g c =
    let so_far = c.loop-name.invariant in
    let e : Entry = (c.in-Some.name, c.in-Some.member) in
    let left = c.next.new.self in
    let all : c.args.members.entries ≡ so_far.done ++ e ∷ left = so_far.all
    ∙ ap (λ es. so_far.done ++ es) c.in-Some.ensures.steps in
    let sorted = subst (λ es. IsStrictlySortedBy string_cmp (keys_of es)) all
    c.into_iter-name-iterator.ensures.into_iter_gives.5 in
    let none = rw c.in_default.is at c.in_ok-value.ensures in
    λ m is. stand_no g.V.FromBorrowed.is_of so_far.done e left sorted
    (present-other (value_view c.in-Some.member.now) (sym c.is_null.ensures ∙ c.if-is_null.false))
    none m (subst (λ es. StandAt g.V.FromBorrowed.is_of es m) all is)

pub loop-name-preserved : goal.loop-name-preserved
loop-name-preserved g c =
    let so_far = c.loop-name.invariant in
    let e : Entry = (c.in-Some.name, c.in-Some.member) in
    let left = c.next.new.self in
    let all : c.args.members.entries ≡ so_far.done ++ e ∷ left = so_far.all
    ∙ ap (λ es. so_far.done ++ es) c.in-Some.ensures.steps in
    let sorted = subst (λ es. IsStrictlySortedBy string_cmp (keys_of es)) all
    c.into_iter-name-iterator.ensures.into_iter_gives.5 in
    let value = rw c.in-Some-2.is at c.in_ok-value.ensures in
    record {
      done = so_far.done ++ e ∷ [];
      read = insert so_far.read (string_bytes e.0) c.in-Some-2.value;
      all = all ∙ sym (append_assoc so_far.done (e ∷ []) left);
      are = stand_more g.V.FromBorrowed.is_of so_far.done e left so_far.read c.in-Some-2.value
          sorted (present-other (value_view c.in-Some.member.now)
          (sym c.is_null.ensures ∙ c.if-is_null.false)) so_far.are value;
      holds = subst (Holds (insert so_far.read (string_bytes e.0) c.in-Some-2.value))
          (sym c.in_ok-push.ensures.items)
          (holds_more so_far.read c.loop-name.named.items c.in-Some.name (string_bytes e.0)
          c.in-Some-2.value refl so_far.holds);
    }

pub returns : goal.returns
returns g c =
    let so_far = c.loop-name.invariant in
    let whole : c.args.members.entries ≡ so_far.done = so_far.all
    ∙ ap (λ es. so_far.done ++ es) c.in-None.ensures.steps.0 ∙ append-nil so_far.done in
    let table : c.from.result ≡ so_far.read = c.from.ensures
    ∙ map-of_entries so_far.read c.loop-name.named.items c.in_ok-map_of.field-0.entries
    so_far.holds c.in_ok-map_of.ensures.0 in
    let P = g.V.FromBorrowed.is_of in
    subst (λ m. StandAt P c.args.members.entries m) (sym table)
    (subst (λ es. StandAt P es so_far.read) (sym whole) so_far.are)
