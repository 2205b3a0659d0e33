use Rattle.std.proofs.Common.{◌≡◌, ◌∙◌, ◌∷◌, [], ap, append_assoc, rules, string_bytes}
use Rattle.std.specs.Vec.Iter.{into_iter_items}
use Rattle.std.proofs.lemmas.List.Elements.{All-nil, All-push}
use Rattle.it_disk.specs.Walks.{no_name}
use Rattle.it_disk.specs.inside.Entries.{IsEntryIn, shown}
use Rattle.it_disk.proofs.EntriesRead.{passed_over, taken}
use Rattle.it_disk.proofs.entries.entries_of.Goals as goal

pub loop-name-init : goal.loop-name-init
loop-name-init g c = record {
  given = search rules;
  read = rw c.new-entries.ensures.items no_name;
  each = rw c.new-entries.ensures.items (All-nil (IsEntryIn c.args.folder.now c.args.depth));
  within = search rules;
}

pub loop-name-preserved-in_default : goal.loop-name-preserved-in_default
loop-name-preserved-in_default g c =
    let at = c.loop-name in
    let name = c.in-Some.name in
    let seen = g.T.Tree.seen c.args.tree.now in
    let steps : into_iter_items at.name-iterator ≡ name ∷ into_iter_items c.next.new.self =
    c.in-Some.ensures.steps.0 in
    record {
      given = append_assoc at.yielded (name ∷ []) _ ∙ rw (← steps) at.invariant.given;
      read = passed_over seen c.args.folder.now c.args.depth string_bytes shown at.yielded name
          at.entries.items at.invariant.read (rw c.in_default.is at c.in_ok-entry.ensures.read);
      each = at.invariant.each;
      within = search rules;
    }

pub loop-name-preserved : goal.loop-name-preserved
loop-name-preserved g c =
    let at = c.loop-name in
    let name = c.in-Some.name in
    let entry = c.in-Some-2.entry in
    let seen = g.T.Tree.seen c.args.tree.now in
    let steps : into_iter_items at.name-iterator ≡ name ∷ into_iter_items c.next.new.self =
    c.in-Some.ensures.steps.0 in
    let named = rw c.in-Some-2.is at c.in_ok-entry.ensures.named in
    record {
      given = append_assoc at.yielded (name ∷ []) _ ∙ rw (← steps) at.invariant.given;
      read = rw c.in_ok-push.ensures.items
          (taken seen c.args.folder.now c.args.depth string_bytes shown at.yielded name
          at.entries.items at.invariant.read entry entry.kind (ap (λ n. (n, entry.kind)) named)
          (rw c.in-Some-2.is at c.in_ok-entry.ensures.read));
      each = rw c.in_ok-push.ensures.items
          (All-push (IsEntryIn c.args.folder.now c.args.depth) at.entries.items entry
          at.invariant.each (rw c.in-Some-2.is at c.in_ok-entry.ensures.each));
      within = search rules;
    }
