use Rattle.std.proofs.Common.{◌≡◌, ◌∙◌, None, ap, string_bytes, subst}
use Rattle.std.specs.Path.{path_join}
use Rattle.it_disk.specs.inside.Entries.{IsTold}
use Rattle.it_disk.proofs.EntriesRead.{not_readable, other_there}
use Rattle.it_disk.proofs.entries.entry_under.Goals as goal
use Rattle.it_disk.proofs.entries.entry_under.Goals.{in_default-via-in-Some+else-has, in_default-via-in_default}

pub returns-in-Some-clause-read : goal.returns-in-Some-clause-read
returns-in-Some-clause-read g c =
    let name = string_bytes c.args.name in
    let told = subst (λ n. IsTold c.args.depth n c.under-readable.result) c.as_str.ensures.value
    c.under-readable.ensures in
    let joined : c.as_str-3.result.now ≡ path_join c.args.folder.now name = c.as_str-3.ensures
    ∙ c.in_ok-path.ensures ∙ ap (path_join c.args.folder.now) c.as_str-2.ensures.value in (
      rw (joined, c.in-Some.is) at c.in_ok-kind.ensures,
      (c.has.ensures c.args.depth name told).0 c.if-has.true,
    )

pub returns-in-Some-clause-each : goal.returns-in-Some-clause-each
returns-in-Some-clause-each g c =
    let name = string_bytes c.args.name in
    let told = subst (λ n. IsTold c.args.depth n c.under-readable.result) c.as_str.ensures.value
    c.under-readable.ensures in
    record {
      at_path = c.in_ok-path.ensures ∙ ap (path_join c.args.folder.now) c.as_str-2.ensures.value;
      readable = (c.has.ensures c.args.depth name told).0 c.if-has.true;
    }

pub returns-in_default-clause-read : goal.returns-in_default-clause-read
returns-in_default-clause-read g c =
    let seen = g.T.Tree.seen c.args.tree.now in
    let name = string_bytes c.args.name in
    let told = subst (λ n. IsTold c.args.depth n c.under-readable.result) c.as_str.ensures.value
    c.under-readable.ensures in
    let joined : c.as_str-3.result.now ≡ path_join c.args.folder.now name = c.as_str-3.ensures
    ∙ c.in_ok-path.ensures ∙ ap (path_join c.args.folder.now) c.as_str-2.ensures.value in
    elim c.in_default.branch [
      | in_default-via-in-Some+else-has w ↦
          not_readable seen c.args.folder.now c.args.depth name w.in-Some.kind w.has.result
          (w.has.ensures c.args.depth name told) w.if-has.false
          (rw (joined, w.in-Some.is) at c.in_ok-kind.ensures)
      | in_default-via-in_default w ↦
          other_there seen c.args.folder.now c.args.depth name None
          (rw (joined, w.in_default.is) at c.in_ok-kind.ensures) (λ kind same. cc)
    ]
