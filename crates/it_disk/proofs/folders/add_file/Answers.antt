use Rattle.std.proofs.Common.{◌≡◌, ◌∙◌, IfSome, IsNone, IsTrue, Option, ap, arith, length, refl, string_bytes}
use Rattle.std.proofs.Common.{subst, sym, ℕ}
use Rattle.std.specs.Path.{path_join}
use Rattle.it_chain.specs.declared.bundle.File.{File}
use Rattle.it_limits.specs.Limit.{IsOverLimit, IsWithinLimit}
use Rattle.it_limits.proofs.LinksWithin.{file_within}
use Rattle.it_disk.proofs.LinksCounted.{file_counted}
use Rattle.it_disk.proofs.LinksRead.{file_kept, file_left}
use Rattle.it_disk.proofs.LinksSized.{file_sized}
use Rattle.it_disk.proofs.folders.add_file.Goals as goal
use Rattle.it_disk.proofs.folders.add_file.Goals.{in-None+in_ok-add_read-in-None}
use Rattle.it_disk.proofs.folders.add_file.Goals.{in-Some+in_ok-path-in-Some+in_ok-push-in-Some}

pub returns-clause-limited : goal.returns-clause-limited
returns-clause-limited g c = λ before limited. elim c.match-too_many_in.branch [
  | in-Some+in_ok-path-in-Some+in_ok-push-in-Some w ↦
      rw (ap (λ l. l.bundle) w.links-is) (before limited)
  | in-None+in_ok-add_read-in-None w ↦
      let within = subst (λ (over : Option ℕ). IsNone over → IsTrue c.args.limited
      → IsWithinLimit c.in_ok-file.file.bytes) w.in-None.is c.too_many_in.ensures.within refl limited in
      rw (ap (λ l. l.bundle) w.links-is, w.in_ok-add_read-in-None.ensures.ok)
      (file_within _ _ within (before limited))
]

pub returns-clause-counted : goal.returns-clause-counted
returns-clause-counted g c = λ start before.
    let sum = c.in_ok-links.ensures.bytes in
    let one = c.in_ok-links.ensures.entries in
    let old = before.bytes in
    let few = before.entries in
    elim c.match-too_many_in.branch [
      | in-Some+in_ok-path-in-Some+in_ok-push-in-Some w ↦
          let read = ap (λ l. l.read.bytes) w.links-is in
          let count = ap (λ l. l.read.entries) w.links-is in
          rw (ap (λ l. l.bundle) w.links-is)
          (record { bytes = omega (arith, read, sum, old); entries = omega (arith, count, one, few) })
      | in-None+in_ok-add_read-in-None w ↦
          let read = ap (λ l. l.read.bytes) w.links-is in
          let count = ap (λ l. l.read.entries) w.links-is in
          let size = file_sized c.in_ok-file.file c.args.links.now.bundle in
          let more = file_counted c.in_ok-file.file c.args.links.now.bundle in
          let held = ap (λ f. length f.bytes) c.in_ok-file.ensures in
          let bytes = ap length c.as_slice.ensures in
          rw (ap (λ l. l.bundle) w.links-is, w.in_ok-add_read-in-None.ensures.ok)
          (record {
            bytes = omega (arith, read, sum, size, held, bytes, old);
            entries = omega (arith, count, one, more, few);
          })
    ]

pub returns-clause-count : goal.returns-clause-count
returns-clause-count g c = elim c.match-too_many_in.branch [
  | in-Some+in_ok-path-in-Some+in_ok-push-in-Some w ↦
      rw (ap (λ l. l.bundle) w.links-is) (omega arith)
  | in-None+in_ok-add_read-in-None w ↦
      let more = file_counted c.in_ok-file.file c.args.links.now.bundle in
      rw (ap (λ l. l.bundle) w.links-is, w.in_ok-add_read-in-None.ensures.ok) (omega (arith, more))
]

pub returns-clause-holds : goal.returns-clause-holds
returns-clause-holds g c = λ folder depth before entry file have.
    let seen = g.T.Tree.seen c.args.tree.now in
    let limited = c.args.limited in
    let name = string_bytes c.args.entry.name in
    let kind = c.args.entry.kind in
    let bytes = c.from-bytes.result in
    let links = c.args.links.now.bundle in
    let held : seen.file (path_join folder name) bytes =
    subst (seen.file (path_join folder name)) (sym c.from-bytes.ensures)
    (rw (c.as_str.ensures, entry.at_path) at c.in_ok-read_whole.ensures.holds) in
    let is : c.in_ok-file.file ≡ record { name = name; bytes = bytes } = c.in_ok-file.ensures
    ∙ ap (λ n. record { name = n; bytes = bytes }) c.from-name.ensures in
    elim c.match-too_many_in.branch [
      | in-Some+in_ok-path-in-Some+in_ok-push-in-Some w ↦
          let over = subst (λ (over : Option ℕ). IfSome over (λ count. IsTrue limited
          × IsOverLimit c.in_ok-file.file.bytes count)) w.in-Some.is c.too_many_in.ensures.over in
          let many = subst (λ (f : File). IsOverLimit f.bytes w.in-Some.signatures) is over.1 in
          rw (ap (λ l. l.bundle) w.links-is)
          (file_left seen limited depth folder name kind before links have bytes file held
          w.in-Some.signatures over.0 many)
      | in-None+in_ok-add_read-in-None w ↦
          let within = subst (λ (over : Option ℕ). IsNone over → IsTrue limited
          → IsWithinLimit c.in_ok-file.file.bytes) w.in-None.is c.too_many_in.ensures.within refl in
          let few = subst (λ (f : File). IsTrue limited → IsWithinLimit f.bytes) is within in
          rw (ap (λ l. l.bundle) w.links-is, w.in_ok-add_read-in-None.ensures.ok, is)
          (file_kept seen limited depth folder name kind before links have bytes file held few)
    ]
