use Rattle.std.proofs.Common.{◌≡◌, ◌∙◌, ◌+◌, ◌↔◌, ◌++◌, ◌∷◌, [], ℕ, List, Bor, Contains, ap}
use Rattle.std.proofs.Common.{get_or, map, string_bytes, subst, take}
use Rattle.std.proofs.lemmas.List.{map-append, take_all, take_more}
use Rattle.it_memory.specs.inside.Names.{HasNameAfter}
use Rattle.it_memory.proofs.NamesAfter.{none_more, one_more}
use Rattle.it_memory.proofs.names.names_after.Goals as goal
use Rattle.it_memory.proofs.names.names_after.Goals.{in-Some+in_ok-from_str+in_ok-push, in_default}

abbrev no_path : Bor (List ℕ)
no_path = record { ref_ptr = (0, 0); now = [] }

pub loop-path-preserved : goal.loop-path-preserved
loop-path-preserved c =
    let front = c.args.front.now in
    let paths = c.args.paths.now in
    let i = c.loop-path.path-index in
    let names = map string_bytes c.loop-path.names.items in
    let before = c.loop-path.invariant in
    let path = get_or paths i no_path in
    let more = take_more paths i no_path c.loop-path-test.true in
    elim c.match-name_after.branch [
      | in-Some+in_ok-from_str+in_ok-push w ↦
          let part = w.in-Some.name.now in
          let texts : map string_bytes c.match-name_after.names.items ≡ names ++ part ∷ [] =
          ap (λ v. map string_bytes v.items) w.names-is
          ∙ ap (map string_bytes) w.in_ok-push.ensures.items
          ∙ map-append string_bytes c.loop-path.names.items (w.in_ok-from_str.field-0 ∷ [])
          ∙ ap (λ text. names ++ text ∷ []) w.in_ok-from_str.ensures.ok in
          rw (texts, more) (one_more front (take i paths) path names before part w.in-Some.ensures)
      | in_default w ↦
          rw (ap (λ v. v.items) w.names-is, more)
          (none_more front (take i paths) path names before w.in_default.ensures)
    ]

pub returns : goal.returns
returns c =
    subst (λ paths. (name : _) → Contains (map string_bytes c.loop-path.names.items) name
    ↔ HasNameAfter c.args.front.now paths name)
    (take_all c.loop-path.path-index c.args.paths.now c.loop-path-test.false)
    c.loop-path.invariant
