use Rattle.std.proofs.Common.{◌≡◌, ◌∙◌, sym, ap, rules, subst, string_bytes, true, false, is_some}
use Rattle.std.proofs.Common.{IsSome}
use Rattle.it_chain.specs.Contents.{contents_of, with_folder, folder_at}
use Rattle.it_chain.specs.BundleView.{folders_view}
use Rattle.it_chain.proofs.Lookups.{lookup-folders_view, folders_view-insert_entry, none_of_is_some}
use Rattle.it_chain.proofs.bundle.Bundle.add_dir.Goals as goal

pub returns-then-contains_key-clause-only_taken : goal.returns-then-contains_key-clause-only_taken
returns-then-contains_key-clause-only_taken c =
    λ back e.
    let there : is_some (folder_at (string_bytes c.args.name) c.args.self.now) ≡ true =
    ap (λ d. is_some (folder_at (string_bytes c.args.name) d)) (sym c.self.view_is)
    ∙ ap is_some (sym
    (lookup-folders_view (string_bytes c.args.name) c.self.inside.folders.entries))
    ∙ sym c.contains_key.ensures ∙ c.if-contains_key.true in
    search rules

pub returns-in-Ok-clause-ok : goal.returns-in-Ok-clause-ok
returns-in-Ok-clause-ok c =
    ap (λ entries. contents_of c.self.inside.files.items entries)
    (ap folders_view c.in-Ok.ensures.entries
    ∙ folders_view-insert_entry c.self.inside.folders.entries c.args.name c.args.folder)
    ∙ ap (with_folder (string_bytes c.args.name) c.args.folder) c.self.view_is

pub returns-in-Ok-clause-free : goal.returns-in-Ok-clause-free
returns-in-Ok-clause-free c =
    none_of_is_some _ (ap (λ d. is_some (folder_at (string_bytes c.args.name) d))
    (sym c.self.view_is)
    ∙ ap is_some (sym
    (lookup-folders_view (string_bytes c.args.name) c.self.inside.folders.entries))
    ∙ sym c.contains_key.ensures ∙ c.if-contains_key.false)

pub returns-clause-taken : goal.returns-clause-taken
returns-clause-taken c = λ there.
    let none = none_of_is_some _ (ap (λ d. is_some (folder_at (string_bytes c.args.name) d))
    (sym c.self.view_is)
    ∙ ap is_some (sym
    (lookup-folders_view (string_bytes c.args.name) c.self.inside.folders.entries))
    ∙ sym c.contains_key.ensures ∙ c.if-contains_key.false) in
    let impossible : false ≡ true = subst IsSome none there in
    cc
