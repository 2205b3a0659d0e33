use Rattle.std.proofs.Common.{◌≡◌, ◌∙◌, List, [], All, Some, ap, subst, sym, ℕ}
use Rattle.std.specs.Option.{option_map_or}
use Rattle.json.specs.Value.{members_view}
use Rattle.json.proofs.Trees.{view-Object}
use Rattle.serde_json.specs.Data.{Data, no_members}
use Rattle.serde_json.specs.Find.{as_object}
use Rattle.it_borrowed.specs.Tree.{as_data, data_of, data_of_members}
use Rattle.it_findings.specs.Members.{HasMeaning, entries_in}
use Rattle.it_findings.proofs.AllMeant.{all_names}
use Rattle.it_findings.proofs.meaning.have_meaning.Goals as goal

pub returns-in-Object : goal.returns-in-Object
returns-in-Object c = λ t.
    let place = c.args.place.now in
    let members = c.in-Object.members.items in
    let is : as_object (as_data c.args.value.now)
    ≡ Some (data_of_members (members_view members) no_members) =
    ap (λ v. as_object (as_data v)) c.in-Object.is
    ∙ ap (λ j. as_object (data_of j)) (view-Object c.in-Object.members) in
    subst (λ o. All (λ (entry : List ℕ × Data). HasMeaning place entry.0)
    (option_map_or entries_in o [])) (sym is)
    (all_names (HasMeaning place) members (rw c.as_slice.ensures.value at c.all_have.ensures t))
