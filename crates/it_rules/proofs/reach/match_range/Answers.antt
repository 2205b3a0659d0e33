use Rattle.std.proofs.Common.{◌≡◌, ◌++◌, ◌∙◌}
use Rattle.it_rules.specs.FolderPrefix.{folder_prefix}
use Rattle.it_rules.specs.inside.Reach.{IsMatchUnder}
use Rattle.it_rules.proofs.Reached.{folder_begins, front_covers}
use Rattle.it_rules.proofs.reach.match_range.Goals as goal

pub returns : goal.returns
returns c =
    let prefix = c.args.source_prefix.now in
    let front : c.as_str.result.now ≡ folder_prefix prefix ++ c.literal_front.result.now =
    c.as_str.ensures.value ∙ c.in_ok-front.ensures in
    front_covers (IsMatchUnder c.args.pattern.now prefix) c.args.paths.now c.as_str.result.now _ _
    c.requires c.front_range.ensures
    (λ path u m. rw front (folder_begins c.args.pattern.now prefix c.literal_front.result.now path
    c.utf8.source_prefix c.literal_front.ensures.begins u m))
