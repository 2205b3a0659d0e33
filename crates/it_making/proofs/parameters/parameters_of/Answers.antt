use Rattle.std.proofs.Common.{refl, ap, ◌∙◌}
use Rattle.serde_json.specs.Data.{object}
use Rattle.serde_json.specs.View.{members_view}
use Rattle.serde_json.proofs.Views.{view-Object}
use Rattle.it_base.specs.Json.{no_fields}
use Rattle.it_making.proofs.parameters.parameters_of.Goals as goal

pub returns-in-None-clause-ok : goal.returns-in-None-clause-ok
returns-in-None-clause-ok c =
    rw c.in-None.is (
      no_fields,
      (
        view-Object c.new.result ∙ ap (λ es. object (members_view es)) c.new.ensures.empty,
        refl,
      ),
    )
