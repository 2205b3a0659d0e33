use Rattle.std.proofs.Common.{◌∙◌}
use Rattle.serde_json.specs.View.{view}
use Rattle.it_making.proofs.LinkWritten.{is_link_form, link_reads_back}
use Rattle.it_making.proofs.link_output.link_text.Goals as goal

pub returns-clause-form : goal.returns-clause-form
returns-clause-form c =
    c.in_ok-push.ensures.items
    ∙ is_link_form c.args.link.now (view c.in_ok-value.value) c.in_ok-text.text.items
    c.in_ok-value.ensures.document c.in_ok-text.ensures.text

pub returns-clause-reads_back : goal.returns-clause-reads_back
returns-clause-reads_back c =
    rw c.in_ok-push.ensures.items (link_reads_back c.args.link.now (view c.in_ok-value.value)
    c.in_ok-text.text.items c.in_ok-value.ensures.document c.in_ok-text.ensures.utf8
    c.in_ok-text.ensures.reads_back c.in_ok-value.ensures.reads_back)
