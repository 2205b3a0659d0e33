use Rattle.std.proofs.Common.{inl, inr, subst}
use Rattle.it_pem.specs.Label.{HasLabel}
use Rattle.it_key_commands.proofs.key_file.text_fault.Goals as goal

pub returns-in-Some-text : goal.returns-in-Some-text
returns-in-Some-text c = (
  record {
    no_info = c.requires;
    no_other = inl (subst (HasLabel c.args.text.now) c.in-Some-text.is-text c.in-Some-text.ensures);
  },
  c.labelled_file.ensures,
)

pub returns-in-None : goal.returns-in-None
returns-in-None c =
    (record { no_info = c.requires; no_other = inr c.in-None.ensures }, c.other_file.ensures)

pub labelled_file-requires : goal.labelled_file-requires
labelled_file-requires c =
    subst (HasLabel c.args.text.now) c.in-Some-text.is-text c.in-Some-text.ensures

pub other_file-requires : goal.other_file-requires
other_file-requires c = c.in-None.ensures
