use Rattle.std.proofs.Common.{◌∙◌, ap, sym}
use Rattle.std.proofs.lemmas.Slice.Eq.{bytes_eq-Decides}
use Rattle.it_public_keys.specs.KeyNames.{key_name}
use Rattle.it_public_keys.proofs.KeyNames.{names_tell}
use Rattle.it_public_keys.proofs.named_key.NamedKey.is_same.Goals as goal

pub returns : goal.returns
returns c =
    let one = c.self.invariant in
    let other = c.other.invariant in
    let decides = bytes_eq-Decides c.self.inside.name c.other.inside.name in (
      λ e. sym c.self.view_is
          ∙ names_tell c.self.inside.key c.other.inside.key one.is_key other.is_key
          (sym one.name_is ∙ decides.0 (sym c.eq.ensures ∙ e) ∙ other.name_is)
          ∙ c.other.view_is,
      λ e. c.eq.ensures ∙ decides.1 (one.name_is
          ∙ ap key_name (c.self.view_is ∙ e ∙ sym c.other.view_is) ∙ sym other.name_is),
    )
