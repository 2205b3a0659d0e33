use Rattle.it_certificate.specs.Extension.{stated_of}
use Rattle.it_certificate_log.proofs.Baring.{extension_fits}
use Rattle.it_certificate_log.proofs.bare.append_other.Goals as goal

pub append_element-requires : goal.append_element-requires
append_element-requires c =
    rw c.deref.ensures.value (extension_fits (stated_of c.args.extension.now) _ c.requires c.in_ok-content.ensures)
