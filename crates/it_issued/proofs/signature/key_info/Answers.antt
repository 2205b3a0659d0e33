use Rattle.it_issued.proofs.Signing.{key_short, key_written}
use Rattle.it_issued.proofs.signature.key_info.Goals as goal

pub append_element-requires : goal.append_element-requires
append_element-requires c = key_short c.args.certificate.now c.requires

pub returns : goal.returns
returns c =
    key_written c.args.certificate.now c.new-info.result.items c.append_element.new.bytes.items c.requires
    c.new-info.ensures.items c.in_ok-append_element.ensures
