use Rattle.std.proofs.Common.{◌↔◌, ◌∙◌, ℕ, IsTrue, List, subst}
use Rattle.it_issued.specs.Signature.{IsByP256}
use Rattle.it_issued.proofs.Signing.{key_short, key_written}
use Rattle.it_vouches.proofs.leaf_key.is_by_leaf.Goals as goal

pub append_element-requires : goal.append_element-requires
append_element-requires c = key_short c.args.leaf.now c.requires

pub returns-clause-answer : goal.returns-clause-answer
returns-clause-answer c =
    let info = c.as_slice.ensures.value
    ∙ key_written c.args.leaf.now c.new-info.result.items c.append_element.new.bytes.items c.requires c.new-info.ensures.items
    c.in_ok-append_element.ensures in
    subst (λ (i : List ℕ). IsTrue c.is_by.result ↔ IsByP256 i c.args.text.now c.args.signature.now) info c.is_by.ensures
