use Rattle.std.proofs.Common.{codes, length, refl, take}
use Rattle.std.specs.List.{flat_map}
use Rattle.it_check.specs.FindingLine.{more_form}
use Rattle.it_check.proofs.Appended.{appended}
use Rattle.it_strict.specs.NonceText.{nonce_line, nonces_text}
use Rattle.it_strict.proofs.nonce_lines.push_shared_nonces.Goals as goal

pub returns : goal.returns
unfolding nonces_text
returns c =
    let shared = c.args.shared.now in
    appended c.push_more.result c.args.text.now.items c.push_first.new.text.items
    c.push_more.new.text.items (flat_map nonce_line (take 40 shared))
    (more_form (codes "shared nonces") (length shared)) (nonces_text shared)
    c.in_ok-push_first.ensures refl c.push_more.ensures
