use Rattle.std.proofs.Common.{Some, subst}
use Rattle.std.proofs.lemmas.Map.Text.{btree_map_updates_str}
use Rattle.it_vouched.specs.inside.KnownLines.{IsKept}
use Rattle.it_vouched.proofs.KnownLines.{kept_with}
use Rattle.it_vouched.proofs.known_lines.KnownLines.keep.Goals as goal

pub returns : goal.returns
returns c =
    subst (IsKept c.args.self.now (record { by_line = c.insert.new.self }) c.args.line.now)
    c.in_ok-copy.ensures (kept_with c.args.self.now (record { by_line = c.insert.new.self })
    c.args.line.now c.in_ok-copy.field-0 (btree_map_updates_str c.args.line.now c.args.self.now.by_line
    c.insert.new.self (Some c.in_ok-copy.field-0) c.in_ok-insert.ensures.updates))
