use Rattle.std.proofs.Common.{List, ℕ, map, string_bytes, subst, false}
use Rattle.std.specs.Io.KnownBytes.{Appends}
use Rattle.it_dsse.specs.Panel.{panel_of}
use Rattle.it_dsse.specs.declared.ring_entry.RingEntry.{RingEntry}
use Rattle.it_commands.specs.SignedOutput.{IsSignedOutput}
use Rattle.it_public_keys.specs.OwnChecks.{own_checks}
use Rattle.it_file_commands.proofs.signed_command.show_by.Goals as goal

pub returns-clause-ok : goal.returns-clause-ok
returns-clause-ok g c =
    subst (λ (rings : List (List RingEntry)). (text : List ℕ)
    × IsSignedOutput (panel_of (own_checks rings false)) (map string_bytes c.args.ids.now)
    c.args.envelope.now text c.in_ok-run_signed_by.field-0
    × Appends (g.W.Write.contents c.args.out.now) (g.W.Write.contents c.run_signed_by.new.out) text)
    c.in_ok-vec.ensures.items
    (rw (c.new-checks.ensures.rings, c.new-checks.ensures.public_keys) at c.in_ok-run_signed_by.ensures.ok)
