use Rattle.std.proofs.Common.{map, subst, sym}
use Rattle.it_rules.proofs.LentPaths.{bytes}
use Rattle.it_rule_notes.specs.Met.{AreLeftAt}
use Rattle.it_rule_notes.specs.inside.JudgedRules.{judging_in}
use Rattle.it_rule_notes.proofs.met.forbidden_paths.Goals as goal

pub returns : goal.returns
returns c =
    c.in_ok-found.ensures (judging_in c.args.judged.now) c.args.index
    (subst (λ free. AreLeftAt (judging_in c.args.judged.now) c.args.index (map bytes free))
    (sym c.as_slice.ensures.value) c.in_ok-free.ensures)
