use Rattle.std.proofs.Common.{◌≡◌, ◌∙◌, ◌<◌, ◌+◌, ◌-◌, ◌∷◌, length, drop, reverse, sym, ap, subst, arith}
use Rattle.it_repeats.specs.Again.{again_in}
use Rattle.it_repeats.proofs.SeenNames.{names, names_from, seen_more, told_more}
use Rattle.it_repeats.proofs.again.many_come_again.Goals as goal

pub loop-left-preserved : goal.loop-left-preserved
loop-left-preserved c =
    let xs = c.args.members.now.items in
    let l = c.loop-left in
    let i = l.left - 1 in
    let m = c.index.result.now in
    let below : i < length xs = omega arith in
    let next : i + 1 ≡ l.left = omega arith in
    let here : names (drop i xs) ≡ m.0.now ∷ names (drop l.left xs) =
    subst (λ n. names (drop i xs) ≡ m.0.now ∷ names (drop n xs)) next
    (names_from xs i m below c.index.ensures) in
    record {
      within = omega arith;
      seen = rw here (seen_more (names (drop l.left xs)) m.0 l.seen c.insert.new.self
          c.in_ok-is_new.ensures.updates.0 l.invariant.seen);
      told = ap reverse c.in_ok-push.ensures.items
          ∙ told_more (names (drop l.left xs)) m.0 l.seen c.in_ok-is_new.is_new l.again.items
          l.invariant.seen c.in_ok-is_new.ensures.added l.invariant.told
          ∙ ap again_in (sym here);
    }
