use Rattle.std.proofs.Common.{◌∙◌, ◌<◌, [], arith, get_or, length, map, sym, true≢false}
use Rattle.std.proofs.lemmas.List.{length-map}
use Rattle.it_rules.specs.Rules.{IsMatch}
use Rattle.it_rules.proofs.Kept.{kept_more, kept_none, kept_skip}
use Rattle.it_rules.proofs.LentPaths.{bytes}
use Rattle.it_rules.proofs.Unmarked.{text_at}
use Rattle.it_rule_notes.proofs.Forbidden.{none_left, some_left}
use Rattle.it_rule_notes.proofs.met.forbidden_among.Goals as goal

pub loop-path-init : goal.loop-path-init
loop-path-init c =
    rw c.new-paths.ensures.items
    (kept_none (map bytes c.args.free.now) (λ place path. IsMatch c.args.pattern.now path))

pub loop-path-preserved-then-not-matches : goal.loop-path-preserved-then-not-matches
loop-path-preserved-then-not-matches c =
    let free = c.args.free.now in
    let place = c.loop-path.path-index in
    let within : place < length free = omega (arith, c.loop-path-test.true) in
    let lent = get_or free place (record { ref_ptr = (0, 0); now = [] }) in
    let here = text_at free [] place (record { ref_ptr = (0, 0); now = [] }) within in
    kept_skip (map bytes c.args.free.now) (λ place path. IsMatch c.args.pattern.now path)
    c.loop-path.paths.items place lent.now here
    (λ m. true≢false (sym (c.matches.ensures.1 m) ∙ c.if-not-matches.true)) c.loop-path.invariant

pub returns-then-len-eq-MOST_PATHS : goal.returns-then-len-eq-MOST_PATHS
returns-then-len-eq-MOST_PATHS c = λ judging index left.
    let free = c.args.free.now in
    let place = c.loop-path.path-index in
    let within : place < length free = omega (arith, c.loop-path-test.true) in
    let lent = get_or free place (record { ref_ptr = (0, 0); now = [] }) in
    let here = text_at free [] place (record { ref_ptr = (0, 0); now = [] }) within in
    rw c.from.ensures (some_left judging index c.args.pattern.now (map bytes c.args.free.now) left
    c.loop-path.paths.items place c.loop-path.invariant lent.now here
    (c.matches.ensures.0 c.if-not-matches.false) (omega arith))

pub loop-path-preserved : goal.loop-path-preserved
loop-path-preserved c =
    let free = c.args.free.now in
    let place = c.loop-path.path-index in
    let within : place < length free = omega (arith, c.loop-path-test.true) in
    let lent = get_or free place (record { ref_ptr = (0, 0); now = [] }) in
    let here = text_at free [] place (record { ref_ptr = (0, 0); now = [] }) within in
    rw (c.in_ok-push.ensures.items, c.in_ok-copy.ensures) (kept_more (map bytes c.args.free.now)
    (λ place path. IsMatch c.args.pattern.now path) c.requires c.loop-path.paths.items place
    lent.now here (c.matches.ensures.0 c.if-not-matches.false) c.loop-path.invariant)

pub returns : goal.returns
returns c = λ judging index left.
    rw c.from-2.ensures (none_left judging index c.args.pattern.now (map bytes c.args.free.now) left
    c.loop-path.paths.items c.loop-path.path-index c.loop-path.invariant
    (omega (arith, length-map c.args.free.now bytes)))
