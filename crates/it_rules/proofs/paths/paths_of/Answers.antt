use Rattle.std.proofs.Common.{◌∙◌, subst, nat_cmp, append-nil, string_bytes}
use Rattle.std.specs.Cmp.Lexicographic.{slice_cmp}
use Rattle.std.specs.FinMap.{keys}
use Rattle.std.specs.List.Sorted.{IsStrictlySortedBy}
use Rattle.std.specs.Str.{IsUtf8}
use Rattle.std.proofs.lemmas.List.Elements.{All-push}
use Rattle.it_rules.proofs.LentPaths.{are_paths_of, bytes, lent_more}
use Rattle.it_rules.proofs.paths.paths_of.Goals as goal

pub loop-path-preserved : goal.loop-path-preserved
loop-path-preserved c =
    let before = rw c.in-Some.ensures.steps at c.loop-path.invariant.whole in
    rw c.in_ok-push.ensures.items (record {
      whole = lent_more bytes string_bytes c.loop-path.paths.items c.as_str.result c.in-Some.path.now
          c.next.new.self c.as_str.ensures.value ∙ before;
      are_texts = All-push (λ lent. IsUtf8 lent.now) c.loop-path.paths.items c.as_str.result
          c.loop-path.invariant.are_texts c.as_str.utf8;
    })

pub returns-clause-whole : goal.returns-clause-whole
returns-clause-whole c =
    let whole = rw c.in-None.ensures.steps.0 at c.loop-path.invariant.whole in
    rw append-nil at whole

pub returns-clause-paths : goal.returns-clause-paths
returns-clause-paths c =
    let whole = rw c.in-None.ensures.steps.0 at c.loop-path.invariant.whole in
    let sorted : IsStrictlySortedBy (slice_cmp nat_cmp) (keys c.args.artifacts.now) =
    subst (IsStrictlySortedBy (slice_cmp nat_cmp)) c.paths-path-items.ensures.paths
    c.paths-path-items.ensures.ordered in
    are_paths_of c.args.artifacts.now c.loop-path.paths.items (rw append-nil at whole) sorted
    c.loop-path.invariant.are_texts
