use Rattle.std.proofs.Common.{◌≡◌, ◌∙◌, ℕ, List, [], ◌∷◌, ◌++◌, string_bytes, sym, ap, subst}
use Rattle.std.proofs.Common.{append_assoc, append-nil}
use Rattle.std.specs.FinMap.{entries}
use Rattle.it_base.specs.Table.{named_entries}
use Rattle.it_dsse.specs.declared.key_object.KeyObject.{KeyObject}
use Rattle.it_findings.specs.Joined.{JoinedEach}
use Rattle.it_findings.specs.IdentityFindings.{KeyFindings}
use Rattle.it_findings.proofs.Joining.{joined_push}
use Rattle.it_findings.proofs.identity_findings.each_key.Goals as goal

pub loop-id-init : goal.loop-id-init
loop-id-init c = record { done = []; all = cc; found = c.new-found.ensures.items }

pub loop-id-preserved : goal.loop-id-preserved
loop-id-preserved c =
    let so_far = c.loop-id.invariant in
    let entry : List ℕ × KeyObject = (string_bytes c.in-Some.id.now, c.in-Some.object.now) in
    let left = named_entries c.next.new.self in
    let all : entries c.args.keys.now ≡ so_far.done ++ entry ∷ left = so_far.all
    ∙ ap (λ es. so_far.done ++ named_entries es) c.in-Some.ensures.steps in
    record {
      done = so_far.done ++ entry ∷ [];
      all = all ∙ sym (append_assoc so_far.done (entry ∷ []) left);
      found = rw c.in_ok-append.ensures.items
          (joined_push (KeyFindings c.args.list) so_far.done entry c.loop-id.found.items
          c.in_ok-here.here.items so_far.found c.in_ok-here.ensures);
    }

pub returns : goal.returns
returns c =
    let so_far = c.loop-id.invariant in
    let whole : entries c.args.keys.now ≡ so_far.done = so_far.all
    ∙ ap (λ es. so_far.done ++ named_entries es) c.in-None.ensures.steps.0
    ∙ append-nil so_far.done in
    subst (λ es. JoinedEach (KeyFindings c.args.list) es c.loop-id.found.items) (sym whole)
    so_far.found
