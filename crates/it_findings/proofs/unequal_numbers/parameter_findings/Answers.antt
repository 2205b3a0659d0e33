use Rattle.std.proofs.Common.{◌≡◌, ◌∙◌, [], ◌∷◌, ◌++◌, sym, ap, subst, append_assoc, append-nil}
use Rattle.it_base.specs.JsonView.{fields_view}
use Rattle.it_findings.specs.Joined.{JoinedEach}
use Rattle.it_findings.specs.UnequalNumbers.{ParameterFinding, parameters_in}
use Rattle.it_findings.proofs.Unmet.{Entry, joined_parameter}
use Rattle.it_findings.proofs.unequal_numbers.parameter_findings.Goals as goal

pub loop-name-init : goal.loop-name-init
loop-name-init c = record { done = []; all = cc; found = c.new-found.ensures.items }

pub loop-name-preserved : goal.loop-name-preserved
loop-name-preserved c =
    let so_far = c.loop-name.invariant in
    let e : Entry = (c.in-Some.name.now, c.in-Some.tree.now) in
    let left = c.next.new.self in
    record {
      done = so_far.done ++ e ∷ [];
      all = ap fields_view (append_assoc so_far.done (e ∷ []) left
          ∙ ap (λ es. so_far.done ++ es) (sym c.in-Some.ensures.steps)) ∙ so_far.all;
      found = rw c.in_ok-append.ensures.items
          (joined_parameter (ParameterFinding c.args.place) so_far.done e c.loop-name.found.items
          c.in_ok-here.here.items so_far.found c.in_ok-here.ensures);
    }

pub returns : goal.returns
returns c =
    let so_far = c.loop-name.invariant in
    let whole : fields_view so_far.done ≡ c.args.parameters.now =
    ap fields_view (sym (append-nil so_far.done)
    ∙ ap (λ es. so_far.done ++ es) (sym c.in-None.ensures.steps.0)) ∙ so_far.all in
    subst (λ fields. JoinedEach (ParameterFinding c.args.place) (parameters_in fields)
    c.loop-name.found.items) whole so_far.found
