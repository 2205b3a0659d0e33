use Rattle.std.proofs.Common.{◌≡◌, ◌≤◌, ◌-◌, ◌∙◌, ◌++◌, ◌∷◌, [], ℤ, List, ap, arith, map, rules, subst}
use Rattle.std.proofs.Common.{refl, sym, take, take_all, append_assoc, string_bytes}
use Rattle.std.proofs.Common.{suc, w64}
use Rattle.std.proofs.lemmas.Int.{to_z-of_z}
use Rattle.std.proofs.lemmas.Result.{IfOk-weaker}
use Rattle.it_docs.specs.Layout.{LayoutOf}
use Rattle.it_chain.specs.Answer.{signers as signers_of}
use Rattle.it_chain.specs.Answered.{AreWithin}
use Rattle.it_chain.specs.Chain.{Chain, holds_below}
use Rattle.it_chain.specs.declared.chain.StepResult.{StepResult}
use Rattle.it_chain.specs.Signers.{entry_of}
use Rattle.it_chain.specs.Sublayouts.{folder_name, folder_of}
use Rattle.it_chain.specs.declared.signers.Signer.{Signer}
use Rattle.it_sublayouts.specs.Counted.{InTurn, ListedForStep, folders_of, setting_of}
use Rattle.it_sublayouts.specs.inside.Below.{AreListed, CountsAt, IdListed}
use Rattle.it_sublayouts.specs.inside.Below.{listed_below}
use Rattle.it_sublayouts.specs.inside.Listed.{was_listed}
use Rattle.it_chain.proofs.AnswersOver.{given_answers, taken_within}
use Rattle.it_sublayouts.proofs.Descending.{answers_above, answers_below, first_of, folder_found}
use Rattle.it_sublayouts.proofs.Descending.{holds_there}
use Rattle.it_sublayouts.proofs.Descending.{is_deep, listed_with, signer_stands, step_listed}
use Rattle.it_sublayouts.proofs.OneByOne.{listed_again, listed_new, none_for, signed_as}
use Rattle.it_sublayouts.proofs.OneByOne.{was_not, was_there, with_first}
use Rattle.it_sublayouts.proofs.Standing.{all_counted}
use Rattle.it_sublayouts.proofs.Turns.{lists_more, lists_none}
use Rattle.it_sublayouts.proofs.sublayouts.+sublayouts.Goals as goal

pub level_sublayouts-loop-step-init : goal.level_sublayouts-loop-step-init
level_sublayouts-loop-step-init g t c =
    let level = c.args.level.now in
    let setting = setting_of (g.C.Checks.panel c.args.walk.now.checks.now) level in (
      rw c.new-found.ensures.items (lists_none (ListedForStep (listed_below setting level.depth)
          (holds_below setting level.depth) setting level.at.now level.layout.now level.links.now)
          c.args.listed.now),
      c.requires.answers,
    )

pub level_sublayouts-loop-step-preserved : goal.level_sublayouts-loop-step-preserved
level_sublayouts-loop-step-preserved g t c =
    let level = c.args.level.now in
    let setting = setting_of (g.C.Checks.panel c.args.walk.now.checks.now) level in (
      rw c.in_ok-append.ensures.items
          (lists_more (ListedForStep (listed_below setting level.depth)
          (holds_below setting level.depth) setting level.at.now level.layout.now level.links.now)
          c.as_slice-step-items.result.now c.loop-step.step-index c.step-item.result
          c.args.listed.now c.loop-step.listed c.step_sublayouts.new.listed
          c.loop-step.found.items c.in_ok-here.here.items c.loop-step-test.true c.step-item.is
          c.loop-step.invariant.0 c.in_ok-here.ensures.lists),
      c.in_ok-here.ensures.answers,
    )

pub level_sublayouts-returns-clause-lists : goal.level_sublayouts-returns-clause-lists
level_sublayouts-returns-clause-lists g t c = λ before are.
    let level = c.args.level.now in
    let setting = setting_of (g.C.Checks.panel c.args.walk.now.checks.now) level in
    let items = c.as_slice-step-items.result.now in
    let Listed = ListedForStep (listed_below setting level.depth) (holds_below setting level.depth)
    setting level.at.now level.layout.now level.links.now in
    let all : take c.loop-step.step-index items ≡ level.layout.now.steps =
    take_all c.loop-step.step-index items (omega arith) ∙ c.as_slice-step-items.ensures in
    let so = c.loop-step.invariant.0 before are in (
      all_counted setting level.depth level.at.now level.layout.now level.links.now before
          c.loop-step.found.items
          (subst (λ steps. InTurn Listed steps before c.loop-step.found.items) all so.0),
      so.1,
    )

pub step_sublayouts-loop-signer-init : goal.step_sublayouts-loop-signer-init
step_sublayouts-loop-signer-init g t c =
    let panel = g.C.Checks.panel c.args.walk.now.checks.now in (
      rw c.new-found.ensures.items
          (lists_none (λ (signer : Signer). IdListed panel c.args.at.now signer.id.now)
          c.args.listed.now),
      c.requires.answers,
    )

pub step_sublayouts-loop-signer-preserved : goal.step_sublayouts-loop-signer-preserved
step_sublayouts-loop-signer-preserved g t c =
    let panel = g.C.Checks.panel c.args.walk.now.checks.now in (
      rw c.in_ok-append.ensures.items
          (lists_more (λ (signer : Signer). IdListed panel c.args.at.now signer.id.now)
          c.as_slice-signer-items.result.now c.loop-signer.signer-index c.signer-item.result
          c.args.listed.now c.loop-signer.listed c.id_sublayouts.new.listed
          c.loop-signer.found.items c.in_ok-here.here.items c.loop-signer-test.true
          c.signer-item.is c.loop-signer.invariant.0 c.in_ok-here.ensures.lists),
      c.in_ok-here.ensures.answers,
    )

pub step_sublayouts-id_sublayouts-requires : goal.step_sublayouts-id_sublayouts-requires
step_sublayouts-id_sublayouts-requires g t c κs within =
    let at = c.args.at.now in
    let items = c.as_slice-signer-items.result.now in
    let are : map entry_of items ≡ signers_of at.level.now.layout.now at.step.now =
    ap (map entry_of) c.as_slice-signer-items.ensures.value ∙ c.in_ok-signers.ensures in (
      search rules,
      (
        search rules,
        (
          search rules,
          (
            c.requires.shallow,
            (
              c.requires.step,
              (
                signer_stands at items are c.loop-signer.signer-index c.signer-item.result
                    c.loop-signer-test.true c.signer-item.is,
                c.loop-signer.invariant.1,
              ),
            ),
          ),
        ),
      ),
    )

pub step_sublayouts-returns-clause-lists : goal.step_sublayouts-returns-clause-lists
step_sublayouts-returns-clause-lists g t c = λ before are.
    let panel = g.C.Checks.panel c.args.walk.now.checks.now in
    let at = c.args.at.now in
    let items = c.as_slice-signer-items.result.now in
    let known : map entry_of items ≡ signers_of at.level.now.layout.now at.step.now =
    ap (map entry_of) c.as_slice-signer-items.ensures.value ∙ c.in_ok-signers.ensures in
    let so = c.loop-signer.invariant.0 before are in (
      step_listed panel at items before c.loop-signer.found.items known
          (subst (λ signers. InTurn (λ (signer : Signer). IdListed panel at signer.id.now) signers
          before c.loop-signer.found.items)
          (take_all c.loop-signer.signer-index items (omega arith)) so.0),
      so.1,
    )

pub id_sublayouts-returns-in_default-clause-lists : goal.id_sublayouts-returns-in_default-clause-lists
id_sublayouts-returns-in_default-clause-lists g t c =
    rw c.new.ensures.items
    (none_for (g.C.Checks.panel c.args.walk.now.checks.now) c.args.at.now c.args.signer.now.id.now
    c.args.listed.now (rw c.in_default.is at c.in_ok-payload.ensures))

pub id_sublayouts-returns-then-not-is_new-clause-lists : goal.id_sublayouts-returns-then-not-is_new-clause-lists
id_sublayouts-returns-then-not-is_new-clause-lists g t c =
    let panel = g.C.Checks.panel c.args.walk.now.checks.now in
    let at = c.args.at.now in
    let id = c.args.signer.now.id.now in
    let old = c.args.listed.now in
    let payload = c.in-Some.payload.now in
    let folders = map string_bytes c.in_ok-folders.folders.items in
    let counts : CountsAt panel at id payload = rw c.in-Some.is at c.in_ok-payload.ensures in
    let named : folders ≡ folders_of (at.level.now.at.now ++ (at.step.now.name, id) ∷ []) =
    c.in_ok-folders.ensures ∙ ap folders_of (c.as_slice.ensures.value
    ∙ rw c.as_str.ensures at c.in_ok-place.ensures) in
    let was = was_there (was_listed old folders payload) c.in_ok-is_new.is_new
    (rw c.in_ok-from_slice.ensures.items at c.in_ok-is_new.ensures.is_new) c.if-not-is_new.true in
    rw c.new-then-not-is_new.ensures.items
    (listed_again panel at id c.requires.step old c.add.new.self folders payload named counts
    (rw c.in_ok-from_slice.ensures.items at c.in_ok-is_new.ensures.added) was)

pub id_sublayouts-read-requires : goal.id_sublayouts-read-requires
id_sublayouts-read-requires g t c =
    let counts : CountsAt (g.C.Checks.panel c.args.walk.now.checks.now) c.args.at.now
    c.args.signer.now.id.now c.in-Some.payload.now = rw c.in-Some.is at c.in_ok-payload.ensures in (
      counts.sublayout,
      subst (λ p. LayoutOf p counts.sublayout) (sym counts.payload_is) counts.counts.is_layout,
    )

pub id_sublayouts-with_those_below-requires : goal.id_sublayouts-with_those_below-requires
id_sublayouts-with_those_below-requires g t c κs within =
    let panel = g.C.Checks.panel c.args.walk.now.checks.now in
    let at = c.args.at.now in
    let id = c.args.signer.now.id.now in
    let payload = c.in-Some.payload.now in
    let counts : CountsAt panel at id payload = rw c.in-Some.is at c.in_ok-payload.ensures in (
      search rules,
      (
        search rules,
        (
          search rules,
          (
            c.requires.shallow,
            (
              c.requires.step,
              (
                signed_as panel at id payload counts c.in_ok-signed.signed c.in_ok-signed.ensures,
                (rw c.as_str.ensures at c.in_ok-place.ensures, c.requires.answers),
              ),
            ),
          ),
        ),
      ),
    )

pub id_sublayouts-returns-clause-lists : goal.id_sublayouts-returns-clause-lists
id_sublayouts-returns-clause-lists g t c =
    let panel = g.C.Checks.panel c.args.walk.now.checks.now in
    let at = c.args.at.now in
    let id = c.args.signer.now.id.now in
    let old = c.args.listed.now in
    let payload = c.in-Some.payload.now in
    let folders = map string_bytes c.in_ok-folders.folders.items in
    let place = c.in_ok-place.place.items in
    let counts : CountsAt panel at id payload = rw c.in-Some.is at c.in_ok-payload.ensures in
    let over : folders ≡ folders_of place =
    c.in_ok-folders.ensures ∙ ap folders_of c.as_slice.ensures.value in
    let named : folders ≡ folders_of (at.level.now.at.now ++ (at.step.now.name, id) ∷ []) =
    over ∙ ap folders_of (rw c.as_str.ensures at c.in_ok-place.ensures) in
    let not_yet = was_not (was_listed old folders payload) c.in_ok-is_new.is_new
    (rw c.in_ok-from_slice.ensures.items at c.in_ok-is_new.ensures.is_new) c.if-not-is_new.false in
    IfOk-weaker c.with_those_below.result _ _
    (λ found make. listed_new panel at id c.requires.step old c.add.new.self folders payload named
    counts (rw c.in_ok-from_slice.ensures.items at c.in_ok-is_new.ensures.added) place over
    c.in_ok-signed.signed.payload c.in_ok-signed.ensures.payload_is not_yet
    c.with_those_below.new.listed found.items make) c.with_those_below.ensures.lists

pub with_those_below-overflow_sub-below : goal.with_those_below-overflow_sub-below
with_those_below-overflow_sub-below g t c =
    let panel = g.C.Checks.panel c.args.walk.now.checks.now in
    let deep = is_deep panel c.args.at.now c.args.sublayout.id.now c.args.sublayout.signed
    c.requires.step c.requires.counts in
    omega (arith, deep)

pub with_those_below-records_of-requires-clause-holds : goal.with_those_below-records_of-requires-clause-holds
with_those_below-records_of-requires-clause-holds g t c =
    let panel = g.C.Checks.panel c.args.walk.now.checks.now in
    let at = c.args.at.now in
    let id = c.args.sublayout.id.now in
    let links = at.level.now.links.now in
    let folder : c.unwrap_or.result.now ≡ folder_of at.step.now.name id links =
    ap (λ r. r.now) c.unwrap_or.ensures
    ∙ folder_found at.step.now.name id links c.as_str-2.result.now c.dir.result _
    (c.as_str-2.ensures.value ∙ rw c.as_str.ensures at c.in_ok-name.ensures) c.dir.ensures
    c.new-none.ensures in
    rw (to_z-of_z w64 at.level.now.moment (search rules))
    (holds_there panel at id c.args.sublayout.signed c.requires.step c.requires.counts
    c.unwrap_or.result.now folder)

pub with_those_below-level_sublayouts-requires : goal.with_those_below-level_sublayouts-requires
with_those_below-level_sublayouts-requires g t c κs within =
    let panel = g.C.Checks.panel c.args.walk.now.checks.now in
    let at = c.args.at.now in
    let depth = at.level.now.depth in
    let id = c.args.sublayout.id.now in
    let signed = c.args.sublayout.signed in
    let links = at.level.now.links.now in
    let deep = is_deep panel at id signed c.requires.step c.requires.counts in
    let shallow : depth - 1 ≤ 8 = omega (arith, c.requires.shallow) in
    let folder : c.unwrap_or.result.now ≡ folder_of at.step.now.name id links =
    ap (λ r. r.now) c.unwrap_or.ensures
    ∙ folder_found at.step.now.name id links c.as_str-2.result.now c.dir.result _
    (c.as_str-2.ensures.value ∙ rw c.as_str.ensures at c.in_ok-name.ensures) c.dir.ensures
    c.new-none.ensures in
    let Stands = λ (moment : ℤ). (results : List StepResult)
    × Chain (record { panel = panel; moment = moment }) (depth - 1) signed.layout
    c.unwrap_or.result.now results in
    let holds = subst Stands (sym (to_z-of_z w64 at.level.now.moment (search rules)))
    (holds_there panel at id signed c.requires.step c.requires.counts
    c.unwrap_or.result.now folder) in
    (search rules, (search rules, (search rules, (shallow, (holds, c.in_ok-steps.ensures.answers)))))

pub with_those_below-returns-clause-lists : goal.with_those_below-returns-clause-lists
with_those_below-returns-clause-lists g t c =
    let panel = g.C.Checks.panel c.args.walk.now.checks.now in
    let at = c.args.at.now in
    let id = c.args.sublayout.id.now in
    let signed = c.args.sublayout.signed in
    let place = c.args.sublayout.place.items in
    let links = at.level.now.links.now in
    let folder : c.unwrap_or.result.now ≡ folder_of at.step.now.name id links =
    ap (λ r. r.now) c.unwrap_or.ensures
    ∙ folder_found at.step.now.name id links c.as_str-2.result.now c.dir.result _
    (c.as_str-2.ensures.value ∙ rw c.as_str.ensures at c.in_ok-name.ensures) c.dir.ensures
    c.new-none.ensures in
    let first = first_of panel at id signed c.requires.step c.requires.counts place
    c.in_ok-steps.steps in
    let others = c.in_ok-found.found.items in
    let new = c.level_sublayouts.new.listed in
    rw (c.in_ok-insert.ensures.items, c.from.ensures)
    (λ before are.
    let more = with_first c.args.listed.now before (folders_of place) signed.payload are first refl
    refl in
    let listing = (rw (to_z-of_z w64 at.level.now.moment (search rules), c.as_slice.ensures.value) at
    c.in_ok-found.ensures.lists) (before ++ first ∷ []) more in (
      listed_with panel at id signed c.requires.step c.requires.counts c.unwrap_or.result.now folder
          place c.requires.place c.in_ok-steps.steps
          (rw (to_z-of_z w64 at.level.now.moment (search rules)) at c.in_ok-steps.ensures.records)
          before others listing.0,
      subst (AreListed new) (append_assoc before (first ∷ []) others) listing.1,
    ))

pub with_those_below-records_of-requires-clause-answers : goal.with_those_below-records_of-requires-clause-answers
with_those_below-records_of-requires-clause-answers g t c =
    let panel = g.C.Checks.panel c.args.walk.now.checks.now in
    let at = c.args.at.now in
    let id = c.args.sublayout.id.now in
    let links = at.level.now.links.now in
    let named = c.as_str-2.ensures.value ∙ rw c.as_str.ensures at c.in_ok-name.ensures in
    let folder : c.unwrap_or.result.now ≡ folder_of at.step.now.name id links =
    ap (λ r. r.now) c.unwrap_or.ensures
    ∙ folder_found at.step.now.name id links c.as_str-2.result.now c.dir.result _ named
    c.dir.ensures c.new-none.ensures in
    let At = λ (moment : ℤ). AreWithin (record { panel = panel; moment = moment })
    (suc (at.level.now.depth - 1)) c.unwrap_or.result.now c.take-within.result in
    subst At (sym (to_z-of_z w64 at.level.now.moment (search rules)))
    (answers_below panel at id c.args.sublayout.signed c.requires.step c.requires.counts
    c.unwrap_or.result.now folder c.take-within.result
    (taken_within (setting_of panel at.level.now) at.level.now.depth links c.args.answered.now
    c.requires.answers (folder_name at.step.now.name id) c.take-within.result
    (rw (c.as_str-3.ensures.value, c.in_ok-name.ensures, c.as_str.ensures) at
    c.take-within.ensures.taken)))

pub with_those_below-returns-clause-answers : goal.with_those_below-returns-clause-answers
with_those_below-returns-clause-answers g t c =
    let panel = g.C.Checks.panel c.args.walk.now.checks.now in
    let at = c.args.at.now in
    let id = c.args.sublayout.id.now in
    let links = at.level.now.links.now in
    let named = c.as_str-2.ensures.value ∙ rw c.as_str.ensures at c.in_ok-name.ensures in
    let folder : c.unwrap_or.result.now ≡ folder_of at.step.now.name id links =
    ap (λ r. r.now) c.unwrap_or.ensures
    ∙ folder_found at.step.now.name id links c.as_str-2.result.now c.dir.result _ named
    c.dir.ensures c.new-none.ensures in
    let At = λ (moment : ℤ). AreWithin (record { panel = panel; moment = moment })
    (suc (at.level.now.depth - 1)) c.unwrap_or.result.now c.level_sublayouts.new.answered in
    given_answers (setting_of panel at.level.now) at.level.now.depth links c.args.answered.now
    c.requires.answers (folder_name at.step.now.name id) c.take-within.new.self c.give.new.self
    c.level_sublayouts.new.answered
    (rw (c.as_str-3.ensures.value, c.in_ok-name.ensures, c.as_str.ensures) at
    c.take-within.ensures.left)
    (rw (c.in_ok-name.ensures, c.as_str.ensures) at c.in_ok-give.ensures)
    (answers_above panel at id c.args.sublayout.signed c.requires.step c.requires.counts
    c.unwrap_or.result.now folder c.level_sublayouts.new.answered
    (subst At (to_z-of_z w64 at.level.now.moment (search rules)) c.in_ok-found.ensures.answers))
