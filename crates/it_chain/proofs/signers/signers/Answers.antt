use Rattle.std.proofs.Common.{◌≡◌, ◌∙◌, [], List, ℕ, Bor, filter_map, map, take, take_all, ap}
use Rattle.std.proofs.Common.{subst, sym, refl, arith}
use Rattle.it_chain.specs.inside.Signers.{AreIds}
use Rattle.it_chain.proofs.SignerLists.{known, known_signers, none_found, one_found}
use Rattle.it_chain.proofs.signers.signers.Goals as goal
use Rattle.it_chain.proofs.signers.signers.Goals.{in-Some+in_ok-push, in_default}

pub loop-id-preserved : goal.loop-id-preserved
loop-id-preserved c =
    let keys = c.args.layout.now.keys in
    let ids = c.deref-id-items.result.now in
    let i = c.loop-id.id-index in
    elim c.match-get.branch [
      | in-Some+in_ok-push w ↦
          rw (w.found-is, w.in_ok-push.ensures.items)
          (one_found keys ids i (record { ref_ptr = (0, 0); now = [] }) c.loop-id-test.true
          c.loop-id.found.items c.loop-id.invariant _ refl
          (sym (rw w.in-Some.is at c.get.ensures)))
      | in_default w ↦
          rw w.found-is
          (none_found keys ids i (record { ref_ptr = (0, 0); now = [] }) c.loop-id-test.true
          c.loop-id.found.items c.loop-id.invariant (sym (rw w.in_default.is at c.get.ensures)))
    ]

pub returns : goal.returns
returns c =
    let keys = c.args.layout.now.keys in
    let ids = c.in_ok-ids.ids.items in
    let all : take c.loop-id.id-index c.deref-id-items.result.now ≡ ids =
    take_all c.loop-id.id-index c.deref-id-items.result.now (omega arith)
    ∙ c.deref-id-items.ensures.value in
    c.loop-id.invariant ∙ ap (λ xs. filter_map (known keys) (map (λ (x : Bor (List ℕ)). x.now) xs))
    all
    ∙ known_signers c.args.layout.now c.args.step.now (map (λ (x : Bor (List ℕ)). x.now) ids)
    (subst (λ listed. AreIds listed (map (λ (x : Bor (List ℕ)). x.now) ids)) c.as_slice.ensures
    c.in_ok-ids.ensures)
