use Rattle.std.proofs.Common.{◌≡◌, ◌∙◌, ◌++◌, ◌∷◌, [], Contains, append_assoc, map}
use Rattle.std.proofs.Common.{IsTrue, string_bytes, subst, sym, rules}
use Rattle.std.proofs.lemmas.List.Elements.{Contains-append_right}
use Rattle.std.specs.FinMap.{keys}
use Rattle.it_base.proofs.Members.{in_head}
use Rattle.it_rule_notes.proofs.near.first_like.Goals as goal

pub loop-other-init : goal.loop-other-init
loop-other-init c = ([], search rules)

pub loop-other-preserved : goal.loop-other-preserved
loop-other-preserved c =
    let before = rw c.in-Some.ensures.steps at c.loop-other.invariant.1 in
    let path = string_bytes c.in-Some.other.now in (
      c.loop-other.invariant.0 ++ path ∷ [],
      append_assoc c.loop-other.invariant.0 (path ∷ []) (map string_bytes c.next.new.self)
          ∙ before,
    )

pub returns-then-eq : goal.returns-then-eq
returns-then-eq c =
    let path = string_bytes c.in-Some.other.now in
    let rest = map string_bytes c.next.new.self in
    let done = c.loop-other.invariant.0 in
    let before : done ++ path ∷ rest ≡ keys c.args.artifacts.now =
    rw c.in-Some.ensures.steps at c.loop-other.invariant.1 in
    let there : Contains (keys c.args.artifacts.now) path =
    subst (λ ks. Contains ks path) before
    (Contains-append_right done (path ∷ rest) path (in_head path rest)) in
    let equal : IsTrue c.eq.result → string_bytes c.in_ok-core.core
    ≡ string_bytes c.in_ok-wanted.wanted = search rules in
    rw c.in_ok-copy.ensures (record {
      is_there = rw c.as_str-other.ensures.value there;
      is_alike = record {
        core = c.core_of.result.now;
        other_core = c.core_of-in-loop-other.result.now;
        is_core = c.core_of.ensures;
        is_other_core = c.core_of-in-loop-other.ensures;
        same = sym c.in_ok-wanted.ensures.ok ∙ sym (equal c.if-eq.true) ∙ c.in_ok-core.ensures.ok;
      };
    })
