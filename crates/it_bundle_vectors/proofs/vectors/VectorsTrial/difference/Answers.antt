use Rattle.std.proofs.Common.{◌≡◌, ◌∙◌, true, false, rules, sym}
use Rattle.serde_json.specs.View.{view}
use Rattle.it_bundle_vectors.specs.Vector.{IsVector}
use Rattle.it_bundle_vectors.proofs.Finding.{agrees_same, same_agrees}
use Rattle.it_bundle_vectors.proofs.vectors.VectorsTrial.difference.Goals as goal

pub returns-then-agrees : goal.returns-then-agrees
returns-then-agrees c =
    let vector = c.in_ok-vector-2.vector in
    let is : IsVector (view c.args.document.now) vector = search rules in
    record {
      vector = vector;
      is_vector = is;
      none_where = agrees_same vector c.in_ok-found.found c.in_ok-found.ensures (c.agrees.ensures.0 c.if-agrees.true);
    }

pub returns : goal.returns
returns c =
    let vector = c.in_ok-vector-2.vector in
    let is : IsVector (view c.args.document.now) vector = search rules in
    record {
      vector = vector;
      is_vector = is;
      none_where = λ agrees.
          let yes = c.agrees.ensures.1 (same_agrees vector c.in_ok-found.found c.in_ok-found.ensures agrees) in
          let clash : true ≡ false = sym yes ∙ c.if-agrees.false in
          cc;
    }
