use Rattle.std.proofs.Common.{◌≡◌, ◌∙◌, true, false, rules, sym}
use Rattle.serde_json.specs.View.{view}
use Rattle.it_vectors.specs.Line.{IsVector}
use Rattle.it_vectors.proofs.vectors.VectorsTrial.difference.Goals as goal

pub returns : goal.returns
returns c =
    let vector = c.in_ok-vector-2.vector in
    let is : IsVector (view c.args.document.now) vector = search rules in
    record {
      vector = vector;
      is_vector = is;
      none_where = λ agrees.
          let clash : true ≡ false = sym (c.in_ok-agrees.ensures.1 agrees) ∙ c.if-agrees.false in
          cc;
    }
