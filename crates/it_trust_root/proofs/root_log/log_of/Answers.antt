use Rattle.std.proofs.Common.{rules, ◌≡◌, ◌∙◌, sym, refl, length, arith}
use Rattle.std.proofs.lemmas.List.{take_all}
use Rattle.it_trust_root.specs.Log.{usable_algorithm, usable_details}
use Rattle.it_trust_root.proofs.Logs.{no_log}
use Rattle.it_trust_root.proofs.root_log.log_of.Goals as goal

pub returns-in_err-key : goal.returns-in_err-key
returns-in_err-key c =
    let algorithm : c.args.listed.hash_algorithm ≡ usable_algorithm = search rules in
    let details : c.args.listed.key.details ≡ usable_details = search rules in
    let long : length c.args.listed.id ≡ 32 = search rules in
    rw c.from_residual-in_err-key.ensures (no_log c.args.listed algorithm details long
    (λ key is_key is. (rw c.in_err-key.was at c.from_info.ensures) key is_key
    (c.as_slice.ensures ∙ is)))

pub returns : goal.returns
returns c =
    let long : length c.args.listed.id ≡ 32 = search rules in
    record {
      hash_algorithm = search rules;
      details = search rules;
      id_is = c.in_ok-id.ensures.cases.same
          ∙ take_all 32 c.as_slice-id.result.now (omega arith) ∙ c.as_slice-id.ensures;
      id_long = long;
      is_key = c.in_ok-key.ensures.0;
      key_is = sym c.as_slice.ensures ∙ c.in_ok-key.ensures.1;
      window_is = refl;
    }
