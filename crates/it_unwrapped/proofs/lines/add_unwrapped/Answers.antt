use Rattle.std.proofs.Common.{◌≡◌, List, ◌++◌, Result, Ok, Err, is_ok, cond, refl, inl, inr}
use Rattle.std.specs.Result.{OnOk}
use Rattle.std.proofs.lemmas.Result.{on_ok_weaker}
use Rattle.it_unwrapped.proofs.WrittenLines.{one_line_written}
use Rattle.it_unwrapped.proofs.lines.add_unwrapped.Goals as goal

-- what was added where there was room
added_if_ok : {X T E : Type 0} (r : Result T E) (new old more : List X)
    → new ≡ cond (is_ok r) (old ++ more) old → OnOk r (new ≡ old ++ more)
added_if_ok (Ok x) new old more is = is
added_if_ok (Err e) new old more is = tt

pub returns-in-Some : goal.returns-in-Some
returns-in-Some c = on_ok_weaker c.add_envelope.result (λ added. record {
  out = _;
  unwrapped = inl (record {
    envelope = c.in-Some.bundle.envelope;
    bundle_is = record {
      bundle = c.in-Some.bundle;
      bundle_is = rw c.in-Some.is at c.in_ok-bundle.ensures;
      envelope_is = refl;
    };
    out_is = refl;
    reads_back = added.1;
  });
  new_is = added.0;
  one_line = λ _. one_line_written c.in-Some.bundle.envelope;
}) c.add_envelope.ensures

pub returns-in-None : goal.returns-in-None
returns-in-None c = on_ok_weaker c.extend_from_slice.result (λ added. record {
  out = c.args.line.now;
  unwrapped = inr (rw c.in-None.is at c.in_ok-bundle.ensures, refl);
  new_is = added;
  one_line = λ one. one;
}) (added_if_ok c.extend_from_slice.result c.extend_from_slice.new.self.items
    c.args.lines.now.items c.args.line.now c.extend_from_slice.ensures.items)
