use Rattle.std.proofs.Common.{◌≡◌, ◌+◌, ◌-◌, ◌≤◌, length, sym, arith, refl, ◌∙◌}
use Rattle.std.proofs.lemmas.List.{length-take-le, take_rest}
use Rattle.it_rsa.proofs.Infos.{read_of, after_modulus, other_head, parts_judged}
use Rattle.it_rsa.proofs.info.key_parts.Goals as goal

pub returns-then-info : goal.returns-then-info
returns-then-info c = λ m e parts.
    let r = read_of c.args.info.now m e parts in
    let size = r.size in
    let least = parts.least in
    let some = parts.some in
    omega arith

pub returns-then-long-lt257 : goal.returns-then-long-lt257
returns-then-long-lt257 c = λ m e parts.
    let r = read_of c.args.info.now m e parts in
    let long = r.long in
    let least = parts.least in
    omega arith

pub returns-then-long-gt513 : goal.returns-then-long-gt513
returns-then-long-gt513 c = λ m e parts.
    let r = read_of c.args.info.now m e parts in
    let long = r.long in
    let most = parts.most in
    omega arith

pub returns-then-info-size : goal.returns-then-info-size
returns-then-info-size c = λ m e parts.
    let r = read_of c.args.info.now m e parts in
    let size = r.size in
    let long = r.long in
    let some = parts.some in
    omega arith

pub returns-then-count-gt4 : goal.returns-then-count-gt4
returns-then-count-gt4 c = λ m e parts.
    let r = read_of c.args.info.now m e parts in
    let size = r.size in
    let long = r.long in
    let short = parts.short in
    omega arith

pub slice_bounds-ne-end : goal.slice_bounds-ne-end
slice_bounds-ne-end c = sym (length-take-le 33 c.args.info.now (let h : 33 ≤ length c.args.info.now = omega arith in h))

pub returns-then-ne : goal.returns-then-ne
returns-then-ne c = λ m e parts.
    let r = read_of c.args.info.now m e parts in
    let size = r.size in
    let long = r.long in
    other_head c.args.info.now m e _ _ _ c.ne.result r
    (let k : c.integer_size-long.result - 1 ≡ length m = omega arith in k)
    (let k : length c.args.info.now - 33 - (c.integer_size-long.result - 1) - 2 ≡ length e = omega arith in k)
    (c.as_slice.ensures ∙ c.head-wanted.ensures) c.ne.ensures c.if-ne.true

pub returns-in_default : goal.returns-in_default
returns-in_default c = λ m e parts.
    let r = read_of c.args.info.now m e parts in
    let size = r.size in
    let long = r.long in
    let k : c.integer_size-long.result - 1 ≡ length m = omega arith in
    let n : length e ≡ length c.args.info.now - 33 - (c.integer_size-long.result - 1) - 2 = omega arith in
    c.in_default.ensures e n (take_rest c.args.info.now (33 + (c.integer_size-long.result - 1)) ∙ (rw n at (after_modulus c.args.info.now m e (c.integer_size-long.result - 1) r k)))

pub returns : goal.returns
returns c =
    parts_judged c.args.info.now c.in-Some.exponent.now _ (c.integer_size-long.result - 1) _ c.ne.result (omega arith) (omega arith) (omega arith) refl (omega arith)
    (c.as_slice.ensures ∙ c.head-wanted.ensures) c.ne.ensures c.if-ne.false c.in-Some.ensures.0 c.in-Some.ensures.1
