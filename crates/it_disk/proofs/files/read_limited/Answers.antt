use Rattle.std.proofs.Common.{◌≡◌, ℕ, ◌+◌, ◌≤◌, List, [], ◌++◌, Option, Some, None, IfSome, length}
use Rattle.std.proofs.Common.{take, option_map, ap, arith, ◌∙◌}
use Rattle.std.proofs.lemmas.List.{length-take, take_all}
use Rattle.it_disk.proofs.files.read_limited.Goals as goal

-- what was read is all, where it is shorter than what would have been read
whole_taken : (all read : List ℕ) (limit : ℕ) → read ≡ take (limit + 1) all → length read ≤ limit
    → read ≡ all
whole_taken all read limit taken short =
    let few : length all ≤ limit + 1 =
    omega (arith, ap length taken, length-take (limit + 1) all) in
    taken ∙ take_all (limit + 1) all few

whole_known : (known : Option (List ℕ)) (before read : List ℕ) (most limit : ℕ) → most ≡ limit + 1
    → before ≡ []
    → IfSome (option_map (take most) known) (λ taken. read ≡ before ++ taken) → length read ≤ limit
    → IfSome known (λ all. read ≡ all)
whole_known None before read most limit one_more empty taken short = tt
whole_known (Some all) before read most limit one_more empty taken short =
    whole_taken all read limit (taken ∙ ap (λ front. front ++ take most all) empty
    ∙ ap (λ n. take n all) one_more) short

pub returns-else-count-limit-clause-whole : goal.returns-else-count-limit-clause-whole
returns-else-count-limit-clause-whole g c =
    let short : length c.read_to_end.new.buf.items ≤ c.args.limit =
    omega (arith, c.in_ok-count.ensures.ok, c.in_ok-bytes.ensures.len, c.read_to_end.new.buf.ok.0) in
    let known = whole_known (g.R.Read.remaining c.take.result.inner) c.in_ok-bytes.bytes.items
    c.read_to_end.new.buf.items c.take.result.limit c.args.limit
    c.take.ensures.limit c.in_ok-bytes.ensures.items c.in_ok-count.ensures.bytes short in
    rw c.take.ensures.inner at known
