use Rattle.std.proofs.Common.{◌≡◌, ◌++◌, option_map}
use Rattle.std.specs.Vec.Iter.{into_iter_items}
use Rattle.it_key_commands.specs.KeyOutput.{keys_of}
use Rattle.it_key_commands.proofs.key_output.keys_of.Given as goal

abbrev pub invariant-loop-object : goal.invariant-loop-object
invariant-loop-object l = (l.yielded ++ into_iter_items l.object-iterator ≡ l.fn.objects.items)
    × (l.keys ≡ keys_of (option_map (λ text. text.now) l.name) l.yielded)
