use Rattle.std.proofs.Common.{ℕ, List}
use Rattle.std.proofs.lemmas.List.Elements.{All-contains}
use Rattle.it_rules.proofs.Listed.{named_once}
use Rattle.it_memory.specs.Files.{HasBelow}
use Rattle.it_memory.proofs.laws.a_path_is_one_thing.Goals as goal

pub returns : goal.returns
returns c = λ files path bytes other apart has. (
  λ more. named_once files path bytes other apart.differ has more,
  λ below. All-contains (λ (file : List ℕ × List ℕ). ¬ HasBelow files file.0) files (path, bytes)
      apart.none_below has below,
)
