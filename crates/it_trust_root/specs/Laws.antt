-- What is proved about these definitions.
use Rattle.std.specs.Prelude.{◌≡◌, ℕ, List}
use Rattle.it_trust_root.specs.Root.{RootOf}
use Rattle.it_trust_root.specs.RootPart.{RootPartOf}
use Rattle.it_trust_root.specs.declared.root.TrustedRoot.{TrustedRoot}
use Rattle.it_trust_root.specs.declared.root_part.RootPart.{RootPart}

-- bytes can be read as at most one trusted root
abbrev pub OneRoot : Type 0
OneRoot = (bytes : List ℕ) (x y : TrustedRoot) → RootOf bytes x → RootOf bytes y → x ≡ y

-- bytes in which some part fails are no trusted root
abbrev pub BadPartIsNoRoot : Type 0
BadPartIsNoRoot = (bytes : List ℕ) (part : RootPart) → RootPartOf bytes part
    → (root : TrustedRoot) → ¬ RootOf bytes root
