-- Which identities are on a line each.
use Rattle.std.proofs.Common.{◌≡◌, ◌∙◌, ◌++◌, ◌-◌, ◌<◌, ℕ, List, Bool, true, false, Bor}
use Rattle.std.proofs.Common.{ap, arith, if◌then◌else◌, length, nat_le, refl, sym, take}
use Rattle.std.specs.List.{flat_map}
use Rattle.std.proofs.lemmas.Bool.Decides.{nat_tests}
use Rattle.std.proofs.lemmas.List.{length-map, take-map}
use Rattle.it_dsse.specs.declared.key_object.KeyObject.{KeyObject}
use Rattle.it_identity.specs.declared.identity.Identity.{Identity}
use Rattle.it_signer_notes.specs.SignerText.{further_text, signer_text, text_of_signers}
use Rattle.it_signer_notes.specs.inside.Lent.{lent}

second_of : (b : Bool) (text other : List ℕ) → b ≡ false → other ≡ (if b then text else other)
second_of true text other is = cc
second_of false text other is = refl

module _ (keys : List KeyObject) (signers : List (Bor Identity)) where
  abbrev line : Identity → List ℕ
  line = signer_text keys

  abbrev all : List ℕ
  all = flat_map line (lent signers)

  abbrev some : List ℕ
  some = flat_map line (take 39 (lent signers)) ++ further_text (length (lent signers) - 39)

  long : length (lent signers) ≡ length signers
  long = length-map signers (λ x. x.now)

  pub some_shown : 40 < length signers
      → flat_map line (lent (take 39 signers)) ++ further_text (length signers - 39)
      ≡ text_of_signers keys (lent signers)
  some_shown many =
      let same = long in
      let test : nat_le (length (lent signers)) 40 ≡ false = grind (arith, nat_tests) in
      ap (λ l. flat_map line l ++ further_text (length signers - 39))
      (sym (take-map (λ x. x.now) 39 signers))
      ∙ ap (λ n. flat_map line (take 39 (lent signers)) ++ further_text (n - 39)) (sym long)
      ∙ second_of (nat_le (length (lent signers)) 40) all some test
