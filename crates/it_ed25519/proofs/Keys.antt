-- The point of a public key.
use Rattle.std.proofs.Common.{◌≡◌, ℕ, Bool, false, Option, Some, List, length, refl, sym, ap, ◌∙◌}
use Rattle.std.proofs.lemmas.Option.{same_Some}
use Rattle.it_ed_point.specs.declared.point.Point.{Point}
use Rattle.it_ed_point.specs.Curve.{base, sum_of, opposite_of, multiple_of}
use Rattle.it_ed_point.specs.Encoding.{decoded, encoding_of}
use Rattle.it_ed25519.specs.PublicKey.{HoldsKey, is_small_order}
use Rattle.it_ed25519.specs.Signature.{combination_of}

pub key_held : (bytes : List ℕ) (p q : Point) (o : Option Point) (t : Bool) → length bytes ≡ 32 → o ≡ decoded bytes → o ≡ Some p
    → t ≡ is_small_order p → t ≡ false → q ≡ opposite_of p → HoldsKey bytes q
key_held bytes p q o t long d e f g h = record {
  key = record { long = long; point = p; decodes = sym d ∙ e; large = sym f ∙ g };
  is = h;
}

pub combination_by : (a p q m n total : Point) (s k : ℕ) (bytes e : List ℕ) → decoded bytes ≡ Some p → q ≡ opposite_of p
    → decoded bytes ≡ Some a → m ≡ multiple_of s base → n ≡ multiple_of k q → total ≡ sum_of m n → e ≡ encoding_of total
    → e ≡ encoding_of (combination_of a s k)
unfolding combination_of
combination_by a p q m n total s k bytes e d h f hm hn ht he =
    let same : p ≡ a = same_Some p a (sym d ∙ f) in
    let opposite : q ≡ opposite_of a = h ∙ ap opposite_of same in
    rw (he, ht, hm, hn, opposite) refl
