-- The third vector of RFC 8032, section 7.1, is a signature: the definitions compute it.
use Rattle.std.proofs.Common.{◌≡◌, ℕ, ◌-◌, ◌/◌, ◌%◌, ◌<◌, List, [], ◌∷◌, ◌++◌, Some, false, refl, ap, ◌∙◌, lit<}
use Rattle.sha2.specs.Sha512.{compress, digest_bytes, first_words, hash_after, rounds, schedule, sha512}
use Rattle.it_ed_field.specs.Prime.{prime}
use Rattle.it_numbers.specs.Bytes.{little, little_bytes}
use Rattle.it_numbers.proofs.FastPowers.{fast_power, power_mod-fast}
use Rattle.it_ed_point.specs.declared.point.Point.{Point}
use Rattle.it_ed_point.specs.Curve.{added, sum_of, double_of}
use Rattle.it_ed_point.specs.Encoding.{encoding_of, decoded, point_at, root_of_ratio, candidate_root, signed_point}
use Rattle.it_ed25519.specs.PublicKey.{IsPublicKey, is_small_order}
use Rattle.it_ed25519.specs.Signature.{challenge_of, combination_of, IsSignature}
use Rattle.it_ed_scalar.specs.Order.{order}

abbrev key : List ℕ
key = 252 ∷ 81 ∷ 205 ∷ 142 ∷ 98 ∷ 24 ∷ 161 ∷ 163 ∷ 141 ∷ 164 ∷ 126 ∷ 208 ∷ 2 ∷ 48 ∷ 240 ∷ 88 ∷ 8 ∷ 22 ∷ 237 ∷ 19 ∷ 186 ∷ 51 ∷ 3 ∷ 172 ∷ 93 ∷ 235 ∷ 145 ∷ 21 ∷ 72 ∷ 144 ∷ 128 ∷ 37 ∷ []

abbrev message : List ℕ
message = 175 ∷ 130 ∷ []

abbrev first_half : List ℕ
first_half = 98 ∷ 145 ∷ 214 ∷ 87 ∷ 222 ∷ 236 ∷ 36 ∷ 2 ∷ 72 ∷ 39 ∷ 230 ∷ 156 ∷ 58 ∷ 190 ∷ 1 ∷ 163 ∷ 12 ∷ 229 ∷ 72 ∷ 162 ∷ 132 ∷ 116 ∷ 58 ∷ 68 ∷ 94 ∷ 54 ∷ 128 ∷ 215 ∷ 219 ∷ 90 ∷ 195 ∷ 172 ∷ []

abbrev last_half : List ℕ
last_half = 24 ∷ 255 ∷ 155 ∷ 83 ∷ 141 ∷ 22 ∷ 242 ∷ 144 ∷ 174 ∷ 103 ∷ 247 ∷ 96 ∷ 152 ∷ 77 ∷ 198 ∷ 89 ∷ 74 ∷ 124 ∷ 21 ∷ 233 ∷ 113 ∷ 110 ∷ 210 ∷ 141 ∷ 192 ∷ 39 ∷ 190 ∷ 206 ∷ 234 ∷ 30 ∷ 196 ∷ 10 ∷ []

abbrev signature : List ℕ
signature = first_half ++ last_half

abbrev point : Point
point = record {
  x = 43933056957747458452560886832567536073542840507013052263144963060608791330050;
  y = 16962727616734173323702303146057009569815335830970791807500022961899349823996;
  z = 1;
  t = 47597536765056690778342994103149503974598380825968728087754575050160026478564;
}

point-decoded : decoded key ≡ Some point
unfolding decoded point_at root_of_ratio candidate_root signed_point little fast_power
point-decoded =
    rw (power_mod-fast prime 255 51743222289585615440936265109647354148317397523501551771917320764963397793336
    ((prime - 5) / 8)
    27877442579842659927820406502141298673642170912749096343788908791846857034498 (lit< tt) refl refl) refl

abbrev digest : List ℕ
digest = 9 ∷ 191 ∷ 180 ∷ 255 ∷ 25 ∷ 147 ∷ 243 ∷ 143 ∷ 46 ∷ 246 ∷ 86 ∷ 153 ∷ 147 ∷ 74 ∷ 139 ∷ 100 ∷ 192 ∷ 50 ∷ 88 ∷ 103 ∷ 248 ∷ 88 ∷ 5 ∷ 155 ∷ 149 ∷ 188 ∷ 161 ∷ 153 ∷ 247 ∷ 141 ∷ 192 ∷ 158 ∷ 84 ∷ 72 ∷ 87 ∷ 174 ∷ 180 ∷ 171 ∷ 221 ∷ 198 ∷ 227 ∷ 86 ∷ 96 ∷ 218 ∷ 40 ∷ 103 ∷ 171 ∷ 89 ∷ 99 ∷ 19 ∷ 95 ∷ 254 ∷ 246 ∷ 13 ∷ 36 ∷ 45 ∷ 191 ∷ 206 ∷ 10 ∷ 133 ∷ 251 ∷ 195 ∷ 98 ∷ 191 ∷ []

digest-is : sha512 (first_half ++ key ++ message) ≡ digest
unfolding first_words schedule rounds compress hash_after digest_bytes sha512
digest-is = refl

abbrev challenge : ℕ
challenge = 2732795489398515564922163897559653808653406019785768499391102740988802731669

abbrev sum_point : Point
sum_point = record {
  x = 17489677549933626022811214986072724052710099838360877428167341321519827006339;
  y = 13999500140460501964072414052519635806577942655778830669586811599364106228137;
  z = 22093381983267560053392830009456220279935401233552474988174202330652349772332;
  t = 46979719940728458978517000958864528142373022424953086751675078493037622286480;
}

challenge-is : little digest % order ≡ challenge
unfolding little
challenge-is = refl

sum-is : combination_of point (little last_half) challenge ≡ sum_point
unfolding combination_of added sum_of double_of little
sum-is = refl

encoding-is : encoding_of sum_point ≡ first_half
unfolding encoding_of fast_power little_bytes
encoding-is =
    rw (power_mod-fast prime 255 22093381983267560053392830009456220279935401233552474988174202330652349772332 (prime - 2)
    27191799198178731850958014546621264055083266232601673125484411563914679829232 (lit< tt) refl refl) refl

challenged : challenge_of first_half key message ≡ challenge
unfolding challenge_of
challenged = ap (λ (bytes : List ℕ). little bytes % order) digest-is ∙ challenge-is

below : little last_half < order
unfolding little
below = lit< tt

large : is_small_order point ≡ false
unfolding double_of
large = refl

pub third_key : IsPublicKey key
third_key = record { long = refl; point = point; decodes = point-decoded; large = large }

pub third_vector : IsSignature key message signature
third_vector = record {
  point = point;
  decodes = point-decoded;
  long = refl;
  below = below;
  agrees = ap (λ (k : ℕ). encoding_of (combination_of point (little last_half) k)) challenged ∙ ap encoding_of sum-is ∙ encoding-is;
}
