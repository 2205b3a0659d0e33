-- The names of the kinds of keys in a vector (a format of this project).
use Rattle.std.specs.Prelude.{ℕ, List, codes}
use Rattle.it_vectors.specs.declared.kind.Kind.{Kind}
use Rattle.it_vectors.specs.declared.kind.Kind.TheVariants.{Ed25519, P256, P256Digest, Rsa}
use Rattle.it_vectors.specs.declared.kind.Kind.TheVariants.{P384, P384Digest, RsaAnySalt, RsaPkcs1}

abbrev pub name_of : Kind → List ℕ
name_of Ed25519 = codes "ed25519"
name_of P256 = codes "p256"
name_of P256Digest = codes "p256-digest"
name_of P384 = codes "p384"
name_of P384Digest = codes "p384-digest"
name_of Rsa = codes "rsa"
name_of RsaPkcs1 = codes "rsa-pkcs1"
name_of RsaAnySalt = codes "rsa-any-salt"
