use Rattle.it_vectors.proofs.kind.Kind.takes_signature.Goals as goal

pub returns-in-RsaPkcs1 : goal.returns-in-RsaPkcs1
returns-in-RsaPkcs1 c = rw c.in-RsaPkcs1.is c.is_pkcs1.ensures

pub returns-in-RsaAnySalt : goal.returns-in-RsaAnySalt
returns-in-RsaAnySalt c = rw c.in-RsaAnySalt.is c.has_any_salt.ensures
