-- Whole certificates (RFC 5280, section 4.1).
use Rattle.std.specs.Prelude.{◌≡◌, ℕ, List, map}
use Rattle.it_certificate.specs.Algorithm.{algorithm_content}
use Rattle.it_certificate.specs.Allowed.{AreAllowed}
use Rattle.it_certificate.specs.Extension.{Stated, stated_of}
use Rattle.it_certificate.specs.Parts.{Parts, IsCertificate, parts_of}
use Rattle.it_certificate.specs.SubjectKey.{IsKeyContent}
use Rattle.it_certificate.specs.Validity.{IsValidity}
use Rattle.it_certificate.specs.declared.algorithm.Algorithm.{Algorithm}
use Rattle.it_certificate.specs.declared.certificate.Certificate.{Certificate}
use Rattle.it_certificate.specs.declared.known.Known.{Known}
use Rattle.it_certificate.specs.declared.subject_key.Curve.{Curve}
use Rattle.it_certificate.specs.declared.validity.Validity.{Validity}

-- a certificate without where it lies in memory
pub record Facts : Type 0 where
  pub parts : Parts
  pub signature : List ℕ
  pub algorithm : Algorithm
  pub validity : Validity
  pub curve : Curve
  pub coordinates : List ℕ
  pub extensions : List Stated
  pub known : Known

abbrev pub facts_of : Certificate → Facts
facts_of c = record {
  parts = parts_of c.parts;
  signature = c.parts.signature.now;
  algorithm = c.algorithm;
  validity = c.validity;
  curve = c.key.curve;
  coordinates = c.key.coordinates.now;
  extensions = map stated_of c.extensions.items;
  known = c.known;
}

-- what the parts hold
pub record AreOf (parts : Parts) (f : Facts) : Type 0 where
  pub algorithm : parts.algorithm ≡ algorithm_content f.algorithm
  pub validity : IsValidity parts.validity f.validity
  pub key : IsKeyContent parts.key f.curve f.coordinates
  pub extensions : AreAllowed parts.extensions f.extensions f.known

-- the bytes are this certificate
pub record CertificateOf (bytes : List ℕ) (f : Facts) : Type 0 where
  pub parts : IsCertificate bytes f.parts f.signature
  pub says : AreOf f.parts f
