-- How far a meter was raised.
use Rattle.std.proofs.Common.{◌≡◌, ℕ, ◌+◌, ◌*◌, ◌<◌, ◌≤◌, List, ◌∷◌, length, get_or, drop}
use Rattle.std.proofs.Common.{sym, ap, arith, ◌∙◌}
use Rattle.std.specs.FinMap.{len}
use Rattle.std.specs.List.{sum_by}
use Rattle.std.proofs.lemmas.List.Sums.{sum_by-drop_more}
use Rattle.it_dsse.specs.Panel.{Panel}
use Rattle.it_dsse.specs.Meter.{RaisedBy, raised}
use Rattle.it_dsse.specs.Signed.{tries}
use Rattle.it_dsse.specs.declared.envelope.Envelope.{Envelope}
use Rattle.it_dsse.specs.declared.key_object.KeyObject.{KeyObject}
use Rattle.it_dsse.specs.declared.meter.Meter.{Meter}
use Rattle.it_dsse.proofs.Tries.{tries_at_most}
use Rattle.it_dsse.proofs.Trying.{raised-zero, raised_more}
use Rattle.it_docs.specs.declared.policy.Builder.{Builder}
use Rattle.it_prov.specs.Asked.{AtLeast}
use Rattle.it_prov.specs.Cost.{key_count}

-- ---- one call after another
pub raised_none : (most : ℕ) (meter now : Meter) → now ≡ meter → RaisedBy (λ n. n ≤ most) meter now
raised_none most meter now same = (0, omega arith, same ∙ sym (raised-zero meter))

pub raised_then : (P Q R : ℕ → Type 0) → ((m n : ℕ) → P m → Q n → R (m + n))
    → (start now new : Meter) → RaisedBy P start now → RaisedBy Q now new → RaisedBy R start new
raised_then P Q R both start now new h k =
    (h.0 + k.0, both h.0 k.0 h.1 k.1, k.2 ∙ ap (λ m. raised m k.0) h.2 ∙ raised_more start h.0 k.0)

-- a meter that has been raised, and then by at least a number
pub raised_still : (P Q : ℕ → Type 0) (start now new : Meter) → RaisedBy P start now
    → RaisedBy (AtLeast Q) now new → RaisedBy (AtLeast Q) start new
raised_still P Q = raised_then P (AtLeast Q) (AtLeast Q) (λ m n p q. (q.0, q.1, omega (arith, q.2)))

pub raised_as : (P Q : ℕ → Type 0) → ((n : ℕ) → P n → Q n) → (start new : Meter)
    → RaisedBy (AtLeast P) start new → RaisedBy (AtLeast Q) start new
raised_as P Q each start new h = (h.0, (h.1.0, each h.1.0 h.1.1, h.1.2), h.2)

pub raised_once : (P : ℕ → Type 0) → ((n : ℕ) → P n → 1 ≤ n) → (start new : Meter)
    → RaisedBy (AtLeast P) start new → RaisedBy (λ n. 1 ≤ n) start new
raised_once P one start new h = let least = one h.1.0 h.1.1 in (h.0, omega (arith, h.1.2), h.2)

-- what a meter may still be raised by, of a total
abbrev pub Leaves : ℕ → ℕ → Meter → Meter → Type 0
Leaves left total = RaisedBy (λ n. n + left ≤ total)

pub leaves_all : (left total : ℕ) (meter : Meter) → left ≡ total → Leaves left total meter meter
leaves_all left total meter same = (0, omega arith, sym (raised-zero meter))

pub leaves_less : (cost left before total : ℕ) (start now new : Meter) → before ≡ cost + left
    → Leaves before total start now → RaisedBy (λ n. n ≤ cost) now new → Leaves left total start new
leaves_less cost left before total start now new split = raised_then (λ n. n + before ≤ total)
    (λ n. n ≤ cost) (λ n. n + left ≤ total) (λ m n p q. omega arith) start now new

pub leaves_at_most : (left total : ℕ) (start now : Meter) → Leaves left total start now
    → RaisedBy (λ n. n ≤ total) start now
leaves_at_most left total start now h = (h.0, omega (arith, h.1), h.2)

-- ---- the keys of a builder, builders and envelopes, one after another
pub leaves_key : {X : Type 0} (signatures total : ℕ) (keys rest : List X) (key : X)
    (start now new : Meter) → keys ≡ key ∷ rest
    → Leaves (length keys * signatures) total start now → RaisedBy (λ n. n ≤ signatures) now new
    → Leaves (length rest * signatures) total start new
leaves_key signatures total keys rest key start now new are =
    leaves_less signatures (length rest * signatures) (length keys * signatures) total start now new
    (ap (λ ks. length ks * signatures) are ∙ omega arith)

sum_split : {X : Type 0} (f : X → ℕ) (xs : List X) (i : ℕ) (x : X) → i < length xs
    → x ≡ get_or xs i x → sum_by f (drop i xs) ≡ f x + sum_by f (drop (i + 1) xs)
sum_split f xs i x below here = sum_by-drop_more f xs i x below
    ∙ ap (λ y. f y + sum_by f (drop (i + 1) xs)) (sym here)

module _ (start now new : Meter) (i : ℕ) where
  pub leaves_builder : (signatures : ℕ) (builders : List Builder) (builder : Builder)
      → i < length builders → builder ≡ get_or builders i builder
      → Leaves (key_count (drop i builders) * signatures) (key_count builders * signatures) start
      now → RaisedBy (λ n. n ≤ len builder.keys * signatures) now new
      → Leaves (key_count (drop (i + 1) builders) * signatures) (key_count builders * signatures)
      start new
  leaves_builder signatures builders builder below here =
      let rest = key_count (drop (i + 1) builders) in
      let split : key_count (drop i builders) ≡ len builder.keys + rest =
      sum_split (λ (b : Builder). len b.keys) builders i builder below here in
      leaves_less (len builder.keys * signatures) (rest * signatures)
      (key_count (drop i builders) * signatures) (key_count builders * signatures) start now new
      (ap (λ n. n * signatures) split ∙ omega arith)

  pub leaves_each : {X : Type 0} (size : X → ℕ) (keys total : ℕ) (xs : List X) (x : X)
      → i < length xs → x ≡ get_or xs i x → Leaves (keys * sum_by size (drop i xs)) total start now
      → RaisedBy (λ n. n ≤ keys * size x) now new
      → Leaves (keys * sum_by size (drop (i + 1) xs)) total start new
  leaves_each size keys total xs x below here =
      let rest = sum_by size (drop (i + 1) xs) in
      let split = sum_split size xs i x below here in
      leaves_less (keys * size x) (keys * rest) (keys * sum_by size (drop i xs)) total start now new
      (ap (λ n. keys * n) split ∙ omega arith)

-- ---- one key
-- the signatures that are tried with a key
module _ (panel : Panel) (envelope : Envelope) (id : List ℕ) (object : KeyObject) (now new : Meter)
    (counted : new ≡ raised now (tries panel envelope id object)) where
  pub raised_at_most : RaisedBy (λ n. n ≤ length envelope.signatures) now new
  raised_at_most = (tries panel envelope id object, tries_at_most panel envelope id object, counted)

  pub raised_at_least : (P : ℕ → Type 0) → P (tries panel envelope id object)
      → RaisedBy (AtLeast P) now new
  raised_at_least P p = (
    tries panel envelope id object,
    (tries panel envelope id object, p, omega arith),
    counted,
  )
