-- The parts of a timestamp, one after another.
use Rattle.std.proofs.Common.{◌≡◌, ℕ, ◌<◌, List, [], ◌∷◌, ◌++◌, length, refl, sym, ap, ◌∙◌, arith, append-nil}
use Rattle.it_der.proofs.Reading.{same_front}
use Rattle.it_certificate_log.specs.Counted.{counted}
use Rattle.it_certificate_log.specs.Timestamp.{Stamp, TimestampOf}
use Rattle.it_certificate_log.specs.inside.Begins.{BeginsCounted}
use Rattle.it_certificate_log.proofs.Counting.{one_counted}

abbrev pub after_algorithm : Stamp → List ℕ
after_algorithm s = counted s.signature

abbrev pub after_extensions : Stamp → List ℕ
after_extensions s = (4 ∷ 3 ∷ []) ++ after_algorithm s

abbrev pub after_moment : Stamp → List ℕ
after_moment s = counted s.extensions ++ after_extensions s

abbrev pub after_log : Stamp → List ℕ
after_log s = s.moment ++ after_moment s

abbrev pub after_version : Stamp → List ℕ
after_version s = s.log ++ after_log s

-- what was read up to a place, and what every timestamp that the item is has there
pub record ReadsVersion (item version rest : List ℕ) : Type 0 where
  pub size : length version ≡ 1
  pub written : item ≡ version ++ rest

pub version_of : (item version rest : List ℕ) (s : Stamp) → ReadsVersion item version rest → TimestampOf item s
    → (version ≡ 0 ∷ []) × (rest ≡ after_version s)
version_of item version rest s reads is =
    same_front version (0 ∷ []) rest (after_version s) reads.size (sym reads.written ∙ is.written)

pub record ReadsLog (item version log rest : List ℕ) : Type 0 where
  pub after : List ℕ
  pub before : ReadsVersion item version after
  pub size : length log ≡ 32
  pub written : after ≡ log ++ rest

pub log_of : (item version log rest : List ℕ) (s : Stamp) → ReadsLog item version log rest → TimestampOf item s
    → (log ≡ s.log) × (rest ≡ after_log s)
log_of item version log rest s reads is =
    same_front log s.log rest (after_log s) (reads.size ∙ sym is.log_size)
    (sym reads.written ∙ (version_of item version reads.after s reads.before is).1)

pub record ReadsMoment (item version log moment rest : List ℕ) : Type 0 where
  pub after : List ℕ
  pub before : ReadsLog item version log after
  pub size : length moment ≡ 8
  pub written : after ≡ moment ++ rest

pub moment_of : (item version log moment rest : List ℕ) (s : Stamp) → ReadsMoment item version log moment rest → TimestampOf item s
    → (moment ≡ s.moment) × (rest ≡ after_moment s)
moment_of item version log moment rest s reads is =
    same_front moment s.moment rest (after_moment s) (reads.size ∙ sym is.moment_size)
    (sym reads.written ∙ (log_of item version log reads.after s reads.before is).1)

-- the extensions begin what comes after the moment
pub extensions_begin : (item version log moment rest : List ℕ) (s : Stamp) → ReadsMoment item version log moment rest → TimestampOf item s
    → BeginsCounted rest s.extensions (after_extensions s)
extensions_begin item version log moment rest s reads is = record {
  short = is.extensions_short;
  written = (moment_of item version log moment rest s reads is).1;
}

pub record ReadsExtensions (item version log moment extensions rest : List ℕ) : Type 0 where
  pub after : List ℕ
  pub before : ReadsMoment item version log moment after
  pub begins : BeginsCounted after extensions rest

pub extensions_of : (item version log moment extensions rest : List ℕ) (s : Stamp)
    → ReadsExtensions item version log moment extensions rest → TimestampOf item s
    → (extensions ≡ s.extensions) × (rest ≡ after_extensions s)
extensions_of item version log moment extensions rest s reads is =
    one_counted reads.after extensions s.extensions rest (after_extensions s) reads.begins
    (extensions_begin item version log moment reads.after s reads.before is)

pub record ReadsAlgorithm (item version log moment extensions algorithm rest : List ℕ) : Type 0 where
  pub after : List ℕ
  pub before : ReadsExtensions item version log moment extensions after
  pub size : length algorithm ≡ 2
  pub written : after ≡ algorithm ++ rest

pub algorithm_of : (item version log moment extensions algorithm rest : List ℕ) (s : Stamp)
    → ReadsAlgorithm item version log moment extensions algorithm rest → TimestampOf item s
    → (algorithm ≡ 4 ∷ 3 ∷ []) × (rest ≡ after_algorithm s)
algorithm_of item version log moment extensions algorithm rest s reads is =
    same_front algorithm (4 ∷ 3 ∷ []) rest (after_algorithm s) reads.size
    (sym reads.written ∙ (extensions_of item version log moment extensions reads.after s reads.before is).1)

-- the signature is what is left
pub signature_begins : (item version log moment extensions algorithm rest : List ℕ) (s : Stamp)
    → ReadsAlgorithm item version log moment extensions algorithm rest → TimestampOf item s → BeginsCounted rest s.signature []
signature_begins item version log moment extensions algorithm rest s reads is = record {
  short = is.signature_short;
  written = (algorithm_of item version log moment extensions algorithm rest s reads is).1 ∙ sym (append-nil (counted s.signature));
}

pub nothing_left : (item version log moment extensions algorithm after signature rest : List ℕ) (s : Stamp)
    → ReadsAlgorithm item version log moment extensions algorithm after → BeginsCounted after signature rest → 0 < length rest
    → TimestampOf item s → ⊥
nothing_left item version log moment extensions algorithm after signature rest s reads begins some is =
    let none : length rest ≡ 0 = ap length (one_counted after signature s.signature rest [] begins
    (signature_begins item version log moment extensions algorithm after s reads is)).1 in
    omega arith

-- all parts make the timestamp
pub stamp_is : (item version log moment extensions algorithm after signature rest : List ℕ)
    → ReadsAlgorithm item version log moment extensions algorithm after → BeginsCounted after signature rest → version ≡ 0 ∷ []
    → algorithm ≡ 4 ∷ 3 ∷ [] → rest ≡ []
    → TimestampOf item (record { log = log; moment = moment; extensions = extensions; signature = signature })
stamp_is item version log moment extensions algorithm after signature rest reads begins version_is algorithm_is none = record {
  log_size = reads.before.before.before.size;
  moment_size = reads.before.before.size;
  extensions_short = reads.before.begins.short;
  signature_short = begins.short;
  written =
      let signature_is : after ≡ counted signature = begins.written ∙ ap (λ (l : List ℕ). counted signature ++ l) none ∙ append-nil (counted signature) in
      let rest_is : reads.after ≡ (4 ∷ 3 ∷ []) ++ counted signature =
      reads.written ∙ ap (λ (l : List ℕ). l ++ after) algorithm_is ∙ ap (λ (l : List ℕ). (4 ∷ 3 ∷ []) ++ l) signature_is in
      let extensions_are : reads.before.after ≡ counted extensions ++ ((4 ∷ 3 ∷ []) ++ counted signature) =
      reads.before.begins.written ∙ ap (λ (l : List ℕ). counted extensions ++ l) rest_is in
      let moment_is : reads.before.before.after ≡ moment ++ (counted extensions ++ ((4 ∷ 3 ∷ []) ++ counted signature)) =
      reads.before.before.written ∙ ap (λ (l : List ℕ). moment ++ l) extensions_are in
      let log_is : reads.before.before.before.after ≡ log ++ (moment ++ (counted extensions ++ ((4 ∷ 3 ∷ []) ++ counted signature))) =
      reads.before.before.before.written ∙ ap (λ (l : List ℕ). log ++ l) moment_is in
      reads.before.before.before.before.written ∙ ap (λ (l : List ℕ). l ++ reads.before.before.before.after) version_is
      ∙ ap (λ (l : List ℕ). (0 ∷ []) ++ l) log_is;
}

abbrev stamp : List ℕ → List ℕ → List ℕ → List ℕ → Stamp
stamp log moment extensions signature = record { log = log; moment = moment; extensions = extensions; signature = signature }

-- an item is a timestamp in at most one way
pub one_stamp : (item : List ℕ) (s t : Stamp) → TimestampOf item s → TimestampOf item t → s ≡ t
one_stamp item s t one two =
    let whole : (0 ∷ []) ++ after_version s ≡ (0 ∷ []) ++ after_version t = sym one.written ∙ two.written in
    let version = same_front (0 ∷ []) (0 ∷ []) (after_version s) (after_version t) refl whole in
    let log = same_front s.log t.log (after_log s) (after_log t) (one.log_size ∙ sym two.log_size) version.1 in
    let moment = same_front s.moment t.moment (after_moment s) (after_moment t) (one.moment_size ∙ sym two.moment_size) log.1 in
    let here : BeginsCounted (after_moment s) s.extensions (after_extensions s) = record { short = one.extensions_short; written = refl } in
    let there : BeginsCounted (after_moment s) t.extensions (after_extensions t) = record { short = two.extensions_short; written = moment.1 } in
    let extensions = one_counted (after_moment s) s.extensions t.extensions (after_extensions s) (after_extensions t) here there in
    let algorithm = same_front (4 ∷ 3 ∷ []) (4 ∷ 3 ∷ []) (after_algorithm s) (after_algorithm t) refl extensions.1 in
    let last : BeginsCounted (counted s.signature) s.signature [] = record {
      short = one.signature_short;
      written = sym (append-nil (counted s.signature));
    } in
    let theirs : BeginsCounted (counted s.signature) t.signature [] = record {
      short = two.signature_short;
      written = algorithm.1 ∙ sym (append-nil (counted t.signature));
    } in
    let signature = one_counted (counted s.signature) s.signature t.signature [] [] last theirs in
    ap (λ (x : List ℕ). stamp x s.moment s.extensions s.signature) log.0
    ∙ ap (λ (x : List ℕ). stamp t.log x s.extensions s.signature) moment.0
    ∙ ap (λ (x : List ℕ). stamp t.log t.moment x s.signature) extensions.0
    ∙ ap (λ (x : List ℕ). stamp t.log t.moment t.extensions x) signature.0
