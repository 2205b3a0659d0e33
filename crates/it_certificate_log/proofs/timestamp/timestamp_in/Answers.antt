use Rattle.std.proofs.Common.{◌∙◌, [], ◌∷◌, refl, sym}
use Rattle.std.proofs.lemmas.List.{nil_from_length}
use Rattle.it_der.proofs.Lengths.{no_bytes, some_bytes}
use Rattle.it_certificate.proofs.Tags.{differs, agrees}
use Rattle.it_certificate_log.proofs.Stamping.{ReadsVersion, ReadsLog, ReadsMoment, ReadsExtensions, ReadsAlgorithm}
use Rattle.it_certificate_log.proofs.Stamping.{after_version, after_log, after_moment, after_extensions, after_algorithm}
use Rattle.it_certificate_log.proofs.Stamping.{version_of, log_of, extensions_begin, extensions_of, algorithm_of}
use Rattle.it_certificate_log.proofs.Stamping.{signature_begins, nothing_left, stamp_is}
use Rattle.it_certificate_log.proofs.timestamp.timestamp_in.Goals as goal

pub returns-in_err-version : goal.returns-in_err-version
returns-in_err-version c =
    rw c.from_residual.ensures (λ s is. c.in_err-version.ensures (0 ∷ []) (after_version s) refl is.written)

pub returns-then-ne : goal.returns-then-ne
returns-then-ne c =
    let v : ReadsVersion c.args.item.now c.in_ok-version.version.bytes.now c.in_ok-version.version.rest.now = record {
      size = c.in_ok-version.ensures.0;
      written = c.in_ok-version.ensures.1;
    } in
    λ s is. differs c.in_ok-version.version.bytes.now c.as_slice.result.now c.ne.result c.ne.ensures c.if-ne.true
    ((version_of c.args.item.now c.in_ok-version.version.bytes.now c.in_ok-version.version.rest.now s v is).0 ∙ sym c.as_slice.ensures)

pub returns-in_err-log : goal.returns-in_err-log
returns-in_err-log c =
    let v : ReadsVersion c.args.item.now c.in_ok-version.version.bytes.now c.in_ok-version.version.rest.now = record {
      size = c.in_ok-version.ensures.0;
      written = c.in_ok-version.ensures.1;
    } in
    rw c.from_residual-in_err-log.ensures (λ s is. c.in_err-log.ensures s.log (after_log s) is.log_size
    (version_of c.args.item.now c.in_ok-version.version.bytes.now c.in_ok-version.version.rest.now s v is).1)

pub returns-in_err-moment : goal.returns-in_err-moment
returns-in_err-moment c =
    let v : ReadsVersion c.args.item.now c.in_ok-version.version.bytes.now c.in_ok-version.version.rest.now = record {
      size = c.in_ok-version.ensures.0;
      written = c.in_ok-version.ensures.1;
    } in
    let l : ReadsLog c.args.item.now c.in_ok-version.version.bytes.now c.in_ok-log.log.bytes.now c.in_ok-log.log.rest.now = record {
      after = c.in_ok-version.version.rest.now;
      before = v;
      size = c.in_ok-log.ensures.0;
      written = c.in_ok-log.ensures.1;
    } in
    rw c.from_residual-in_err-moment.ensures (λ s is. c.in_err-moment.ensures s.moment (after_moment s) is.moment_size
    (log_of c.args.item.now c.in_ok-version.version.bytes.now c.in_ok-log.log.bytes.now c.in_ok-log.log.rest.now s l is).1)

pub returns-in_err-extensions : goal.returns-in_err-extensions
returns-in_err-extensions c =
    let v : ReadsVersion c.args.item.now c.in_ok-version.version.bytes.now c.in_ok-version.version.rest.now = record {
      size = c.in_ok-version.ensures.0;
      written = c.in_ok-version.ensures.1;
    } in
    let l : ReadsLog c.args.item.now c.in_ok-version.version.bytes.now c.in_ok-log.log.bytes.now c.in_ok-log.log.rest.now = record {
      after = c.in_ok-version.version.rest.now;
      before = v;
      size = c.in_ok-log.ensures.0;
      written = c.in_ok-log.ensures.1;
    } in
    let m : ReadsMoment c.args.item.now c.in_ok-version.version.bytes.now c.in_ok-log.log.bytes.now c.in_ok-moment.moment.bytes.now c.in_ok-moment.moment.rest.now = record {
      after = c.in_ok-log.log.rest.now;
      before = l;
      size = c.in_ok-moment.ensures.0;
      written = c.in_ok-moment.ensures.1;
    } in
    rw c.from_residual-in_err-extensions.ensures (λ s is. c.in_err-extensions.ensures s.extensions (after_extensions s)
    (extensions_begin c.args.item.now c.in_ok-version.version.bytes.now c.in_ok-log.log.bytes.now c.in_ok-moment.moment.bytes.now c.in_ok-moment.moment.rest.now s m is))

pub returns-in_err-algorithm : goal.returns-in_err-algorithm
returns-in_err-algorithm c =
    let v : ReadsVersion c.args.item.now c.in_ok-version.version.bytes.now c.in_ok-version.version.rest.now = record {
      size = c.in_ok-version.ensures.0;
      written = c.in_ok-version.ensures.1;
    } in
    let l : ReadsLog c.args.item.now c.in_ok-version.version.bytes.now c.in_ok-log.log.bytes.now c.in_ok-log.log.rest.now = record {
      after = c.in_ok-version.version.rest.now;
      before = v;
      size = c.in_ok-log.ensures.0;
      written = c.in_ok-log.ensures.1;
    } in
    let m : ReadsMoment c.args.item.now c.in_ok-version.version.bytes.now c.in_ok-log.log.bytes.now c.in_ok-moment.moment.bytes.now c.in_ok-moment.moment.rest.now = record {
      after = c.in_ok-log.log.rest.now;
      before = l;
      size = c.in_ok-moment.ensures.0;
      written = c.in_ok-moment.ensures.1;
    } in
    let x : ReadsExtensions c.args.item.now c.in_ok-version.version.bytes.now c.in_ok-log.log.bytes.now c.in_ok-moment.moment.bytes.now c.in_ok-extensions.extensions.bytes.now c.in_ok-extensions.extensions.rest.now = record {
      after = c.in_ok-moment.moment.rest.now;
      before = m;
      begins = c.in_ok-extensions.ensures;
    } in
    rw c.from_residual-in_err-algorithm.ensures (λ s is. c.in_err-algorithm.ensures (4 ∷ 3 ∷ []) (after_algorithm s) refl
    (extensions_of c.args.item.now c.in_ok-version.version.bytes.now c.in_ok-log.log.bytes.now c.in_ok-moment.moment.bytes.now c.in_ok-extensions.extensions.bytes.now c.in_ok-extensions.extensions.rest.now s x is).1)

pub returns-then-ne-2 : goal.returns-then-ne-2
returns-then-ne-2 c =
    let v : ReadsVersion c.args.item.now c.in_ok-version.version.bytes.now c.in_ok-version.version.rest.now = record {
      size = c.in_ok-version.ensures.0;
      written = c.in_ok-version.ensures.1;
    } in
    let l : ReadsLog c.args.item.now c.in_ok-version.version.bytes.now c.in_ok-log.log.bytes.now c.in_ok-log.log.rest.now = record {
      after = c.in_ok-version.version.rest.now;
      before = v;
      size = c.in_ok-log.ensures.0;
      written = c.in_ok-log.ensures.1;
    } in
    let m : ReadsMoment c.args.item.now c.in_ok-version.version.bytes.now c.in_ok-log.log.bytes.now c.in_ok-moment.moment.bytes.now c.in_ok-moment.moment.rest.now = record {
      after = c.in_ok-log.log.rest.now;
      before = l;
      size = c.in_ok-moment.ensures.0;
      written = c.in_ok-moment.ensures.1;
    } in
    let x : ReadsExtensions c.args.item.now c.in_ok-version.version.bytes.now c.in_ok-log.log.bytes.now c.in_ok-moment.moment.bytes.now c.in_ok-extensions.extensions.bytes.now c.in_ok-extensions.extensions.rest.now = record {
      after = c.in_ok-moment.moment.rest.now;
      before = m;
      begins = c.in_ok-extensions.ensures;
    } in
    let a : ReadsAlgorithm c.args.item.now c.in_ok-version.version.bytes.now c.in_ok-log.log.bytes.now c.in_ok-moment.moment.bytes.now c.in_ok-extensions.extensions.bytes.now c.in_ok-algorithm.algorithm.bytes.now c.in_ok-algorithm.algorithm.rest.now = record {
      after = c.in_ok-extensions.extensions.rest.now;
      before = x;
      size = c.in_ok-algorithm.ensures.0;
      written = c.in_ok-algorithm.ensures.1;
    } in
    λ s is. differs c.in_ok-algorithm.algorithm.bytes.now c.as_slice-2.result.now c.ne-2.result c.ne-2.ensures c.if-ne-2.true
    ((algorithm_of c.args.item.now c.in_ok-version.version.bytes.now c.in_ok-log.log.bytes.now c.in_ok-moment.moment.bytes.now c.in_ok-extensions.extensions.bytes.now c.in_ok-algorithm.algorithm.bytes.now c.in_ok-algorithm.algorithm.rest.now s a is).0 ∙ sym c.as_slice-2.ensures)

pub returns-in_err-signature : goal.returns-in_err-signature
returns-in_err-signature c =
    let v : ReadsVersion c.args.item.now c.in_ok-version.version.bytes.now c.in_ok-version.version.rest.now = record {
      size = c.in_ok-version.ensures.0;
      written = c.in_ok-version.ensures.1;
    } in
    let l : ReadsLog c.args.item.now c.in_ok-version.version.bytes.now c.in_ok-log.log.bytes.now c.in_ok-log.log.rest.now = record {
      after = c.in_ok-version.version.rest.now;
      before = v;
      size = c.in_ok-log.ensures.0;
      written = c.in_ok-log.ensures.1;
    } in
    let m : ReadsMoment c.args.item.now c.in_ok-version.version.bytes.now c.in_ok-log.log.bytes.now c.in_ok-moment.moment.bytes.now c.in_ok-moment.moment.rest.now = record {
      after = c.in_ok-log.log.rest.now;
      before = l;
      size = c.in_ok-moment.ensures.0;
      written = c.in_ok-moment.ensures.1;
    } in
    let x : ReadsExtensions c.args.item.now c.in_ok-version.version.bytes.now c.in_ok-log.log.bytes.now c.in_ok-moment.moment.bytes.now c.in_ok-extensions.extensions.bytes.now c.in_ok-extensions.extensions.rest.now = record {
      after = c.in_ok-moment.moment.rest.now;
      before = m;
      begins = c.in_ok-extensions.ensures;
    } in
    let a : ReadsAlgorithm c.args.item.now c.in_ok-version.version.bytes.now c.in_ok-log.log.bytes.now c.in_ok-moment.moment.bytes.now c.in_ok-extensions.extensions.bytes.now c.in_ok-algorithm.algorithm.bytes.now c.in_ok-algorithm.algorithm.rest.now = record {
      after = c.in_ok-extensions.extensions.rest.now;
      before = x;
      size = c.in_ok-algorithm.ensures.0;
      written = c.in_ok-algorithm.ensures.1;
    } in
    rw c.from_residual-in_err-signature.ensures (λ s is. c.in_err-signature.ensures s.signature []
    (signature_begins c.args.item.now c.in_ok-version.version.bytes.now c.in_ok-log.log.bytes.now c.in_ok-moment.moment.bytes.now c.in_ok-extensions.extensions.bytes.now c.in_ok-algorithm.algorithm.bytes.now c.in_ok-algorithm.algorithm.rest.now s a is))

pub returns-then-not-is_empty : goal.returns-then-not-is_empty
returns-then-not-is_empty c =
    let v : ReadsVersion c.args.item.now c.in_ok-version.version.bytes.now c.in_ok-version.version.rest.now = record {
      size = c.in_ok-version.ensures.0;
      written = c.in_ok-version.ensures.1;
    } in
    let l : ReadsLog c.args.item.now c.in_ok-version.version.bytes.now c.in_ok-log.log.bytes.now c.in_ok-log.log.rest.now = record {
      after = c.in_ok-version.version.rest.now;
      before = v;
      size = c.in_ok-log.ensures.0;
      written = c.in_ok-log.ensures.1;
    } in
    let m : ReadsMoment c.args.item.now c.in_ok-version.version.bytes.now c.in_ok-log.log.bytes.now c.in_ok-moment.moment.bytes.now c.in_ok-moment.moment.rest.now = record {
      after = c.in_ok-log.log.rest.now;
      before = l;
      size = c.in_ok-moment.ensures.0;
      written = c.in_ok-moment.ensures.1;
    } in
    let x : ReadsExtensions c.args.item.now c.in_ok-version.version.bytes.now c.in_ok-log.log.bytes.now c.in_ok-moment.moment.bytes.now c.in_ok-extensions.extensions.bytes.now c.in_ok-extensions.extensions.rest.now = record {
      after = c.in_ok-moment.moment.rest.now;
      before = m;
      begins = c.in_ok-extensions.ensures;
    } in
    let a : ReadsAlgorithm c.args.item.now c.in_ok-version.version.bytes.now c.in_ok-log.log.bytes.now c.in_ok-moment.moment.bytes.now c.in_ok-extensions.extensions.bytes.now c.in_ok-algorithm.algorithm.bytes.now c.in_ok-algorithm.algorithm.rest.now = record {
      after = c.in_ok-extensions.extensions.rest.now;
      before = x;
      size = c.in_ok-algorithm.ensures.0;
      written = c.in_ok-algorithm.ensures.1;
    } in
    λ s is. nothing_left c.args.item.now c.in_ok-version.version.bytes.now c.in_ok-log.log.bytes.now c.in_ok-moment.moment.bytes.now c.in_ok-extensions.extensions.bytes.now c.in_ok-algorithm.algorithm.bytes.now c.in_ok-algorithm.algorithm.rest.now
    c.in_ok-signature.signature.bytes.now c.in_ok-signature.signature.rest.now s a c.in_ok-signature.ensures
    (some_bytes c.in_ok-signature.signature.rest.now c.is_empty.result c.is_empty.ensures c.if-not-is_empty.true) is

pub returns : goal.returns
returns c =
    let v : ReadsVersion c.args.item.now c.in_ok-version.version.bytes.now c.in_ok-version.version.rest.now = record {
      size = c.in_ok-version.ensures.0;
      written = c.in_ok-version.ensures.1;
    } in
    let l : ReadsLog c.args.item.now c.in_ok-version.version.bytes.now c.in_ok-log.log.bytes.now c.in_ok-log.log.rest.now = record {
      after = c.in_ok-version.version.rest.now;
      before = v;
      size = c.in_ok-log.ensures.0;
      written = c.in_ok-log.ensures.1;
    } in
    let m : ReadsMoment c.args.item.now c.in_ok-version.version.bytes.now c.in_ok-log.log.bytes.now c.in_ok-moment.moment.bytes.now c.in_ok-moment.moment.rest.now = record {
      after = c.in_ok-log.log.rest.now;
      before = l;
      size = c.in_ok-moment.ensures.0;
      written = c.in_ok-moment.ensures.1;
    } in
    let x : ReadsExtensions c.args.item.now c.in_ok-version.version.bytes.now c.in_ok-log.log.bytes.now c.in_ok-moment.moment.bytes.now c.in_ok-extensions.extensions.bytes.now c.in_ok-extensions.extensions.rest.now = record {
      after = c.in_ok-moment.moment.rest.now;
      before = m;
      begins = c.in_ok-extensions.ensures;
    } in
    let a : ReadsAlgorithm c.args.item.now c.in_ok-version.version.bytes.now c.in_ok-log.log.bytes.now c.in_ok-moment.moment.bytes.now c.in_ok-extensions.extensions.bytes.now c.in_ok-algorithm.algorithm.bytes.now c.in_ok-algorithm.algorithm.rest.now = record {
      after = c.in_ok-extensions.extensions.rest.now;
      before = x;
      size = c.in_ok-algorithm.ensures.0;
      written = c.in_ok-algorithm.ensures.1;
    } in
    stamp_is c.args.item.now c.in_ok-version.version.bytes.now c.in_ok-log.log.bytes.now c.in_ok-moment.moment.bytes.now c.in_ok-extensions.extensions.bytes.now c.in_ok-algorithm.algorithm.bytes.now c.in_ok-algorithm.algorithm.rest.now
    c.in_ok-signature.signature.bytes.now c.in_ok-signature.signature.rest.now a c.in_ok-signature.ensures
    (agrees c.in_ok-version.version.bytes.now c.as_slice.result.now c.ne.result c.ne.ensures c.if-ne.false ∙ c.as_slice.ensures)
    (agrees c.in_ok-algorithm.algorithm.bytes.now c.as_slice-2.result.now c.ne-2.result c.ne-2.ensures c.if-ne-2.false ∙ c.as_slice-2.ensures)
    (nil_from_length c.in_ok-signature.signature.rest.now (no_bytes c.in_ok-signature.signature.rest.now c.is_empty.result c.is_empty.ensures c.if-not-is_empty.false))
