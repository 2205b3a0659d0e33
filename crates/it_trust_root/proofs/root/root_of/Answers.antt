use Rattle.std.proofs.Common.{codes, rules}
use Rattle.std.proofs.lemmas.Result.{err_from_is_err_and}
use Rattle.it_borrowed.specs.Tree.{as_data}
use Rattle.it_trust_root.specs.Authority.{IsAuthority}
use Rattle.it_trust_root.specs.Log.{IsRootLog}
use Rattle.it_trust_root.specs.Root.{IsMediaType}
use Rattle.it_trust_root.specs.RootPart.{PartReads}
use Rattle.it_trust_root.specs.declared.root_part.RootPart.TheVariants.{Json}
use Rattle.it_trust_root.proofs.RootParts.{authorities_fault, before_authorities, before_certificate_logs}
use Rattle.it_trust_root.proofs.RootParts.{before_logs, certificate_logs_fault, json_first, list_parts}
use Rattle.it_trust_root.proofs.RootParts.{logs_fault, media_first}
use Rattle.it_trust_root.proofs.root.root_of.Goals as goal

pub returns-then-not-is_object : goal.returns-then-not-is_object
returns-then-not-is_object c = json_first (as_data c.args.document.now) (search rules)

pub returns-then-not-has_media_type : goal.returns-then-not-has_media_type
returns-then-not-has_media_type c =
    media_first (as_data c.args.document.now) (search rules) (search rules)

pub returns-in_err-logs : goal.returns-in_err-logs
returns-in_err-logs c =
    let d = as_data c.args.document.now in
    let p = err_from_is_err_and c.from_residual.result
    c.from_residual.ensures.1 in
    let json : PartReads d Json = search rules in
    let media : IsMediaType d = search rules in
    rw (p.1, p.2) (logs_fault d (before_logs d json media) c.in_err-logs.field-0.0
    c.in_err-logs.ensures)

pub returns-in_err-authorities : goal.returns-in_err-authorities
returns-in_err-authorities c =
    let d = as_data c.args.document.now in
    let p = err_from_is_err_and c.from_residual-in_err-authorities.result
    c.from_residual-in_err-authorities.ensures.1 in
    let json : PartReads d Json = search rules in
    let media : IsMediaType d = search rules in
    let logs = list_parts IsRootLog (codes "tlogs") d c.in_ok-logs.logs c.in_ok-logs.ensures in
    rw (p.1, p.2) (authorities_fault d (before_authorities d json media logs)
    c.in_err-authorities.field-0.0 c.in_err-authorities.ensures)

pub returns-in_err-certificate_logs : goal.returns-in_err-certificate_logs
returns-in_err-certificate_logs c =
    let d = as_data c.args.document.now in
    let p = err_from_is_err_and c.from_residual-in_err-certificate_logs.result
    c.from_residual-in_err-certificate_logs.ensures.1 in
    let json : PartReads d Json = search rules in
    let media : IsMediaType d = search rules in
    let logs = list_parts IsRootLog (codes "tlogs") d c.in_ok-logs.logs c.in_ok-logs.ensures in
    let authorities = list_parts IsAuthority (codes "certificateAuthorities") d
    c.in_ok-authorities.authorities c.in_ok-authorities.ensures in
    rw (p.1, p.2) (certificate_logs_fault d (before_certificate_logs d json media logs authorities)
    c.in_err-certificate_logs.field-0.0 c.in_err-certificate_logs.ensures)
