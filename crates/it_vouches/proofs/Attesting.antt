-- What attests a leaf, by the authorities of a trusted root.
use Rattle.std.proofs.Common.{ℕ, List, ◌∷◌, Any, Option, Some, None, MatchOption, map, inl, inr, sym, subst}
use Rattle.it_certificate.specs.Certificate.{Facts, facts_of}
use Rattle.it_issued.specs.Issued.{IsIssued, IsUsable}
use Rattle.it_issued.specs.declared.authority.UsableAuthority.{UsableAuthority}
use Rattle.it_issued.specs.declared.shortfall.IssueShortfall.TheVariants.{Name}
use Rattle.it_issued.proofs.Reading.{one_way}
use Rattle.it_log.specs.declared.window.Window.{Window}
use Rattle.it_trust_root.specs.declared.root.TrustedRoot.{TrustedRoot}
use Rattle.it_vouches.specs.Furthest.{IsMissedByOne}
use Rattle.it_vouches.specs.IssuerMissed.{IsMissedByAuthority, IsMissedByLeaf, MissesWith}
use Rattle.it_vouches.specs.Vouches.{IsAttested}
use Rattle.it_vouches.specs.declared.issuer_shortfall.IssuerShortfall.{IssuerShortfall}
use Rattle.it_vouches.specs.declared.issuer_shortfall.IssuerShortfall.TheVariants.{Issue}
use Rattle.it_vouches.specs.inside.Attested.{IsIssuedBy, IsMissedBy, IsMissedByEach}
use Rattle.it_vouches.specs.inside.Shows.{LacksIssuer}
use Rattle.it_vouches.specs.inside.Usable.{AreUsable}
use Rattle.it_vouches.proofs.Loops.{any_of_contains, contains_of_any}
use Rattle.it_vouches.proofs.Usable.{of_read, read_of}

module _ (root : TrustedRoot) (us : List UsableAuthority) (leaf : Facts) (moment : ℕ) (are : AreUsable root.authorities us) where
  -- one that issued it
  by_one : Any (IsIssuedBy root.certificate_logs leaf moment) us → IsAttested root leaf moment
  by_one any =
      let by = any.4 in
      let of = read_of root.authorities us any.1 are (contains_of_any (IsIssuedBy root.certificate_logs leaf moment) us any) in
      record {
        authority = of.element;
        issuer = by.issuer;
        others = by.others;
        is_authority = of.among;
        usable = subst (IsUsable of.element) by.certificates_are of.is.certificates;
        issued = subst (λ (w : Window). IsIssued (by.issuer ∷ by.others) w leaf moment) of.is.window by.issued;
        promised = by.promised;
      }

  one_of : IsAttested root leaf moment → Any (IsIssuedBy root.certificate_logs leaf moment) us
  one_of is =
      let among = of_read root.authorities us is.authority (is.issuer ∷ is.others) are is.is_authority is.usable in
      let certificates = one_way is.authority.certificates (map facts_of among.found.certificates.items) (is.issuer ∷ is.others)
      among.is.certificates.read is.usable.read in
      any_of_contains (IsIssuedBy root.certificate_logs leaf moment) us among.found among.among (record {
        issuer = is.issuer;
        others = is.others;
        certificates_are = certificates;
        issued = subst (λ (w : Window). IsIssued (is.issuer ∷ is.others) w leaf moment) (sym among.is.window) is.issued;
        promised = is.promised;
      })

  -- a condition that is missed with one
  missed_with_one : (s : IssuerShortfall) → IsMissedByOne (Issue Name) (IsMissedBy root.certificate_logs leaf moment) us s
      → IsMissedByLeaf root leaf moment s
  missed_with_one s (inl is) = inl is
  missed_with_one s (inr any) =
      let u = any.1 in
      let of = read_of root.authorities us u are (contains_of_any (λ x. IsMissedBy root.certificate_logs leaf moment x s) us any) in
      inr (any_of_contains (λ a. IsMissedByAuthority root.certificate_logs leaf moment a s) root.authorities of.element of.among
      (record {
        certificates = map facts_of u.certificates.items;
        usable = of.is.certificates;
        misses = subst
            (λ (w : Window). MissesWith root.certificate_logs leaf moment w (map facts_of u.certificates.items) s) of.is.window any.4;
      }))

  one_missed_with : (s : IssuerShortfall) → IsMissedByLeaf root leaf moment s
      → IsMissedByOne (Issue Name) (IsMissedBy root.certificate_logs leaf moment) us s
  one_missed_with s (inl is) = inl is
  one_missed_with s (inr any) =
      let a = any.1 in
      let m = any.4 in
      let among = of_read root.authorities us a m.certificates are
      (contains_of_any (λ x. IsMissedByAuthority root.certificate_logs leaf moment x s) root.authorities any) m.usable in
      let certificates = one_way a.certificates (map facts_of among.found.certificates.items) m.certificates
      among.is.certificates.read m.usable.read in
      inr (any_of_contains (λ x. IsMissedBy root.certificate_logs leaf moment x s) us among.found among.among
      (subst (λ (fs : List Facts). MissesWith root.certificate_logs leaf moment among.found.window fs s) (sym certificates)
      (subst (λ (w : Window). MissesWith root.certificate_logs leaf moment w m.certificates s) (sym among.is.window) m.misses)))

  pub attested_is : (o : Option IssuerShortfall)
      → MatchOption o (Any (IsIssuedBy root.certificate_logs leaf moment) us) (IsMissedByEach root.certificate_logs leaf moment us)
      → MatchOption o (IsAttested root leaf moment) (LacksIssuer root leaf moment)
  attested_is None any = by_one any
  attested_is (Some s) each = record {
    no_issuer = λ is. each.none (one_of is);
    furthest = record {
      is_missed = missed_with_one s each.furthest.is_missed;
      furthest = λ t missed. each.furthest.furthest t (one_missed_with t missed);
    };
  }
