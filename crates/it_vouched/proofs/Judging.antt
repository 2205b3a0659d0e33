-- Lines that are judged one after another.
use Rattle.std.proofs.Common.{◌≡◌, ◌∙◌, ℕ, ◌+◌, ◌<◌, ◌≤◌, List, [], ◌∷◌, ◌++◌, length, map}
use Rattle.std.proofs.Common.{Option, Some, None, MatchOption, append_assoc, arith, ap, refl, sym, subst}
use Rattle.std.specs.List.{cons_option}
use Rattle.std.proofs.lemmas.List.{length-append}
use Rattle.it_base.specs.Finds.{Finds}
use Rattle.it_bundle.specs.Bundle.{BundleOf}
use Rattle.it_bundle.specs.declared.bundle.SigstoreBundle.{SigstoreBundle}
use Rattle.it_bundle.proofs.Same.{bundle_same}
use Rattle.it_digest.specs.Sums.{lines_of}
use Rattle.it_dsse.specs.Signed.{message_of}
use Rattle.it_identity.specs.declared.identity.Identity.{Identity}
use Rattle.it_trust_root.specs.declared.root.TrustedRoot.{TrustedRoot}
use Rattle.it_vouches.specs.Found.{AreFound}
use Rattle.it_vouches.specs.Vouches.{Vouches, VouchesAt}
use Rattle.it_vouches.specs.declared.shortfall.Shortfall.{Shortfall}
use Rattle.it_vouches.specs.declared.voucher.Voucher.{Voucher}
use Rattle.it_vouches.proofs.Found.{found_more}
use Rattle.it_vouched.specs.Line.{AreVouched, IsVouched, VouchesForNone}
use Rattle.it_vouched.specs.Silent.{AreSilent, IsSilent, LineMisses, MissesNothing, Numbered, numbered_from}
use Rattle.it_vouched.specs.declared.silent_line.SilentLine.{SilentLine}
use Rattle.it_vouched.specs.declared.vouched.Vouched.{Vouched}
use Rattle.it_vouched.proofs.Lines.{as_found, no_signature}

-- a bundle that vouches for an identity, and the message and the one signature of its envelope
pub found_with : (root : TrustedRoot) (line : List ℕ) (bundle : SigstoreBundle) (voucher : Voucher) → BundleOf line bundle
    → VouchesAt root bundle voucher.identity voucher.time → (found : Option Vouched)
    → MatchOption found
    ((bytes : List ℕ) → map (λ s. s.sig) bundle.envelope.signatures ≡ bytes ∷ [] → ⊥)
    (λ v. (v.identity ≡ voucher.identity) × (v.time ≡ voucher.time) × (v.message ≡ message_of bundle.envelope)
    × (map (λ s. s.sig) bundle.envelope.signatures ≡ v.signature ∷ []))
    → Finds (IsVouched root line) found
found_with root line bundle voucher is told None none = no_signature root line bundle voucher.identity told.vouches none
found_with root line bundle voucher is told (Some v) parts =
    let by : VouchesAt root bundle v.identity v.time =
    subst (VouchesAt root bundle v.identity) (sym parts.1)
    (subst (λ (i : Identity). VouchesAt root bundle i voucher.time) (sym parts.0) told) in
    record {
      line_vouches = record {
        bundle = bundle;
        bundle_is = is;
        vouches = by.vouches;
        message_is = parts.2;
        one_signature = parts.3;
      };
      by_entry = by;
    }

-- a bundle that vouches for somebody misses nothing
pub vouches_for_one : (root : TrustedRoot) (line : List ℕ) (bundle : SigstoreBundle) (identity : Identity) → BundleOf line bundle
    → Vouches root bundle identity → MissesNothing root line
vouches_for_one root line bundle identity is vouches other other_is none =
    none identity (subst (λ (b : SigstoreBundle). Vouches root b identity)
    (bundle_same line bundle other is other_is) vouches)

-- the lines so far, whose number is this, were judged, and the rest follows
pub record HasJudged (root : TrustedRoot) (provenance rest : List ℕ) (number : ℕ) (all : List Vouched) (silent : List SilentLine)
    : Type 0 where
  pub done : List (List ℕ)
  pub lines_are : lines_of provenance ≡ done ++ lines_of rest
  pub vouched : AreVouched root done all
  pub number_is : number ≡ length done
  pub are_silent : AreSilent root done silent
  pub in_range : number + length rest ≤ length provenance

-- the number of one line more
numbered_more : (n : ℕ) (done : List (List ℕ)) (line : List ℕ)
    → numbered_from n (done ++ line ∷ []) ≡ numbered_from n done ++ record { number = n + length done; line = line } ∷ []
numbered_more n [] line =
    let here : n ≡ n + 0 = omega arith in
    ap (λ (k : ℕ). record { number = k; line = line } ∷ []) here
numbered_more n (first ∷ done) line =
    let later : (n + 1) + length done ≡ n + length (first ∷ done) = omega arith in
    ap (λ (ls : List Numbered). record { number = n; line = first } ∷ ls) (numbered_more (n + 1) done line
    ∙ ap (λ (k : ℕ). numbered_from (n + 1) done ++ record { number = k; line = line } ∷ []) later)

-- the line of a number, where it misses a condition
silent_where : (root : TrustedRoot) (line : List ℕ) (n : ℕ) (shortfall : Option Shortfall) (found : Option SilentLine)
    → MatchOption shortfall (found ≡ None) (λ missed. found ≡ Some (record { line = n; shortfall = missed }))
    → MatchOption shortfall (MissesNothing root line) (λ missed. LineMisses root line missed)
    → MatchOption found (MissesNothing root line) (λ s. IsSilent root (record { number = n; line = line }) s)
silent_where root line n None found is misses =
    subst (λ (o : Option SilentLine). MatchOption o (MissesNothing root line)
    (λ s. IsSilent root (record { number = n; line = line }) s)) (sym is) misses
silent_where root line n (Some missed) found is misses =
    subst (λ (o : Option SilentLine). MatchOption o (MissesNothing root line)
    (λ s. IsSilent root (record { number = n; line = line }) s)) (sym is)
    (record { number_is = λ i. n; misses = misses })

module _ (root : TrustedRoot) (provenance rest : List ℕ) (number : ℕ) (all : List Vouched) (silent : List SilentLine)
    (h : HasJudged root provenance rest number all silent) (line after : List ℕ)
    (split : lines_of rest ≡ line ∷ lines_of after) (shorter : length after < length rest) where
  -- its number counts from 1
  here_numbered : numbered_from 1 h.done ++ record { number = number + 1; line = line } ∷ []
      ≡ numbered_from 1 (h.done ++ line ∷ [])
  here_numbered =
      let count : number + 1 ≡ 1 + length h.done = omega (arith, h.number_is) in
      ap (λ (k : ℕ). numbered_from 1 h.done ++ record { number = k; line = line } ∷ []) count
      ∙ sym (numbered_more 1 h.done line)

  -- one line more
  pub judged_more : (found : Option Vouched) → Finds (IsVouched root line) found
      → (shortfall : Option Shortfall)
      → MatchOption shortfall (MissesNothing root line) (λ missed. LineMisses root line missed) → (here : Option SilentLine)
      → MatchOption shortfall (here ≡ None) (λ missed. here ≡ Some (record { line = number + 1; shortfall = missed }))
      → HasJudged root provenance after (number + 1) (all ++ cons_option found []) (silent ++ cons_option here [])
  judged_more found finds shortfall misses here is = record {
    done = h.done ++ line ∷ [];
    lines_are = h.lines_are ∙ ap (λ ls. h.done ++ ls) split ∙ sym (append_assoc h.done (line ∷ []) (lines_of after));
    vouched = found_more (VouchesForNone root) (IsVouched root) h.done line all found h.vouched (as_found root line found finds);
    number_is = ap (λ n. n + 1) h.number_is ∙ sym (length-append h.done (line ∷ []));
    are_silent =
        subst (λ (ls : List Numbered). AreFound (λ n. MissesNothing root n.line) (IsSilent root) ls (silent ++ cons_option here []))
        here_numbered (found_more (λ n. MissesNothing root n.line) (IsSilent root) (numbered_from 1 h.done)
        (record { number = number + 1; line = line }) silent here h.are_silent
        (silent_where root line (number + 1) shortfall here is misses));
    in_range = (let range = h.in_range in omega (arith, range, shorter));
  }

-- bytes that were judged as one line
pub one_vouched : (root : TrustedRoot) (line : List ℕ) (found : Option Vouched) → Finds (IsVouched root line) found
    → AreVouched root (line ∷ []) (cons_option found [])
one_vouched root line found finds =
    found_more (VouchesForNone root) (IsVouched root) [] line [] found refl (as_found root line found finds)

pub one_silent : (root : TrustedRoot) (line : List ℕ) (shortfall : Option Shortfall)
    → MatchOption shortfall (MissesNothing root line) (λ missed. LineMisses root line missed) → (here : Option SilentLine)
    → MatchOption shortfall (here ≡ None) (λ missed. here ≡ Some (record { line = 1; shortfall = missed }))
    → AreSilent root (line ∷ []) (cons_option here [])
one_silent root line shortfall misses here is =
    found_more (λ n. MissesNothing root n.line) (IsSilent root) [] (record { number = 1; line = line }) [] here refl
    (silent_where root line 1 shortfall here is misses)
