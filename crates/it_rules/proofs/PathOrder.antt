-- Paths in the order of their bytes.
use Rattle.std.proofs.Common.{◌≡◌, ◌≢◌, ◌∙◌, ℕ, List, Ordering, Less, nat_cmp, is_eq, refl, sym, ap}
use Rattle.std.proofs.Common.{IsTrue}
use Rattle.std.specs.Cmp.Lexicographic.{slice_cmp}
use Rattle.std.proofs.lemmas.Cmp.{nat_list_cmp_total, tied_itself}
use Rattle.std.proofs.lemmas.Map.Text.{is_eq-slice_cmp}
use Rattle.std.proofs.lemmas.Slice.Eq.{bytes_eq-Decides}

abbrev pub path_cmp : List ℕ → List ℕ → Ordering
path_cmp = slice_cmp nat_cmp

pub same_path : (p q : List ℕ) → IsTrue (is_eq (path_cmp p q)) → p ≡ q
same_path p q h = (bytes_eq-Decides p q).0 (sym (is_eq-slice_cmp p q) ∙ h)

pub same_self : (p : List ℕ) → IsTrue (is_eq (path_cmp p p))
same_self p = is_eq-slice_cmp p p ∙ (bytes_eq-Decides p p).1 refl

pub not_both : (p q : List ℕ) → path_cmp p q ≡ Less → path_cmp q p ≢ Less
not_both p q below above = cc (above, nat_list_cmp_total.antisymm q p, below)

pub not_below_itself : (p q : List ℕ) → p ≡ q → path_cmp p q ≢ Less
not_below_itself p q e less = cc (less, ap (path_cmp p) (sym e), tied_itself nat_list_cmp_total p)
