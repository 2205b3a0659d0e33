-- Lines that are replaced and written, one after another.
use Rattle.std.proofs.Common.{◌≡◌, ◌∙◌, ℕ, List, [], ◌∷◌, ◌++◌, append_assoc, refl, sym, ap, subst}
use Rattle.std.proofs.lemmas.List.Elements.{AllZip-push}
use Rattle.it_digest.specs.Sums.{lines_of}
use Rattle.it_limits.proofs.LinesWritten.{AreWritten, line_ends, one_more_written}
use Rattle.it_unwrapped.specs.Lines.{AreUnwrapped, IsUnwrapped}
use Rattle.it_unwrapped.specs.inside.Added.{IsAdded}

-- some lines of a provenance were replaced, and the rest is left
pub record HasReplaced (provenance rest written : List ℕ) : Type 0 where
  pub done : List (List ℕ)
  pub replaced : List (List ℕ)
  pub lines_are : lines_of provenance ≡ done ++ lines_of rest
  pub unwrapped : AreUnwrapped done replaced
  pub are_written : AreWritten written replaced

pub replaced_none : (provenance : List ℕ) → HasReplaced provenance provenance []
replaced_none provenance = record {
  done = [];
  replaced = [];
  lines_are = refl;
  unwrapped = tt;
  are_written = λ more. refl;
}

-- one more line was replaced
pub replaced_more : (provenance rest written new : List ℕ)
    → HasReplaced provenance rest written → (line after : List ℕ)
    → lines_of rest ≡ line ∷ lines_of after → IsAdded line written new
    → HasReplaced provenance after (new ++ 10 ∷ [])
replaced_more provenance rest written new h line after split added = record {
  done = h.done ++ line ∷ [];
  replaced = h.replaced ++ added.out ∷ [];
  lines_are = h.lines_are ∙ ap (λ ls. h.done ++ ls) split
      ∙ sym (append_assoc h.done (line ∷ []) (lines_of after));
  unwrapped =
      AllZip-push IsUnwrapped h.done h.replaced line added.out h.unwrapped added.unwrapped;
  are_written =
      subst (λ bytes. AreWritten (bytes ++ 10 ∷ []) (h.replaced ++ added.out ∷ []))
      (sym added.new_is) (one_more_written written h.replaced added.out h.are_written
      (added.one_line (λ more. line_ends rest line (lines_of after) more split)));
}
