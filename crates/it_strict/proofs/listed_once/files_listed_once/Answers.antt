use Rattle.std.proofs.Common.{◌≡◌, ◌≢◌, ◌==◌, ◌∙◌, ◌∷◌, List, [], ℕ, length, true, false, sym, subst}
use Rattle.std.proofs.Common.{eqb-true}
use Rattle.std.proofs.lemmas.List.{nil_from_length}
use Rattle.std.proofs.lemmas.Result.{IfOk-weaker}
use Rattle.it_strict.specs.ListedOnce.{AreListedOnce}
use Rattle.it_strict.proofs.Alone.{all_once, none_once}
use Rattle.it_strict.proofs.listed_once.files_listed_once.Goals as goal
use Rattle.it_strict.proofs.listed_once.files_listed_once.Goals.{then-is_empty-via-then-is_empty}
use Rattle.it_strict.proofs.listed_once.files_listed_once.Goals.{then-is_empty-via-else-is_empty+then-is_empty-2}

is_none : (read list : List ℕ) → true ≡ (length read == 0) → read ≡ list → list ≡ []
is_none read list none same =
    sym same ∙ nil_from_length read (eqb-true (length read) 0 (sym none))

is_some : (read list : List ℕ) → false ≡ (length read == 0) → read ≡ list → list ≢ []
is_some [] list some same is = let no : false ≡ true = some in cc
is_some (byte ∷ read) list some same is = let no : byte ∷ read ≡ [] = same ∙ is in cc

pub returns-then-is_empty : goal.returns-then-is_empty
returns-then-is_empty c =
    rw c.new.ensures.items (none_once c.args.inputs.now.sums c.args.inputs.now.sums512
    c.args.documents.now.delivered c.requires (elim c.then-is_empty.branch [
      | then-is_empty-via-then-is_empty w ↦ λ both. both.0
          (is_none _ _ w.if-is_empty.ensures c.as_slice.ensures)
      | then-is_empty-via-else-is_empty+then-is_empty-2 w ↦ λ both. both.1
          (is_none _ _ w.if-is_empty-2.ensures w.as_slice-else-is_empty.ensures)
    ]))

pub returns : goal.returns
returns c =
    IfOk-weaker c.of_one_list.result _ _ (λ found same.
    subst (AreListedOnce c.args.inputs.now.sums c.args.inputs.now.sums512) (sym same)
    (all_once c.args.inputs.now.sums c.args.inputs.now.sums512 c.args.documents.now.delivered
    c.requires (is_some _ _ c.if-is_empty.ensures c.as_slice.ensures)
    (is_some _ _ c.if-is_empty-2.ensures c.as_slice-else-is_empty.ensures)))
    c.of_one_list.ensures
