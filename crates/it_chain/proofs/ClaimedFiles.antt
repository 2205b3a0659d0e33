-- The files that are claimed for a step, and the others.
use Rattle.std.proofs.Common.{◌≡◌, ◌<◌, ◌+◌, ℕ, List, [], ◌∷◌, ◌++◌, take, get_or, length}
use Rattle.std.proofs.Common.{Bool, true, false, if◌then◌else◌, bytes_eq, Some, ⊎_elim}
use Rattle.std.proofs.Common.{Contains, sym, ap, subst, ◌∙◌}
use Rattle.std.proofs.lemmas.List.{take_more}
use Rattle.std.proofs.lemmas.Option.{slice_get-get_or}
use Rattle.std.proofs.lemmas.Slice.Eq.{bytes_eq-Decides}
use Rattle.it_dsse.proofs.Keeping.{keep_last, pass_last}
use Rattle.it_dsse.specs.Signed.{AreThose}
use Rattle.it_chain.specs.inside.ClaimedFiles.{AreClaimed, files_at}
use Rattle.it_chain.specs.ClaimedFiles.{IsClaimed}
use Rattle.it_chain.specs.declared.bundle.File.{File}
use Rattle.it_chain.proofs.ClaimedNames.{one_step}
use Rattle.it_chain.proofs.PlaceLists.{place_more}
use Rattle.it_chain.proofs.Members.{in_head, in_tail, in_cases, in_none}

module _ {X : Type 0} (P : X → Type 0) where
  pub of_those : (xs kept : List X) → AreThose P xs kept → (x : X) → Contains kept x → Contains xs x
      × P x
  of_those [] kept are x c = absurd (in_none x (subst (λ ys. Contains ys x) are c))
  of_those (y ∷ ys) kept are x c = ⊎_elim
      (λ k. ⊎_elim (λ same. (subst (Contains (y ∷ ys)) same (in_head y ys), subst P same k.0))
      (λ later. let r = of_those ys k.1.0 k.1.2 x later in (in_tail y ys x r.0, r.1))
      (in_cases y k.1.0 x (subst (λ zs. Contains zs x) k.1.1 c)))
      (λ k. let r = of_those ys kept k.1 x c in (in_tail y ys x r.0, r.1)) are

  pub in_those : (xs kept : List X) → AreThose P xs kept → (x : X) → Contains xs x → P x
      → Contains kept x
  in_those [] kept are x c p = absurd (in_none x c)
  in_those (y ∷ ys) kept are x c p = ⊎_elim
      (λ k. subst (λ zs. Contains zs x) (sym k.1.1)
      (⊎_elim (λ same. subst (Contains (y ∷ k.1.0)) same (in_head y k.1.0))
      (λ later. in_tail y k.1.0 x (in_those ys k.1.0 k.1.2 x later p)) (in_cases y ys x c)))
      (λ k. ⊎_elim (λ same. absurd (k.0 (subst P (sym same) p)))
      (λ later. in_those ys kept k.1 x later p) (in_cases y ys x c)) are

-- ---- the places of the files that are claimed, one file more
module _ (files : List File) (i : ℕ) (file : File) (below : i < length files)
    (here : file ≡ get_or files i file) where
  one_more : take (i + 1) files ≡ take i files ++ file ∷ []
  one_more = take_more files i file below ∙ ap (λ f. take i files ++ f ∷ []) (sym here)

  file_more : (places : List ℕ) → files_at files (places ++ i ∷ []) ≡ files_at files places
      ++ file ∷ []
  file_more places = place_more files places i file (slice_get-get_or files i file below
      ∙ ap Some (sym here))

  module _ (step : List ℕ) (places : List ℕ)
      (before : AreClaimed step (take i files) (files_at files places)) where
    claimed_last : IsClaimed step file.name → AreClaimed step (take (i + 1) files)
        (files_at files (places ++ i ∷ []))
    claimed_last claimed =
        rw (one_more, file_more places) (keep_last (λ (f : File). IsClaimed step f.name)
        (take i files) (files_at files places) file before claimed)

    pub passed_by : ¬ IsClaimed step file.name → AreClaimed step (take (i + 1) files)
        (files_at files places)
    passed_by unclaimed =
        rw one_more (pass_last (λ (f : File). IsClaimed step f.name) (take i files)
        (files_at files places) file before unclaimed)

  -- a file that is claimed for one step is claimed for no other
  pub claimed_or : (step other : List ℕ) (places more : List ℕ) (same : Bool)
      → IsClaimed step file.name → bytes_eq other step ≡ same
      → more ≡ (if same then places ++ i ∷ [] else places)
      → AreClaimed other (take i files) (files_at files places)
      → AreClaimed other (take (i + 1) files) (files_at files more)
  claimed_or step other places more true claimed is e before =
      let same : other ≡ step = (bytes_eq-Decides other step).0 is in
      rw e (claimed_last other places before
      (subst (λ s. IsClaimed s file.name) (sym same) claimed))
  claimed_or step other places more false claimed is e before =
      rw e (passed_by other places before
      (λ c. let same : bytes_eq other step ≡ true = (bytes_eq-Decides other step).1
      (one_step file.name other step c claimed) in cc))
