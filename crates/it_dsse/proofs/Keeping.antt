-- Lists that keep those elements of which a fact holds.
use Rattle.std.proofs.Common.{◌≡◌, ℕ, ◌+◌, ◌<◌, inl, inr, List, [], ◌∷◌, ◌++◌, length, map, take}
use Rattle.std.proofs.Common.{get_or, refl, sym, ap, ◌∙◌}
use Rattle.std.proofs.lemmas.List.{take_more, map-append}
use Rattle.it_dsse.specs.Signed.{AreThose}

-- the last element is kept
pub keep_last : {X : Type 0} (P : X → Type 0) (xs kept : List X) (x : X) → AreThose P xs kept → P x
    → AreThose P (xs ++ x ∷ []) (kept ++ x ∷ [])
keep_last P [] kept x h p = inl (p, ([], ap (λ l. l ++ x ∷ []) h, refl))
keep_last P (y ∷ xs) kept x (inl h) p =
    inl (h.0, (h.1.0 ++ x ∷ [], ap (λ l. l ++ x ∷ []) h.1.1, keep_last P xs h.1.0 x h.1.2 p))
keep_last P (y ∷ xs) kept x (inr h) p = inr (h.0, keep_last P xs kept x h.1 p)

-- the last element is passed over
pub pass_last : {X : Type 0} (P : X → Type 0) (xs kept : List X) (x : X) → AreThose P xs kept
    → ¬ P x → AreThose P (xs ++ x ∷ []) kept
pass_last P [] kept x h p = inr (p, h)
pass_last P (y ∷ xs) kept x (inl h) p = inl (h.0, (h.1.0, h.1.1, pass_last P xs h.1.0 x h.1.2 p))
pass_last P (y ∷ xs) kept x (inr h) p = inr (h.0, pass_last P xs kept x h.1 p)

-- the first elements and the next, by a view of them
pub cut : {A X : Type 0} (f : A → X) (list : List A) (i : ℕ) (a : A) → i < length list
    → a ≡ get_or list i a → map f (take (i + 1) list) ≡ map f (take i list) ++ f a ∷ []
cut f list i a below here =
    ap (map f) (take_more list i a below ∙ ap (λ b. take i list ++ b ∷ []) (sym here))
    ∙ map-append f (take i list) (a ∷ [])

-- one more element is kept, by a view of the elements
pub keep_more : {A B X : Type 0} (P : X → Type 0) (f : A → X) (g : B → X) (list : List A) (i : ℕ)
    (a : A) (bs : List B) (b : B)
    → i < length list → a ≡ get_or list i a → g b ≡ f a → P (f a)
    → AreThose P (map f (take i list)) (map g bs) → AreThose P (map f (take (i + 1) list))
    (map g (bs ++ b ∷ []))
keep_more P f g list i a bs b below here same p h =
    rw (cut f list i a below here, map-append g bs (b ∷ []), same)
    (keep_last P (map f (take i list)) (map g bs) (f a) h p)

-- one more element is passed over
pub pass_more : {A X : Type 0} (P : X → Type 0) (f : A → X) (list : List A) (i : ℕ) (a : A)
    (kept : List X)
    → i < length list → a ≡ get_or list i a → ¬ P (f a)
    → AreThose P (map f (take i list)) kept → AreThose P (map f (take (i + 1) list)) kept
pass_more P f list i a kept below here p h =
    rw (cut f list i a below here) (pass_last P (map f (take i list)) kept (f a) h p)
