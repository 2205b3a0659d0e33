-- An answer of a command as an answer of the library.
use Rattle.std.proofs.Common.{◌≡◌, ◌≢◌, ◌⊎◌, ◌∙◌, ◌++◌, ◌∷◌, ◌≤◌, ⊎_elim, [], ℕ, List, Option, Some}
use Rattle.std.proofs.Common.{None, Err, IfErr, IfOk, IsErr, Ok, Result, ap, arith, codes, inl, inr}
use Rattle.std.proofs.Common.{lit≤, refl, subst, sym}
use Rattle.it_disk.specs.declared.fault.Fault.TheVariants.{Run}
use Rattle.it_memory.specs.Files.{in_memory}
use Rattle.it_outcome.specs.Outcome.{exit_status}
use Rattle.it_outcome.specs.declared.outcome.RunFault.{RunFault}
use Rattle.it_outcome.specs.declared.outcome.RunFault.TheVariants.{OutOfMemory, Write}
use Rattle.it_outcome.specs.declared.outcome.Status.{Status}
use Rattle.it_outcome.specs.declared.outcome.Status.TheVariants.{Good, Refused}
use Rattle.it_program.specs.Commands.{IsOutputOf}
use Rattle.it_program.specs.Status.{program_status}
use Rattle.it_program.specs.Stopped.{NamesBegun}
use Rattle.it_program.specs.declared.stop.Stop.{Stop}
use Rattle.it_program.specs.declared.stop.Stop.TheVariants.{OfFault}
use Rattle.it_words.specs.Words.{AreWordsOf}
use Rattle.it_words.specs.declared.words.Words.{Words}
use Rattle.it_library.specs.Answer.{Gives, HasBegun, IsAnswer, IsOutput}
use Rattle.it_library.specs.Handed.{AreHanded}
use Rattle.it_library.specs.inside.Refusal.{IsRefused}

-- the output of a command was refused, or not
refused_or_not : {E : Type 0} (r : Result Status Stop) (error : Option E)
    → IsRefused r error ⊎ (¬ IsRefused r error)
refused_or_not (Ok status) error = inr (λ is. is)
refused_or_not (Err stop) (Some e) = inl (inl refl)
refused_or_not (Err (OfFault (Run Write))) None = inl (inr refl)
refused_or_not (Err stop) None = inr (⊎_elim (λ some. cc) (λ same. cc))

-- why a command stopped shows in the status
run_status : (fault : RunFault) → (2 ≤ exit_status (Err fault)) × (exit_status (Err fault) ≤ 3)
run_status OutOfMemory = (lit≤ tt, lit≤ tt)
run_status _ = (lit≤ tt, lit≤ tt)

stop_status : (stop : Stop) → (2 ≤ program_status (Err stop)) × (program_status (Err stop) ≤ 3)
stop_status (OfFault (Run fault)) = run_status fault
stop_status _ = (lit≤ tt, lit≤ tt)

pub most_status : (r : Result Status Stop) → program_status r ≤ 3
most_status (Ok Good) = lit≤ tt
most_status (Ok Refused) = lit≤ tt
most_status (Err stop) = (stop_status stop).1

module _ (words paths sizes contents : List ℕ) where
  abbrev Begun : (old new : List ℕ) → Type 0
  Begun old new = HasBegun words paths sizes contents old new

  -- what a command answered over the files that were handed over
  pub answered : {E : Type 0} (r : Result Status E) (texts named : List (List ℕ))
      (ordered : List (List ℕ × List ℕ)) (old new : List ℕ)
      → AreHanded words paths sizes contents texts ordered → named ≡ codes "itv" ∷ texts
      → IfOk r (λ status. (command : Words) × (text : List ℕ) × AreWordsOf named command
      × IsOutputOf (in_memory ordered) command text status × (new ≡ old ++ text))
      → IfOk r (IsOutput words paths sizes contents old new)
  answered (Ok status) texts named ordered old new handed are told = (
    told.1,
    record {
      texts = texts;
      ordered = ordered;
      handed = handed;
      command = told.0;
      names = subst (λ ws. AreWordsOf ws told.0) are told.2;
      is_output = told.3;
    },
    told.4,
  )
  answered (Err e) texts named ordered old new handed are told = tt

  -- what went out of a command that stopped, whose output was taken
  pub begun : {E : Type 0} (Same : Type 0) (r : Result Status Stop) (error : Option E)
      (texts named : List (List ℕ)) (ordered : List (List ℕ × List ℕ)) (old new : List ℕ)
      → AreHanded words paths sizes contents texts ordered → named ≡ codes "itv" ∷ texts
      → IfErr r (λ stop. stop ≢ OfFault (Run Write) → error ≡ None
      → Same ⊎ NamesBegun (in_memory ordered) named (Some old) (Some new))
      → IsErr r → ¬ IsRefused r error → Same ⊎ Begun old new
  begun Same (Ok status) error texts named ordered old new handed are told is taken = absurd cc
  begun Same (Err stop) (Some e) texts named ordered old new handed are told is taken =
      absurd (taken (inl refl))
  begun Same (Err stop) None texts named ordered old new handed are told is taken =
      ⊎_elim inl (λ went. inr (record {
        texts = texts;
        ordered = ordered;
        handed = handed;
        begun = subst (λ ws. NamesBegun (in_memory ordered) ws (Some old) (Some new)) are went;
      })) (told (λ same. taken (inr same)) refl)

  alone : (text found : List ℕ) (status : Status) → found ≡ [] ++ text
      → IsAnswer words paths sizes contents text status
      → IsAnswer words paths sizes contents found status
  alone text found status is answer =
      subst (λ t. IsAnswer words paths sizes contents t status) (sym is) answer

  -- what the status says of the output
  told_by : (text : List ℕ) (r : Result Status Stop) (exit : ℕ) → exit ≡ program_status r
      → IfOk r (IsOutput words paths sizes contents [] text)
      → (IsErr r → (text ≡ []) ⊎ Begun [] text) → Gives words paths sizes contents text exit
  told_by text (Ok Good) exit is told stopped = record {
    good = λ zero_is. alone told.0 text Good told.2 told.1;
    refused = λ one. absurd (let e : 0 ≡ 1 = sym is ∙ one in cc);
    stopped = λ least. absurd (omega (arith, is, least));
  }
  told_by text (Ok Refused) exit is told stopped = record {
    good = λ none. absurd (let e : 1 ≡ 0 = sym is ∙ none in cc);
    refused = λ one. alone told.0 text Refused told.2 told.1;
    stopped = λ least. absurd (omega (arith, is, least));
  }
  told_by text (Err stop) exit is told stopped =
      let least = (stop_status stop).0 in
      record {
        good = λ none. absurd (omega (arith, least, is, none));
        refused = λ one. absurd (omega (arith, least, is, one));
        stopped = λ most. stopped refl;
      }

  -- the same of an output that memory may have been refused to, where nothing had gone out before
  pub gives : {E : Type 0} (Same : Type 0) (old went text : List ℕ) (ran r : Result Status Stop)
      (error : Option E) (exit : ℕ) → old ≡ [] → (Same → went ≡ old)
      → IfOk ran (IsOutput words paths sizes contents old went)
      → (IsErr ran → ¬ IsRefused ran error → Same ⊎ Begun old went)
      → (¬ IsRefused ran error → (r ≡ ran) × (text ≡ went))
      → (IsRefused ran error → (r ≡ Err (OfFault (Run OutOfMemory))) × (text ≡ []))
      → exit ≡ program_status r → Gives words paths sizes contents text exit
  gives Same old went text ran r error exit none same ok stopped kept refused is =
      ⊎_elim (λ was. told_by text (Err (OfFault (Run OutOfMemory))) exit
      (is ∙ ap program_status (refused was).0) tt (λ err. inl (refused was).1)) (λ taken.
      subst (λ t. Gives words paths sizes contents t exit) (sym (kept taken).1)
      (told_by went ran exit (is ∙ ap program_status (kept taken).0)
      (subst (λ o. IfOk ran (IsOutput words paths sizes contents o went)) none ok)
      (λ err. ⊎_elim (λ at. inl (same at ∙ none))
      (λ went_on. inr (subst (λ o. Begun o went) none went_on)) (stopped err taken))))
      (refused_or_not ran error)
