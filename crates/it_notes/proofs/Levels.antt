-- Going down to a layout, a place at a time.
use Rattle.std.proofs.Common.{◌≡◌, ℕ, List, [], ◌∷◌, None, refl, subst, sym}
use Rattle.it_dsse.specs.Panel.{Panel}
use Rattle.it_verify.specs.declared.inputs.Inputs.{Inputs}
use Rattle.it_notes.specs.Known.{IsKnown}
use Rattle.it_notes.specs.Level.{IsBelow, IsReached, LeadsTo, Place, StepsStand}
use Rattle.it_notes.specs.declared.fault_level.FaultLevel.{FaultLevel}
use Rattle.it_notes.specs.declared.known.Known.{Known}

pub leads_further : (panel : Panel) (level next below : FaultLevel) (places rest : List Place)
    (place : Place) → places ≡ place ∷ rest → IsBelow panel level place next
    → LeadsTo panel next rest below → LeadsTo panel level places below
leads_further panel level next below places rest place is is_below leads =
    rw is (next, is_below, leads)

-- the records of a sublayout's steps are not at hand
no_steps : (panel : Panel) (next : FaultLevel) (rest : List Place) (below : FaultLevel)
    → next.steps ≡ None → LeadsTo panel next rest below → below.steps ≡ None
no_steps panel next [] below none leads = rw leads none
no_steps panel next (place ∷ rest) below none leads =
    no_steps panel leads.0 rest below leads.1.no_steps leads.2

pub no_steps_below : (panel : Panel) (depth : ℕ) (next : FaultLevel) (rest : List Place)
    (below : FaultLevel) → next.steps ≡ None → LeadsTo panel next rest below
    → StepsStand panel depth below
no_steps_below panel depth next rest below none leads =
    rw (no_steps panel next rest below none leads) tt

-- what is known of inputs is known of those that it names
pub own_inputs : (panel : Panel) (inputs : Inputs) (known : Known) → IsKnown panel inputs known
    → IsKnown panel known.inputs.now known
own_inputs panel inputs known is = subst (λ i. IsKnown panel i known) (sym is.inputs_are) is

-- no places lead to the given layout
pub top_reached : (panel : Panel) (inputs : Inputs) (known : Known) (at : List Place)
    → at ≡ [] → IsKnown panel inputs known → IsReached panel inputs at known.top
top_reached panel inputs known at none is = record {
  is_level = record {
    top = known.top;
    is_top = is.top;
    leads = rw none refl;
  };
  steps = is.steps;
}
