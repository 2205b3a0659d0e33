use Rattle.std.proofs.Common.{◌∙◌, Bor, List, ap, arith, length, rules, ℕ}
use Rattle.std.proofs.lemmas.Map.Text.{is_eq-slice_cmp}
use Rattle.it_places.proofs.Putting.{put}
use Rattle.it_places.proofs.places.Places.put.Goals as goal

pub returns : goal.returns
returns c =
    let text = c.args.text.now in
    let update = c.in_ok-self.ensures.update.0 c.push.new.self in
    let others = update.2 in
    let at : List ℕ → Bor (List ℕ) = λ f. record { ref_ptr = (0, 0); now = f } in
    put text c.args.place c.args.self.now _ c.or_default.result.now c.push.new.self _
    (rw c.in_ok-self.ensures.value at c.or_default.ensures.value)
    (λ v empty p has. let no = ap length empty.0 in omega (arith, has.1, no)) c.in_ok-push.ensures.items
    (search rules)
    (λ f e. grind (arith, others (at f) (is_eq-slice_cmp text f ∙ e)))
