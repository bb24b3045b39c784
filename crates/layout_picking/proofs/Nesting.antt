-- A layout is picked with each call of a macro meaning that macro's children.
use Rattle.std.proofs.Common.{◌≡◌, ℕ, zero, suc, List, length, Option, Some, None, sym, ap, ◌∙◌, refl}
use Rattle.value_styles.specs.Element.{Name, Elements, Macro}
use Rattle.value_styles.specs.Ring.{body_of, body_calls, Calls, HasNoRing}
use Rattle.layout_picking.specs.declared.notes.Notes.{Notes}
use Rattle.layout_picking.specs.Env.{Env}
use Rattle.layout_picking.specs.Pieces.{NodeValue}
use Rattle.layout_picking.specs.Picked.{Picked, nothing, in_macro}
use Rattle.layout_picking.specs.Pick.{Call, body_picked, pick_all_with, called_macro, call_of, MacrosUnfold}
use Rattle.layout_picking.proofs.Agree.{AgreeOn, agrees_all}
use Rattle.driver_styles.proofs.Settled.{meaning, settled}

module _ (env : Env) (ms : List Macro) where
  -- what a call gives, where `call` says it of the calls inside
  abbrev level : Call → Call
  level call name node n = body_picked (pick_all_with env call) (body_of name ms) node n

  abbrev nil : NodeValue → Notes → Picked
  nil node n = nothing n

  by_body : (f g : Call) (o : Option Elements) → AgreeOn f g (body_calls o) → (node : NodeValue) (n : Notes)
      → body_picked (pick_all_with env f) o node n ≡ body_picked (pick_all_with env g) o node n
  by_body f g None h node n = refl
  by_body f g (Some es) h node n = ap (λ (p : Notes → Picked). in_macro node (p n)) (agrees_all env f g es h)

  agree : (f g : Call) (a : Name) → ((b : Name) → Calls ms a b → f b ≡ g b) → level f a ≡ level g a
  agree f g a h = λ i node n. by_body f g (body_of a ms) h node n i

  bare : (f : Call) (a : Name) → None ≡ body_of a ms → level f a ≡ nil
  bare f a e = λ i node n. ap (λ o. body_picked (pick_all_with env f) o node n) (sym e) i

  module _ (no_ring : HasNoRing ms) where
    abbrev means : ℕ → Call
    means = meaning ms no_ring nil level agree bare

    is_meaning : (n : ℕ) → called_macro env ms n ≡ means n
    is_meaning zero = refl
    is_meaning (suc n) = ap level (is_meaning n)

    pub call_settled : (a : Name) → call_of env ms a ≡ called_macro env ms (length ms) a
    call_settled a =
        ap (λ f. level f a) (is_meaning (length ms)) ∙ settled ms no_ring nil level agree bare a ∙ sym (ap (λ f. f a) (is_meaning (length ms)))

pub macros_unfold : MacrosUnfold
macros_unfold env ms no_ring es n =
    ap (λ f. f n) (agrees_all env (called_macro env ms (length ms)) (call_of env ms) es (λ a _. sym (call_settled env ms no_ring a)))
