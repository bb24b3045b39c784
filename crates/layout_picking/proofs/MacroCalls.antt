-- The call of a macro, over plain data.
use Rattle.std.proofs.Common.{◌≡◌, ℕ, zero, suc, ◌-◌, ◌<◌, List, Some, ap, ◌∙◌, arith}
use Rattle.value_styles.specs.Element.{Name, Elements, Macro}
use Rattle.value_styles.specs.Ring.{body_of}
use Rattle.layout_picking.specs.declared.notes.Notes.{Notes}
use Rattle.layout_picking.specs.Env.{Env}
use Rattle.layout_picking.specs.Pieces.{NodeValue}
use Rattle.layout_picking.specs.Picked.{in_macro}
use Rattle.layout_picking.specs.Pick.{pick_all_with, body_picked, called_macro}

-- the call of a macro that is there
pub macro_called : (env : Env) (macros : List Macro) (depth : ℕ) (name : Name) (node : NodeValue) (n : Notes) (body : Elements)
    → 0 < depth → Some body ≡ body_of name macros
    → in_macro node (pick_all_with env (called_macro env macros (depth - 1)) body n) ≡ called_macro env macros depth name node n
macro_called env macros zero name node n body h e = absurd (omega arith)
macro_called env macros (suc depth) name node n body h e =
    let d : suc depth - 1 ≡ depth = omega arith in
    ap (λ k. in_macro node (pick_all_with env (called_macro env macros k) body n)) d
    ∙ ap (λ o. body_picked (pick_all_with env (called_macro env macros depth)) o node n) e
