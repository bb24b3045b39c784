-- What an element gives depends on the macros that it calls, and on no others.
use Rattle.std.proofs.Common.{◌≡◌, ◌++◌, None, Bool, true, false, cond, refl}
use Rattle.std.specs.Prelude.{bytes_eq}
use Rattle.std.proofs.lemmas.Cmp.{nat_list_eq_equiv}
use Rattle.std.proofs.lemmas.Bool.{or_left}
use Rattle.value_styles.specs.Element.{Name, Look, Target, value_target, standard_target, macro_target, term_target, Element, text_element, number_element, date_element, names_element, group_element, choose_element, Elements, no_elements, element, Branches, otherwise, branch}
use Rattle.value_styles.specs.Calls.{Names, target_calls, calls, calls_of_all, calls_of_branches}
use Rattle.value_styles.specs.Ring.{has_name}
use Rattle.driver_styles.proofs.NameLists.{has_name-left, has_name-right}
use Rattle.layout_picking.specs.Env.{Env}
use Rattle.layout_picking.specs.Conditions.{passes, tested}
use Rattle.layout_picking.specs.Pieces.{plain_node}
use Rattle.layout_picking.specs.Picked.{followed, picked_group}
use Rattle.layout_picking.specs.Pick.{Call, group_node, pick_text, pick_with, pick_all_with, pick_first_with}

-- two ways to call macros agree on these names
abbrev pub AgreeOn : Call → Call → Names → Type 0
AgreeOn f g asked = (a : Name) → has_name a asked ≡ true → f a ≡ g a

module _ (env : Env) (f g : Call) where
  on_left : (xs ys : Names) → AgreeOn f g (xs ++ ys) → AgreeOn f g xs
  on_left xs ys h a m = h a (has_name-left a xs ys m)

  on_right : (xs ys : Names) → AgreeOn f g (xs ++ ys) → AgreeOn f g ys
  on_right xs ys h a m = h a (has_name-right a xs ys m)

  text_agrees : (t : Target) (look : Look) (quotes strip : Bool) → AgreeOn f g (target_calls t) → pick_text env f t look quotes strip ≡ pick_text env g t look quotes strip
  text_agrees (value_target t) look quotes strip h = refl
  text_agrees (standard_target v) look quotes strip h = refl
  text_agrees (macro_target name) look quotes strip h =
      let e = h name (or_left (bytes_eq name name) false (nat_list_eq_equiv.refl name)) in
      λ i n. e i (plain_node look quotes strip None) n
  text_agrees (term_target t form plural) look quotes strip h = refl

  -- an element gives the same where the macros that it calls do
  mutual
    pub agrees : (e : Element) → AgreeOn f g (calls e) → pick_with env f e ≡ pick_with env g e
    agrees (text_element target quotes strip look) h = text_agrees target look quotes strip h
    agrees (number_element variable look) h = refl
    agrees (date_element variable look) h = refl
    agrees (names_element variables substitute options look) h = refl
    agrees (group_element children delimiter look) h =
        let e = agrees_all children h in
        λ i n. picked_group (group_node look delimiter) (e i n)
    agrees (choose_element branches) h = agrees_first branches h

    pub agrees_all : (es : Elements) → AgreeOn f g (calls_of_all es) → pick_all_with env f es ≡ pick_all_with env g es
    agrees_all no_elements h = refl
    agrees_all (element e es) h =
        let one = agrees e (on_left (calls e) _ h) in
        let rest = agrees_all es (on_right (calls e) _ h) in
        λ i n. followed (one i n) (rest i (one i n).noted)

    agrees_first : (bs : Branches) → AgreeOn f g (calls_of_branches bs) → pick_first_with env f bs ≡ pick_first_with env g bs
    agrees_first (otherwise es) h = agrees_all es h
    agrees_first (branch conditions rule children bs) h =
        let one = agrees_all children (on_left (calls_of_all children) _ h) in
        let rest = agrees_first bs (on_right (calls_of_all children) _ h) in
        λ i n. cond (passes env rule conditions) (one i (tested conditions n)) (rest i (tested conditions n))
