-- Cites that are joined one after another.
use Rattle.std.proofs.Common.{◌≡◌, Bool, true, false, cond, List, [], ◌∷◌, ◌++◌, refl, ap, sym, ◌∙◌, append-nil, append_assoc}
use Rattle.std.specs.List.{flat_map}
use Rattle.std.proofs.lemmas.Grind.{flat_map-append}
use Rattle.value_sources.specs.declared.formatting.Formatting.{Formatting}
use Rattle.driver_assembly.specs.Assembly.{Shown, behind_delimiter, joined_cites}

-- there is no cite yet
abbrev pub is_none_yet : List Shown → Bool
is_none_yet [] = true
is_none_yet (c ∷ cs) = false

pub is_none_yet-push : (cs : List Shown) (c : Shown) → is_none_yet (cs ++ c ∷ []) ≡ false
is_none_yet-push [] c = refl
is_none_yet-push (d ∷ ds) c = refl

pub joined-push : (f : Formatting) (cs : List Shown) (c : Shown)
    → joined_cites f (cs ++ c ∷ []) ≡ joined_cites f cs ++ cond (is_none_yet cs) c.tree (behind_delimiter f c)
joined-push f [] c = append-nil c.tree
joined-push f (d ∷ ds) c =
    ap (λ t. d.tree ++ t) (flat_map-append (behind_delimiter f) ds (c ∷ []) ∙ ap (λ t. flat_map (behind_delimiter f) ds ++ t) (append-nil (behind_delimiter f c)))
    ∙ sym (append_assoc d.tree (flat_map (behind_delimiter f) ds) (behind_delimiter f c))
