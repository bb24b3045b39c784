-- A tree with its last text replaced.
use Rattle.std.specs.Prelude.{List}
use Rattle.value_trees.specs.Child.{Child, text, elem, markup, link, transparent, Kids, no_kids, kid, kids_of, list_of}
use Rattle.value_sources.specs.declared.formatting.Formatted.{Formatted}

-- in one child, and in the last of several
abbrev mutual
  pub child_put_last_text : Child → Formatted → Child
  child_put_last_text (text f) w = text w
  child_put_last_text (elem ks d m) w = elem (kids_put_last_text ks w) d m
  child_put_last_text (markup s) w = markup s
  child_put_last_text (link f s) w = link f s
  child_put_last_text (transparent i f) w = transparent i f

  pub kids_put_last_text : Kids → Formatted → Kids
  kids_put_last_text no_kids w = no_kids
  kids_put_last_text (kid c ks) w =
      elim ks [
        | no_kids ↦ kid (child_put_last_text c w) no_kids
        | kid _ _ ↦ kid c
            (kids_put_last_text ks w)
      ]

-- the tree with its last text replaced; the same tree where there is none
abbrev pub put_last_text : List Child → Formatted → List Child
put_last_text cs w = list_of (kids_put_last_text (kids_of cs) w)
