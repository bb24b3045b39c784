-- The last text of a tree after a write.
use Rattle.std.proofs.Common.{◌≡◌, List, Option, None, Some, is_some, true, refl, sym, ap, ◌∙◌}
use Rattle.value_trees.specs.Child.{Child, text, elem, markup, link, transparent, Kids, no_kids, kid, kids_of, list_of, kids_of-list_of, list_of-kids_of}
use Rattle.value_trees.specs.Tree.{last_text, child_last_text, kids_last_text}
use Rattle.value_trees.specs.LastText.{put_last_text, child_put_last_text, kids_put_last_text}
use Rattle.value_sources.specs.declared.formatting.Formatted.{Formatted}

abbrev given_or : Formatted → Option Formatted → Formatted
given_or g None = g
given_or g (Some f) = f

-- what was written is read
mutual
  child_read : (c : Child) (w : Formatted) → is_some (child_last_text c) ≡ true → child_last_text (child_put_last_text c w) ≡ Some w
  child_read (text f) w e = refl
  child_read (elem ks d m) w e = kids_read ks w e
  child_read (markup s) w e = cc
  child_read (link f s) w e = cc
  child_read (transparent i f) w e = cc

  kids_read : (ks : Kids) (w : Formatted) → is_some (kids_last_text ks) ≡ true → kids_last_text (kids_put_last_text ks w) ≡ Some w
  kids_read no_kids w e = cc
  kids_read (kid c no_kids) w e = child_read c w e
  kids_read (kid c (kid d no_kids)) w e = child_read d w e
  kids_read (kid c (kid d (kid b ks))) w e = kids_read (kid d (kid b ks)) w e

pub read_after_write : (cs : List Child) (w : Formatted) → is_some (last_text cs) ≡ true → last_text (put_last_text cs w) ≡ Some w
read_after_write cs w e = ap kids_last_text (kids_of-list_of (kids_put_last_text (kids_of cs) w)) ∙ kids_read (kids_of cs) w e

-- what was read, written back
mutual
  child_same : (c : Child) (f : Formatted) → child_last_text c ≡ Some f → child_put_last_text c f ≡ c
  child_same (text g) f e = ap (λ o. text (given_or g o)) (sym e)
  child_same (elem ks d m) f e = ap (λ ls. elem ls d m) (kids_same ks f e)
  child_same (markup s) f e = cc
  child_same (link g s) f e = cc
  child_same (transparent i g) f e = cc

  kids_same : (ks : Kids) (f : Formatted) → kids_last_text ks ≡ Some f → kids_put_last_text ks f ≡ ks
  kids_same no_kids f e = cc
  kids_same (kid c no_kids) f e = ap (λ b. kid b no_kids) (child_same c f e)
  kids_same (kid c (kid d ks)) f e = ap (kid c) (kids_same (kid d ks) f e)

pub write_what_is_read : (cs : List Child) (f : Formatted) → last_text cs ≡ Some f → put_last_text cs f ≡ cs
write_what_is_read cs f e = ap list_of (kids_same (kids_of cs) f e) ∙ list_of-kids_of cs

-- a write where there is none
mutual
  child_none : (c : Child) (w : Formatted) → child_last_text c ≡ None → child_put_last_text c w ≡ c
  child_none (text g) w e = cc
  child_none (elem ks d m) w e = ap (λ ls. elem ls d m) (kids_none ks w e)
  child_none (markup s) w e = refl
  child_none (link g s) w e = refl
  child_none (transparent i g) w e = refl

  kids_none : (ks : Kids) (w : Formatted) → kids_last_text ks ≡ None → kids_put_last_text ks w ≡ ks
  kids_none no_kids w e = refl
  kids_none (kid c no_kids) w e = ap (λ b. kid b no_kids) (child_none c w e)
  kids_none (kid c (kid d ks)) w e = ap (kid c) (kids_none (kid d ks) w e)

pub no_text_no_change : (cs : List Child) (w : Formatted) → last_text cs ≡ None → put_last_text cs w ≡ cs
no_text_no_change cs w e = ap list_of (kids_none (kids_of cs) w e) ∙ list_of-kids_of cs
