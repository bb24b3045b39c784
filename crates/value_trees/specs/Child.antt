-- A tree as contracts see it.
use Rattle.std.specs.Prelude.{◌≡◌, ℕ, List, [], ◌∷◌, Option, refl, nat_eq}
use Rattle.std.specs.Coded.{Coded, coded_ℕ, coded_list, coded_option}
use base.Stored.{Gv, gnil, gnum, gcons}
use Rattle.std.proofs.Common.{ap, true≢false}
use Rattle.value_sources.specs.declared.formatting.Formatted.{Formatted}
use Rattle.value_sources.specs.declared.formatting.Formatting.{Formatting}
use Rattle.value_sources.specs.declared.formatting.Display.{Display}
use Rattle.value_trees.specs.declared.elem.ElemMeta.{ElemMeta}
use Rattle.value_sources.specs.contracts.formatting.Formatted as formatted
use Rattle.value_sources.specs.contracts.formatting.Formatting as formatting
use Rattle.value_sources.specs.contracts.formatting.Display as display
use Rattle.value_trees.specs.contracts.elem.ElemMeta as meta

mutual
  pub data Child : Type 0 where
    text : Formatted → Child
    elem : Kids → Option Display → Option ElemMeta → Child
    markup : List ℕ → Child
    link : Formatted → List ℕ → Child
    transparent : ℕ → Formatting → Child

  pub data Kids : Type 0 where
    no_kids : Kids
    kid : Child → Kids → Kids

-- the children as a list, and back
abbrev pub kids_of : List Child → Kids
kids_of [] = no_kids
kids_of (c ∷ cs) = kid c (kids_of cs)

abbrev pub list_of : Kids → List Child
list_of no_kids = []
list_of (kid c ks) = c ∷ list_of ks

pub list_of-kids_of : (cs : List Child) → list_of (kids_of cs) ≡ cs
list_of-kids_of [] = refl
list_of-kids_of (c ∷ cs) = ap (λ ds. c ∷ ds) (list_of-kids_of cs)

pub kids_of-list_of : (ks : Kids) → kids_of (list_of ks) ≡ ks
kids_of-list_of no_kids = refl
kids_of-list_of (kid c ks) = ap (kid c) (kids_of-list_of ks)

-- the code of a tree
abbrev pub formatted_code : Coded Formatted
formatted_code = (formatted.the_row).coded

abbrev pub formatting_code : Coded Formatting
formatting_code = (formatting.the_row).coded

abbrev pub bytes_code : Coded (List ℕ)
bytes_code = coded_list coded_ℕ

abbrev pub shown_code : Coded (Option Display)
shown_code = coded_option (display.the_row).coded

abbrev pub meta_code : Coded (Option ElemMeta)
meta_code = coded_option (meta.the_row).coded

abbrev mutual
  pub child_code : Child → Gv
  child_code (text f) = gcons (gnum 0) (formatted_code.code f)
  child_code (elem ks d m) =
      gcons (gnum 1) (gcons (kids_code ks) (gcons (shown_code.code d) (meta_code.code m)))
  child_code (markup s) = gcons (gnum 2) (bytes_code.code s)
  child_code (link f s) = gcons (gnum 3) (gcons (formatted_code.code f) (bytes_code.code s))
  child_code (transparent i f) = gcons (gnum 4) (gcons (gnum i) (formatting_code.code f))

  pub kids_code : Kids → Gv
  kids_code no_kids = gnil
  kids_code (kid c ks) = gcons (child_code c) (kids_code ks)

abbrev first : Gv → Gv
first gnil = gnil
first (gnum n) = gnil
first (gcons a b) = a

abbrev second : Gv → Gv
second gnil = gnil
second (gnum n) = gnil
second (gcons a b) = b

abbrev number : Gv → ℕ
number gnil = 0
number (gnum n) = n
number (gcons a b) = 0

abbrev tag : Gv → ℕ
tag v = number (first v)

mutual
  pub child_inj : (x y : Child) → child_code x ≡ child_code y → x ≡ y
  child_inj (text f) (text g) p = ap text (formatted_code.inj f g (ap second p))
  child_inj (elem ks d m) (elem ls e n) p = λ i. elem
      (kids_inj ks ls (ap (λ g. first (second g)) p) i)
      (shown_code.inj d e (ap (λ g. first (second (second g))) p) i)
      (meta_code.inj m n (ap (λ g. second (second (second g))) p) i)
  child_inj (markup s) (markup t) p = ap markup (bytes_code.inj s t (ap second p))
  child_inj (link f s) (link g t) p =
      λ i. link (formatted_code.inj f g (ap (λ v. first (second v)) p) i)
      (bytes_code.inj s t (ap (λ v. second (second v)) p) i)
  child_inj (transparent a f) (transparent b g) p =
      λ i. transparent (ap (λ v. number (first (second v))) p i)
      (formatting_code.inj f g (ap (λ v. second (second v)) p) i)
  child_inj x y p =
      absurd (true≢false (ap (λ v. nat_eq (tag (child_code x)) (tag v)) p))

  pub kids_inj : (x y : Kids) → kids_code x ≡ kids_code y → x ≡ y
  kids_inj no_kids no_kids p = refl
  kids_inj (kid c ks) (kid d ls) p =
      λ i. kid (child_inj c d (ap first p) i) (kids_inj ks ls (ap second p) i)
  kids_inj _ _ p = cc

abbrev pub coded_child : Coded Child
coded_child = record { code = child_code; inj = child_inj }

abbrev pub coded_children : Coded (List Child)
coded_children = coded_list coded_child
